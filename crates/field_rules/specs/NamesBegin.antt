-- That a declared name begins in its full name where a character begins.
use Rattle.std.specs.List.{All}
use Rattle.std.specs.Str.{IsCharBoundary}
use Rattle.pool_types.specs.declared.contents.definition.Identity.{Identity}
use Rattle.pool_types.specs.declared.contents.enumeration.EnumDescriptorInner.{EnumDescriptorInner}

-- the name of an identity begins in its full name where a character begins, so that it is a text of
-- its own
abbrev pub BeginsAtBoundary : Identity → Type 0
BeginsAtBoundary id = IsCharBoundary id.full_name id.name_index

-- the names of an enum and of its values begin in their full names where a character begins
pub record EnumNamesBegin (e : EnumDescriptorInner) : Type 0 where
  pub own : BeginsAtBoundary e.id
  pub values : All (λ v. BeginsAtBoundary v.id) e.values
