-- The full name of each message and of each enum of a pool means it.
use Rattle.std.specs.Prelude.{◌≡◌, ℕ, List, slice_get}
use Rattle.std.specs.FinMap as finite
use Rattle.std.specs.Option.{IfSome, option_map}
use Rattle.std.specs.declared.option.Option.TheVariants.{Some}
use Rattle.pool_types.specs.Contents.{Contents}
use Rattle.pool_types.specs.declared.contents.definition.DefinitionKind.{DefinitionKind}
use Rattle.pool_types.specs.declared.contents.definition.DefinitionKind.TheVariants as definition

-- a full name means a definition of a kind, with its index
abbrev pub Means : Contents → List ℕ → DefinitionKind → Type 0
Means p name kind = option_map (λ def. def.kind) (finite.get p.names name) ≡ Some kind

-- the full name of each message and of each enum of a pool means it, by its index: so no two of
-- them have one full name
pub record FullNamesMean (p : Contents) : Type 0 where
  pub messages : (n : ℕ)
      → IfSome (slice_get p.messages n) (λ m. Means p m.id.full_name (definition.Message n))
  pub enums : (n : ℕ)
      → IfSome (slice_get p.enums n) (λ e. Means p e.id.full_name (definition.Enum n))
