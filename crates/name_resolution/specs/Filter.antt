-- Which kinds of definition a reference wants.
use Rattle.std.specs.Prelude.{ℕ, Bool, true, false, List, codes}
use Rattle.pool_types.specs.declared.contents.definition.DefinitionKind.{DefinitionKind}
use Rattle.pool_types.specs.declared.contents.definition.DefinitionKind.TheVariants as definition
use Rattle.name_resolution.specs.declared.filter.ResolveNameFilter.{ResolveNameFilter}
use Rattle.name_resolution.specs.declared.filter.ResolveNameFilter.TheVariants as filter

-- whether a definition is of the kind that a reference wants; for the type of a field that is a
-- message or an enum
abbrev pub is_match : ResolveNameFilter → DefinitionKind → Bool
is_match filter.Message (definition.Message _) = true
is_match filter.Extension (definition.Extension _) = true
is_match filter.FieldType (definition.Message _) = true
is_match filter.FieldType (definition.Enum _) = true
is_match _ _ = false

-- the words for what a reference wants
abbrev pub filter_text : ResolveNameFilter → List ℕ
filter_text filter.Message = codes "a message type"
filter_text filter.Extension = codes "an extension"
filter_text filter.FieldType = codes "a message or enum type"
