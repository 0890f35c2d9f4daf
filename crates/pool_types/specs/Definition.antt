-- What the kind of a definition says.
use Rattle.std.specs.Prelude.{Bool, true, false}
use Rattle.pool_types.specs.declared.contents.definition.DefinitionKind.{DefinitionKind}
use Rattle.pool_types.specs.declared.contents.definition.DefinitionKind.TheVariants as kind

-- whether other declarations may stand in a definition: it is a package, a message, a service or an
-- enum
abbrev pub is_parent : DefinitionKind → Bool
is_parent kind.Package = true
is_parent (kind.Message _) = true
is_parent (kind.Service _) = true
is_parent (kind.Enum _) = true
is_parent _ = false

-- whether a kind of definition is a package
abbrev pub is_package : DefinitionKind → Bool
is_package kind.Package = true
is_package _ = false
