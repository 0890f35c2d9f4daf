-- A message that is found is one of those that names mean.
use Rattle.std.proofs.Common.{◌≡◌, ◌<◌, ℕ, true}
use Rattle.std.specs.Option.{IfSome}
use Rattle.pool_types.specs.declared.contents.definition.DefinitionKind.{DefinitionKind}
use Rattle.pool_types.specs.declared.contents.definition.DefinitionKind.TheVariants as definition
use Rattle.name_resolution.specs.declared.filter.ResolveNameFilter.TheVariants.{Message}
use Rattle.name_resolution.specs.Filter.{is_match}
use Rattle.reference_pass.specs.References.{message_index, index_or_max}

-- a message that is found has its index below the limit of all that are named
pub message-wanted : (end : ℕ) (kind : DefinitionKind) → is_match Message kind ≡ true → IfSome (message_index kind) (λ i. i < end) → index_or_max (message_index kind) < end
message-wanted end (definition.Message i) is below = below
message-wanted end definition.Package is below = absurd (cc)
message-wanted end (definition.Field i) is below = absurd (cc)
message-wanted end (definition.Oneof i) is below = absurd (cc)
message-wanted end (definition.Service i) is below = absurd (cc)
message-wanted end (definition.Method i) is below = absurd (cc)
message-wanted end (definition.Enum i) is below = absurd (cc)
message-wanted end (definition.EnumValue i) is below = absurd (cc)
message-wanted end (definition.Extension i) is below = absurd (cc)
