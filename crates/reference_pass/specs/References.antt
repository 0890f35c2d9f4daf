-- References to messages: what a method takes and gives, and what an extension extends.
use Rattle.std.specs.Prelude.{ℕ, ◌-◌, ◌^◌, List, unwrap_or}
use Rattle.std.specs.Option.{option_and_then}
use Rattle.std.specs.declared.option.Option.{Option}
use Rattle.std.specs.declared.option.Option.TheVariants.{None, Some}
use Rattle.proto_types.specs.declared.tag.service.TheConstants as service
use Rattle.proto_types.specs.declared.records.service.MethodDescriptorProto.{MethodDescriptorProto}
use Rattle.proto_types.specs.Readers.{text_of}
use Rattle.pool_types.specs.declared.contents.definition.DefinitionKind.{DefinitionKind}
use Rattle.pool_types.specs.declared.contents.definition.DefinitionKind.TheVariants as definition
use Rattle.record_walk.specs.Protos.{of_method}
use Rattle.record_walk.specs.Shown.{Shown, Surrounding}
use Rattle.name_resolution.specs.declared.filter.ResolveNameFilter.TheVariants.{Message}
use Rattle.name_resolution.specs.Resolution.{Resolution, kind_found}
use Rattle.record_walk.specs.Place.{part_inside}
use Rattle.reference_pass.specs.Setting.{Setting, resolve}

-- the index of a message, where a definition is one
abbrev pub message_index : DefinitionKind → Option ℕ
message_index (definition.Message m) = Some m
message_index _ = None

-- the index of the message that was found
abbrev pub message_found : Resolution → Option ℕ
message_found r = option_and_then message_index (kind_found r)

-- an index, or where there is none the largest number of 32 bits
abbrev pub index_or_max : Option ℕ → ℕ
index_or_max n = unwrap_or n (2 ^ 32 - 1)

-- what the name of a message means that a declaration refers to: an input, an output or an
-- extendee; the scope is the full name of the declaration, and a missing name is the empty text
abbrev pub resolve_message : Setting → Shown → Option (List ℕ) → Resolution
resolve_message s d name = resolve s d.file d.full_name Message (text_of name)

-- the method with a position, in surroundings
abbrev pub method_at : Surrounding → ℕ → MethodDescriptorProto → Shown
method_at here position m = part_inside here service.METHOD position (of_method m)
