use Rattle.std.proofs.Common.{◌≡◌, ◌++◌, take}
use Rattle.std.specs.List.{enumerate_from, flat_map}
use Rattle.plain_data.specs.Lists.{only_if}
use Rattle.proto_types.specs.Paths.{entry_path}
use Rattle.proto_types.specs.declared.message.DescriptorProto.{out-DescriptorProto}
use Rattle.proto_types.specs.declared.tag.message.TheConstants as message
use Rattle.verdict_texts.specs.Places.{names_no_oneof}
use Rattle.verdict_texts.proofs.places.add_fields.Given as goal

-- the fields so far are looked at
abbrev pub invariant-loop-position : goal.invariant-loop-position
invariant-loop-position l = l.paths.items ≡ l.initial.paths.items
    ++ flat_map (λ e. only_if (names_no_oneof l.message e.1) (entry_path l.path message.FIELD e.0)) (enumerate_from 0 (take l.position (out-DescriptorProto l.message).field))
