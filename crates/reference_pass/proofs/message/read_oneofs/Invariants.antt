use Rattle.std.proofs.Common.{◌≡◌, take}
use Rattle.std.specs.List.{All}
use Rattle.proto_types.specs.declared.message.DescriptorProto.{out-DescriptorProto}
use Rattle.reference_pass.specs.Items.{oneof_items}
use Rattle.field_rules.specs.NamesBegin.{BeginsAtBoundary}
use Rattle.record_walk.specs.Place.{inside_of}
use Rattle.reference_pass.proofs.message.read_oneofs.Given as goal

-- the oneofs so far are read
abbrev pub invariant-loop-position : goal.invariant-loop-position
invariant-loop-position l = record {
  items : l.items.items ≡ oneof_items (out-DescriptorProto l.message).field (inside_of l.place) (take l.position (out-DescriptorProto l.message).oneof_decl);
  begin : All (λ o. BeginsAtBoundary o.id) l.items.items;
}
