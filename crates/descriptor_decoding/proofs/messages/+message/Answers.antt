use Rattle.std.proofs.Common.{Result, subst}
use Rattle.wire_format.specs.declared.fault.WireFault.{WireFault}
use Rattle.proto_types.specs.declared.message.DescriptorProto.{DescriptorProto}
use Rattle.descriptor_decoding.specs.Merging.{Leaves}
use Rattle.descriptor_decoding.proofs.Levels.{next_level}
use Rattle.descriptor_decoding.proofs.messages.+message.Goals as goal

pub merge_nested_inner-returns : goal.merge_nested_inner-returns
merge_nested_inner-returns t c =
    let call = c.merge_nested_fields in
    subst (λ (r : Result DescriptorProto WireFault). Leaves call.result call.new.message r) (next_level _ _ _ _ _ c.in_ok-inner.ensures) call.ensures
