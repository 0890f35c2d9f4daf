use Rattle.std.proofs.Common.{subst}
use Rattle.wire_format.specs.Tokens.{value_seen}
use Rattle.proto_types.specs.declared.message.DescriptorProto.{DescriptorProto}
use Rattle.descriptor_decoding.specs.Merging.{Merge, Leaves}
use Rattle.descriptor_decoding.proofs.Levels.{level}
use Rattle.descriptor_decoding.proofs.messages.DescriptorProtoMessage.merge_field.Goals as goal

pub returns : goal.returns
returns c =
    let f = c.args.field.now in
    let call = c.merge_message_field in
    subst (λ (merge : Merge DescriptorProto). Leaves call.result call.new.message (merge f.number (value_seen f.value) c.args.self.now)) (level c.args.context.levels) call.ensures
