-- A message's fields, by its own and those of the messages in it.
use Rattle.std.proofs.Common.{◌≡◌, List, map}
use Rattle.wire_format.specs.Encoding.{Numbered}
use Rattle.proto_types.specs.declared.message.DescriptorProto.{DescriptorProto, out-DescriptorProto}
use Rattle.proto_types.specs.declared.message.DescriptorProto.TheFolds.{fold_out-DescriptorProto}
use Rattle.descriptor_encoding.specs.Messages.{message_row_listed, descriptor_listed}

pub descriptor_out : (m : DescriptorProto) → descriptor_listed m ≡ message_row_listed (out-DescriptorProto m) (map descriptor_listed (out-DescriptorProto m).nested_type)
descriptor_out = fold_out-DescriptorProto (List Numbered) (λ d. message_row_listed d d.nested_type)
