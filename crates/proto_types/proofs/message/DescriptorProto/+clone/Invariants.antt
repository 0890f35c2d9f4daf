use Rattle.std.proofs.Common.{◌≡◌, take}
use Rattle.proto_types.proofs.message.DescriptorProto.+clone.Given as goal

-- the nested messages so far are copied
abbrev pub invariant-loop-message : goal.invariant-loop-message
invariant-loop-message l = l.nested_type ≡ take l.message-index l.message-items
