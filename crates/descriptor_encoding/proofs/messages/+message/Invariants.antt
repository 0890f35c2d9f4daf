use Rattle.std.proofs.Common.{◌≡◌, ◌≤◌, drop, length, map}
use Rattle.descriptor_encoding.specs.Fronts.{in_front}
use Rattle.wire_format.specs.Encoding.{encoding}
use Rattle.descriptor_encoding.specs.Parts.{messages_listed}
use Rattle.descriptor_encoding.specs.Messages.{descriptor_listed}
use Rattle.descriptor_encoding.proofs.messages.+message.Given as goal

abbrev pub invariant-put_nested-loop-left : goal.invariant-put_nested-loop-left
invariant-put_nested-loop-left l =
    (l.left ≤ length l.messages) × (l.out ≡ in_front (encoding (messages_listed 3 (map descriptor_listed (drop l.left l.messages)))) l.fn.out)

abbrev pub decreases-put_nested-loop-left : goal.decreases-put_nested-loop-left
decreases-put_nested-loop-left l = l.left
