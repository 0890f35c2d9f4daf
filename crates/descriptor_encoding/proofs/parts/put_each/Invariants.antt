use Rattle.std.proofs.Common.{◌≡◌, ◌≤◌, drop, length, map}
use Rattle.descriptor_encoding.specs.Fronts.{in_front}
use Rattle.wire_format.specs.Encoding.{encoding}
use Rattle.descriptor_encoding.specs.Parts.{messages_listed}
use Rattle.descriptor_encoding.proofs.parts.put_each.Given as goal

abbrev pub invariant-loop-left : goal.invariant-loop-left
invariant-loop-left g l =
    (l.left ≤ length l.messages) × (l.out ≡ in_front (encoding (messages_listed l.field (map g.M.Encode.listed (drop l.left l.messages)))) l.fn.out)

abbrev pub decreases-loop-left : goal.decreases-loop-left
decreases-loop-left g l = l.left
