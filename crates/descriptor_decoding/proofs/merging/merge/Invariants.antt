use Rattle.std.proofs.Common.{◌≡◌, length}
use Rattle.descriptor_decoding.specs.Merging.{merged_from}
use Rattle.descriptor_decoding.proofs.merging.merge.Given as goal

abbrev pub invariant-loop-field : goal.invariant-loop-field
invariant-loop-field g l =
    let read = merged_from l.context.levels (g.M.Message.merged l.context.levels) in
    read l.ends l.rest l.message ≡ read l.ends l.bytes l.fn.message

abbrev pub decreases-loop-field : goal.decreases-loop-field
decreases-loop-field g l = length l.rest
