use Rattle.std.proofs.Common.{◌≡◌, drop}
use Rattle.joined_files.specs.Joining.{none_joined}
use Rattle.descriptor_check.specs.Batches.{batch_behind}
use Rattle.descriptor_check.proofs.batches.read_batch.Given as goal

-- the files so far, and those of the inputs that are left
abbrev pub invariant-loop-input : goal.invariant-loop-input
invariant-loop-input l =
    batch_behind l.joining (drop l.input-index l.inputs) ≡ batch_behind none_joined l.inputs
