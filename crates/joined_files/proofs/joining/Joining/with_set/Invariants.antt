use Rattle.std.proofs.Common.{◌≡◌}
use Rattle.joined_files.specs.Joining.{with_set}
use Rattle.joined_files.proofs.joining.Joining.with_set.Given as goal

-- the files so far are joined
abbrev pub invariant-loop-file : goal.invariant-loop-file
invariant-loop-file l = l.joining ≡ with_set l.initial.joining l.set l.yielded
