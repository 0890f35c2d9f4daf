use Rattle.std.proofs.Common.{◌≡◌, map}
use Rattle.joined_files.proofs.joining.records.Given as goal

-- the records so far
abbrev pub invariant-loop-file : goal.invariant-loop-file
invariant-loop-file l = l.records.items ≡ map (λ f. f.file) l.yielded
