use Rattle.std.proofs.Common.{◌≡◌, ◌++◌}
use Rattle.verdict_texts.proofs.declaring.push_all.Given as goal

-- the names so far are behind the others
abbrev pub invariant-loop-name : goal.invariant-loop-name
invariant-loop-name l = l.names ≡ l.initial.names ++ l.yielded
