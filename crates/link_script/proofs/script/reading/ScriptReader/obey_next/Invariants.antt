use Rattle.std.proofs.Common.{◌≡◌, length}
use Rattle.link_script.specs.Script.Answers.{bytes_left}
use Rattle.link_script.specs.Script.Left.{left_of, IsCounted}
use Rattle.link_script.proofs.script.reading.ScriptReader.obey_next.Given as goal

-- as much is left as before, and none was obeyed
abbrev pub invariant-loop-line : goal.invariant-loop-line
invariant-loop-line g l = record {
  counted : IsCounted l.self-inside;
  same : left_of l.self-inside ≡ l.fn.self;
  none : l.to ≡ l.fn.to;
}

abbrev pub decreases-loop-line : goal.decreases-loop-line
decreases-loop-line g l = length (bytes_left l.self-inside.left)
