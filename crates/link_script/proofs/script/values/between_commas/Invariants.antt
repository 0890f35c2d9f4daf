use Rattle.std.proofs.Common.{◌≡◌, length}
use Rattle.std.specs.Str.{IsUtf8}
use Rattle.link_script.specs.Script.Answers.{numbers_between}
use Rattle.link_script.proofs.NumberLists.{behind}
use Rattle.link_script.proofs.script.values.between_commas.Given as goal

-- the numbers so far are the first of all
abbrev pub invariant-loop-numbers : goal.invariant-loop-numbers
invariant-loop-numbers l = record {
  text : IsUtf8 l.left;
  said : numbers_between l.fn.word ≡ behind l.numbers (numbers_between l.left);
}

abbrev pub decreases-loop-numbers : goal.decreases-loop-numbers
decreases-loop-numbers l = length l.left
