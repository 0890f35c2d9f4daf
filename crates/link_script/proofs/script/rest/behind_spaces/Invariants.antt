use Rattle.std.proofs.Common.{◌≡◌, length}
use Rattle.std.specs.Str.{IsUtf8}
use Rattle.link_script.specs.Script.Arguments.{behind_spaces}
use Rattle.link_script.proofs.script.rest.behind_spaces.Given as goal

-- what is left is a text, behind whose spaces stands what stands behind those of the line
abbrev pub invariant-loop-more : goal.invariant-loop-more
invariant-loop-more l = record {
  text : IsUtf8 l.rest;
  same : behind_spaces l.rest ≡ behind_spaces l.line;
}

abbrev pub decreases-loop-more : goal.decreases-loop-more
decreases-loop-more l = length l.rest
