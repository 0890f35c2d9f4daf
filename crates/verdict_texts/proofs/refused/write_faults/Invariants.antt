use Rattle.std.proofs.Common.{◌≡◌, ◌≤◌, ◌++◌, string_bytes, drop}
use Rattle.verdict_texts.specs.Refused.{lines_of}
use Rattle.verdict_texts.proofs.refused.write_faults.Given as goal

-- what is left to write is behind what was written, and so many before it are like the next
abbrev pub invariant-loop-position : goal.invariant-loop-position
invariant-loop-position l = record {
  left : string_bytes l.text ++ lines_of l.before (drop l.position l.told) ≡ string_bytes l.initial.text ++ lines_of 0 l.told;
  few : l.before ≤ l.position;
}
