use Rattle.std.proofs.Common.{◌≡◌, ◌+◌, ◌-◌, ◌≤◌, eqb, length, drop}
use Rattle.std.specs.List.{position_or_len}
use Rattle.link_script.proofs.script.cuts.first_far_place.Given as goal

-- the byte is none of those that are passed
abbrev pub invariant-loop-passed : goal.invariant-loop-passed
invariant-loop-passed l = record {
  within : l.passed ≤ length l.bytes;
  far : position_or_len (λ c. eqb c l.wanted) l.bytes ≡ l.passed + position_or_len (λ c. eqb c l.wanted) (drop l.passed l.bytes);
}

abbrev pub decreases-loop-passed : goal.decreases-loop-passed
decreases-loop-passed l = length l.bytes - l.passed
