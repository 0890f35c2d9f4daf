use Rattle.std.proofs.Common.{◌≡◌, ℕ, true}
use Rattle.protoc_rules.specs.Imports.{imports, has_chain, is_marked, HoldsBack}
use Rattle.protoc_rules.proofs.cycles.coming_back.Given as goal

-- the marked files are those from which a chain comes back, and others from which there is one of as
-- many imports as there were rounds
abbrev pub invariant-rounds : goal.invariant-rounds
invariant-rounds l = record {
  back : HoldsBack (imports l.files) l.marks;
  chains : (n : ℕ) → is_marked l.marks n ≡ true → has_chain (imports l.files) l._round n ≡ true;
}
