use Rattle.std.proofs.Common.{◌≡◌, ℕ, true}
use Rattle.protoc_rules.specs.Imports.{imports, is_marked, HoldsBack}
use Rattle.protoc_rules.proofs.cycles.unmark.Given as goal

-- the marks that are to stay are kept, and there are no others than at first
abbrev pub invariant-loop-file : goal.invariant-loop-file
invariant-loop-file l = record {
  back : HoldsBack (imports l.files) l.initial.marks → HoldsBack (imports l.files) l.marks;
  fewer : (n : ℕ) → is_marked l.marks n ≡ true → is_marked l.initial.marks n ≡ true;
}
