-- Tests that some element of a list passes.
use Rattle.std.proofs.Common.{◌≡◌, ℕ, zero, suc, Bool, true, List, [], ◌∷◌, Some, slice_get, ap, ◌∙◌}
use Rattle.std.proofs.lemmas.Bool.{or_left, or_right}
use Rattle.std.specs.List.{list_any}

-- some element passes a test where the one at a position does
pub passes_at : {X : Type 0} (test : X → Bool) (xs : List X) (i : ℕ) (x : X) → slice_get xs i ≡ Some x → test x ≡ true → list_any test xs ≡ true
passes_at test [] i x there passes = absurd cc
passes_at test (y ∷ xs) zero x there passes =
    let same : y ≡ x = cc in
    or_left (test y) (list_any test xs) (ap test same ∙ passes)
passes_at test (y ∷ xs) (suc i) x there passes = or_right (test y) (list_any test xs) (passes_at test xs i x there passes)
