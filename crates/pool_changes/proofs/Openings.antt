-- What stands behind the first byte of a text.
use Rattle.std.proofs.Common.{◌≡◌, ◌≢◌, ℕ, false, eqb, List, [], ◌∷◌, refl, ap, arith}
use Rattle.std.proofs.lemmas.Bool.Decides.{nat_tests}
use Rattle.pool_changes.specs.Texts.{behind_first}

-- a text stays as it is that does not begin with a byte
pub behind-other : (b : ℕ) (text : List ℕ) → ((rest : List ℕ) → text ≢ b ∷ rest)
    → text ≡ behind_first b text
behind-other b [] h = refl
behind-other b (x ∷ xs) h =
    let other : x ≢ b = λ e. h xs (ap (λ y. y ∷ xs) e) in
    let fails : eqb x b ≡ false = grind (arith, nat_tests) in
    rw fails refl
