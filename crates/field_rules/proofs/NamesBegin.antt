-- Names that begin where a character begins.
use Rattle.std.proofs.Common.{◌≡◌, ℕ, ◌-◌, List, length, length-append, ap, subst, ◌∙◌, arith}
use Rattle.std.specs.Str.{IsUtf8, IsCharBoundary}
use Rattle.std.proofs.lemmas.Str.{IsCharBoundary-at_seam}
use Rattle.record_walk.specs.FullNames.{EndsWith}

-- a name that ends a full name begins where a character begins
pub name-begins : (text full_name name : List ℕ) (index : ℕ) → text ≡ full_name → index ≡ length full_name - length name → IsUtf8 name
    → EndsWith full_name name → IsCharBoundary text index
name-begins text full_name name index is index_is utf8 ends =
    let behind : length ends.0 ≡ index = omega (arith, ap length ends.1, length-append ends.0 name) in
    subst (IsCharBoundary text) behind (IsCharBoundary-at_seam text ends.0 name (is ∙ ends.1) utf8)
