-- Full names that stand one behind another.
use Rattle.std.proofs.Common.{◌≡◌, ◌==◌, ◌+◌, ℕ, Bool, true, false, not, List, [], ◌∷◌, ◌++◌, length, length-append, append_assoc, take, eqb-true, refl, sym, ap, subst, ◌∙◌, arith}
use Rattle.std.proofs.lemmas.List.{nil_from_length}
use Rattle.std.proofs.Math.Seq.{take-append_seam}
use Rattle.std.proofs.lemmas.Str.{IsUtf8-append, IsUtf8-from_ascii}
use Rattle.std.proofs.lemmas.Str.Ascii.{IsAscii-cons, IsAscii-nil}
use Rattle.std.specs.Str.{IsUtf8}
use Rattle.proto_types.specs.Names.{join}
use Rattle.field_rules.specs.InnerNames.{dot}

-- a full name is a text
pub join-IsUtf8 : (scope name : List ℕ) → IsUtf8 scope → IsUtf8 name → IsUtf8 (join scope name)
join-IsUtf8 [] name of_scope of_name = of_name
join-IsUtf8 (c ∷ cs) name of_scope of_name =
    let dot = IsUtf8-from_ascii (46 ∷ []) (IsAscii-cons 46 [] (omega arith) IsAscii-nil) in
    IsUtf8-append (c ∷ cs) (46 ∷ name) of_scope (IsUtf8-append (46 ∷ []) name dot of_name)

-- by its length the first of two texts is cut off
pub first-cut : (texts first rest : List ℕ) (len : ℕ) → texts ≡ first ++ rest → len ≡ length first → take len texts ≡ first
first-cut texts first rest len are long = ap (λ n. take n texts) long ∙ ap (take (length first)) are ∙ take-append_seam first rest

-- so are two that stand behind one another
pub both-cut : (texts first second rest : List ℕ) → texts ≡ (first ++ second) ++ rest → take (length first + length second) texts ≡ first ++ second
both-cut texts first second rest are = first-cut texts (first ++ second) rest (length first + length second) are (sym (length-append first second))

-- the full name of a name in a scope stands behind the scope, and behind a dot where the scope is
-- not empty
pub behind-dot : (scope name : List ℕ) (is_empty : Bool) → is_empty ≡ (length scope == 0) → scope ++ dot (not is_empty) ++ name ≡ join scope name
behind-dot scope name true is =
    let none : scope ≡ [] = nil_from_length scope (eqb-true (length scope) 0 (sym is)) in
    subst (λ s. s ++ [] ++ name ≡ join s name) (sym none) refl
behind-dot [] name false is = absurd (cc)
behind-dot (c ∷ cs) name false is = append_assoc (c ∷ cs) (46 ∷ []) name
