-- The first part of a name that was split at its first dot.
use Rattle.std.proofs.Common.{◌≡◌, ◌≢◌, ◌<◌, arith, ℕ, suc, Bool, false, eqb, Option, None, Some, List, [], ◌∷◌, length, get_or, Bor, refl, ap, ◌∙◌}
use Rattle.std.specs.List.{All}
use Rattle.std.specs.Option.{MatchOption}
use Rattle.std.proofs.lemmas.Bool.Decides.{nat_tests}
use Rattle.std.proofs.lemmas.List.Elements.{All-nil, All-cons}
use Rattle.std.proofs.lemmas.List.Splits.{slice_split_at, slice_split_none}
use Rattle.std.proofs.lemmas.Str.Pattern.{IsSplitOnceResult, split_parts}
use Rattle.name_tables.specs.Parts.{parts}

-- a byte is a dot
abbrev is_dot : ℕ → Bool
is_dot byte = eqb byte 46

-- any other byte is no dot
no_dot : (c : ℕ) → c ≢ 46 → is_dot c ≡ false
no_dot c other = grind (arith, nat_tests)

-- a text in which no dot was found
undotted : (text : List ℕ) → ((i : ℕ) → i < length text → get_or text i 0 ≢ 46) → All (λ c. is_dot c ≡ false) text
undotted [] none = All-nil (λ c. is_dot c ≡ false)
undotted (c ∷ cs) none =
    All-cons (λ c. is_dot c ≡ false) c cs (no_dot c (none 0 (omega arith))) (undotted cs (λ i below. none (suc i) (omega arith)))

-- the first part and those behind its dot
pub parts-split : (name : List ℕ) (found : Option (Bor (List ℕ) × Bor (List ℕ))) → IsSplitOnceResult 46 name found → MatchOption found (parts name ≡ name ∷ []) (λ x. parts name ≡ x.0.now ∷ parts x.1.now)
parts-split name None split = slice_split_none is_dot name (undotted name (split_parts 46 name None split (omega arith)))
parts-split name (Some x) split =
    let cut = split_parts 46 name (Some x) split (omega arith) in
    ap parts cut.0 ∙ slice_split_at is_dot x.0.now 46 x.1.now (undotted x.0.now cut.1) refl
