-- The lines of faults from a position on.
use Rattle.std.proofs.Common.{◌≡◌, ℕ, zero, suc, ◌+◌, ◌<◌, Bool, true, false, cond, List, [], ◌∷◌, ◌++◌, length, drop, get_or, slice_get, ap, sym, ◌∙◌, append-nil, arith}
use Rattle.std.specs.Option.{option_map_or}
use Rattle.verdict_texts.specs.PlainFaults.{fault_lines}
use Rattle.verdict_texts.specs.Refused.{are_alike, lines_of, repeats_line}
use Rattle.verdict_texts.specs.declared.telling.ToldFault.{ToldFault}

-- the fault at a position is like the one behind it, or its lines are written
lines-on : (n : ℕ) (told : List ToldFault) (i : ℕ) (f : ToldFault) → i < length told → f ≡ get_or told i f
    → lines_of n (drop i told)
    ≡ cond (option_map_or (are_alike f) (slice_get told (i + 1)) false) (lines_of (suc n) (drop (i + 1) told)) (fault_lines f ++ (repeats_line n ++ lines_of 0 (drop (i + 1) told)))
lines-on n [] i f below is = absurd (omega arith)
lines-on n (g ∷ []) zero f below is =
    ap (λ h. fault_lines h ++ repeats_line n) (sym is) ∙ ap (λ ys. fault_lines f ++ ys) (sym (append-nil (repeats_line n)))
lines-on n (g ∷ h ∷ fs) zero f below is =
    ap (λ e. lines_of n (e ∷ h ∷ fs)) (sym is)
lines-on n (g ∷ fs) (suc i) f below is =
    let there : suc (i + 1) ≡ suc i + 1 = omega arith in
    lines-on n fs i f (omega arith) is
    ∙ ap (λ k. cond (option_map_or (are_alike f) (slice_get (g ∷ fs) k) false) (lines_of (suc n) (drop k (g ∷ fs))) (fault_lines f ++ (repeats_line n ++ lines_of 0 (drop k (g ∷ fs))))) there

-- whether the fault at a position is like the one behind it
abbrev pub is_repeated : List ToldFault → ℕ → ToldFault → Bool
is_repeated told i f = option_map_or (are_alike f) (slice_get told (i + 1)) false

-- one that is, is counted
pub lines-repeat : (n : ℕ) (told : List ToldFault) (i : ℕ) (f : ToldFault) → i < length told → f ≡ get_or told i f → is_repeated told i f ≡ true
    → lines_of (n + 1) (drop (i + 1) told) ≡ lines_of n (drop i told)
lines-repeat n told i f below is same =
    let more : n + 1 ≡ suc n = omega arith in
    ap (λ m. lines_of m (drop (i + 1) told)) more
    ∙ sym (lines-on n told i f below is
    ∙ ap (λ b. cond b (lines_of (suc n) (drop (i + 1) told)) (fault_lines f ++ (repeats_line n ++ lines_of 0 (drop (i + 1) told)))) same)

-- of one that is not, the lines are written
pub lines-end : (n : ℕ) (told : List ToldFault) (i : ℕ) (f : ToldFault) → i < length told → f ≡ get_or told i f → is_repeated told i f ≡ false
    → fault_lines f ++ (repeats_line n ++ lines_of 0 (drop (i + 1) told)) ≡ lines_of n (drop i told)
lines-end n told i f below is other =
    sym (lines-on n told i f below is
    ∙ ap (λ b. cond b (lines_of (suc n) (drop (i + 1) told)) (fault_lines f ++ (repeats_line n ++ lines_of 0 (drop (i + 1) told)))) other)
