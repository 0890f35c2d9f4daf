-- Numbers that are read one after another.
use Rattle.std.proofs.Common.{◌≡◌, ℕ, ℤ, zero, suc, pos, ◌+◌, ◌-◌, ◌<◌, ◌≤◌, ◌^◌, inl, inr, neg_ℤ, Bool, true, false, not, cond, List, [], ◌∷◌, ◌++◌, length, take, drop, get_or, eqb, Some, None, Result, Ok, Err, refl, ap, sym, ◌∙◌, arith, append_assoc, subst, take_all, ◌&&◌}
use Rattle.std.specs.List.{slice_split, position_or_len, before_first, after_first, prefix_len, list_all}
use Rattle.std.specs.Char.{is_digit, is_ascii_digit, digit_value}
use Rattle.std.specs.Option.{option_map, option_and_then}
use Rattle.std.specs.Str.Parse.{AllDigits, digits_value}
use Rattle.std.proofs.lemmas.Bool.Decides.{leb_tells, eqb_tells, nat_tests}
use Rattle.std.proofs.lemmas.List.{length-drop, length-take, length-take-le}
use Rattle.std.proofs.lemmas.List.Splits.{slice_split_first}
use Rattle.std.proofs.lemmas.Str.Parse.{digit_from_value, digits_value_short, numerals_by_value, tells_digits}
use Rattle.plain_data.specs.WholeNumbers.{digits, if_between, whole_signed}
use Rattle.link_script.specs.declared.script.statement.ScriptFault.{ScriptFault}
use Rattle.link_script.specs.Script.Arguments.{each_number, given_number_in, number_or_bad, and_then}
use Rattle.link_script.specs.Script.Answers.{numbers_between}
use Rattle.link_script.proofs.Words.{one-part}

abbrev pub is_comma : ℕ → Bool
is_comma c = eqb c 44

-- where a number ends at a comma
abbrev pub Cut : List ℕ → List ℕ → List ℕ → Type 0
Cut text number rest = (number ≡ before_first is_comma text) × (rest ≡ after_first is_comma text) × (position_or_len is_comma text < length text)

-- a number is read
abbrev taken : Result ℤ ScriptFault → List (List ℕ) → Result (List ℤ) ScriptFault
taken r parts = and_then r (λ n. and_then (each_number parts) (λ ns. Ok (n ∷ ns)))

cut-off : (text number rest : List ℕ) → Cut text number rest → numbers_between text ≡ taken (given_number_in number) (slice_split is_comma rest)
cut-off text number rest cut =
    ap each_number (slice_split_first is_comma text 0 cut.2) ∙ (λ i. taken (given_number_in (sym cut.0 i)) (slice_split is_comma (sym cut.1 i)))

-- the first number behind which a comma stands
pub number-cut : (r : Result ℤ ScriptFault) (text number rest : List ℕ) → Cut text number rest → r ≡ given_number_in number → numbers_between text ≡ taken r (slice_split is_comma rest)
number-cut r text number rest cut is = cut-off text number rest cut ∙ ap (λ q. taken q (slice_split is_comma rest)) (sym is)

-- the only number
pub number-only : (r : Result ℤ ScriptFault) (text : List ℕ) → position_or_len is_comma text ≡ length text → r ≡ given_number_in text → numbers_between text ≡ taken r []
number-only r text whole is = ap each_number (one-part is_comma text whole) ∙ ap (λ q. taken q []) (sym is)

all-digits : (ds : List ℕ) → AllDigits 10 ds → list_all (λ d. is_digit d 10) ds ≡ true
all-digits [] h = refl
all-digits (c ∷ cs) h = elim (leb_tells (suc (digit_value c)) 10) [
  | inl k ↦ ap (λ b. b && list_all (λ d. is_digit d 10) cs) k.0 ∙ all-digits cs h.1
  | inr k ↦ absurd (omega (arith, k.1, h.0))
]

in-range : (n : ℕ) → n < 10 ^ 9 → if_between (neg_ℤ (pos (2 ^ 31))) (pos (2 ^ 31 - 1)) (pos n) ≡ Some (pos n)
in-range n small = elim (leb_tells n (2 ^ 31 - 1)) [
  | inl h ↦ ap (λ b. cond b (Some (pos n)) None) h.0
  | inr h ↦ absurd (omega (arith, h.1, small))
]

no-sign : (c sign : ℕ) → digit_value c < 10 → sign < 48 → eqb c sign ≡ false
no-sign c sign digit low = elim (eqb_tells c sign) [
  | inl h ↦ absurd (let range = digit_from_value c digit in omega (arith, h.1, range.0))
  | inr h ↦ h.0
]

-- a few digits are a number
pub few-digits : (text : List ℕ) → 0 < length text → length text ≤ 9 → AllDigits 10 text → whole_signed 32 text ≡ Some (pos (digits_value 10 text))
few-digits [] some few h = absurd (omega (arith, some))
few-digits (c ∷ cs) some few h =
    let value = digits_value 10 (c ∷ cs) in
    let small = digits_value_short (numerals_by_value _ tells_digits) (c ∷ cs) 9 h few in
    (λ i. option_and_then (λ n. if_between (neg_ℤ (pos (2 ^ 31))) (pos (2 ^ 31 - 1)) n) (cond (no-sign c 43 h.0 (omega arith) i) (option_map pos (digits cs)) (cond (no-sign c 45 h.0 (omega arith) i) (option_map (λ n. neg_ℤ (pos n)) (digits cs)) (option_map pos (cond (all-digits (c ∷ cs) h i) (Some value) None)))))
    ∙ in-range value small

-- digits up to a comma, or to the end
pub digits-end : (text : List ℕ) (n : ℕ) → n ≤ length text → AllDigits 10 (take n text) → (n < length text → get_or text n 0 ≡ 44) → position_or_len is_comma text ≡ n
digits-end [] n inside h end = omega (arith, inside)
digits-end (c ∷ cs) zero inside h end = elim (eqb_tells c 44) [
  | inl k ↦ ap (λ b. cond (not b) (1 + prefix_len (λ y. not (is_comma y)) cs) 0) k.0
  | inr k ↦ absurd (k.1 (end (omega arith)))
]
digits-end (c ∷ cs) (suc n) inside h end =
    let first : position_or_len is_comma (c ∷ cs) ≡ 1 + position_or_len is_comma cs = ap (λ b. cond (not b) (1 + position_or_len is_comma cs) 0) (no-sign c 44 h.0 (omega arith)) in
    let rest = digits-end cs n (omega (arith, inside)) h.1 (λ k. end (omega (arith, k))) in
    omega (arith, first, rest)

pub given-digits : (text : List ℕ) → 0 < length text → length text ≤ 9 → AllDigits 10 text → Ok (pos (digits_value 10 text)) ≡ given_number_in text
given-digits text some few h = ap number_or_bad (sym (few-digits text some few h))

pub shorter : (text number rest : List ℕ) → Cut text number rest → length rest < length text
shorter text number rest cut = let same : length rest ≡ length text - (position_or_len is_comma text + 1) = ap length cut.1 ∙ length-drop (position_or_len is_comma text + 1) text in omega (arith, same, cut.2)

-- numbers in front of others, where these have no fault
abbrev pub behind : List ℤ → Result (List ℤ) ScriptFault → Result (List ℤ) ScriptFault
behind ns (Ok ms) = Ok (ns ++ ms)
behind ns (Err fault) = Err fault

push : (ns : List ℤ) (n : ℤ) (r : Result (List ℤ) ScriptFault) → behind ns (and_then r (λ ms. Ok (n ∷ ms))) ≡ behind (ns ++ n ∷ []) r
push ns n (Ok ms) = ap Ok (sym (append_assoc ns (n ∷ []) ms))
push ns n (Err fault) = refl

-- one more number is read
pub number-more : (word : Result (List ℤ) ScriptFault) (ns more : List ℤ) (n : ℤ) (text rest : List ℕ) → word ≡ behind ns (numbers_between text)
    → numbers_between text ≡ and_then (numbers_between rest) (λ ms. Ok (n ∷ ms)) → more ≡ ns ++ n ∷ [] → word ≡ behind more (numbers_between rest)
number-more word ns more n text rest so first pushed =
    so ∙ ap (behind ns) first ∙ push ns n (numbers_between rest) ∙ ap (λ ms. behind ms (numbers_between rest)) (sym pushed)

-- what a few digits are worth
pub few-value : (text : List ℕ) (n most : ℕ) → n ≤ most → AllDigits 10 (take n text) → digits_value 10 (take n text) < 10 ^ most
few-value text n most few h = digits_value_short (numerals_by_value _ tells_digits) (take n text) most h (omega (arith, length-take n text, few))

pub digit-worth : (b : ℕ) → is_ascii_digit b ≡ true → (digit_value b ≡ b - 48) × (digit_value b < 10)
digit-worth b h = (grind (arith, nat_tests), grind (arith, nat_tests))

-- a few digits alone
pub digits-only : (text : List ℕ) (n : ℕ) → 0 < n → n ≤ 9 → n ≡ length text → AllDigits 10 (take n text) → numbers_between text ≡ Ok (pos (digits_value 10 (take n text)) ∷ [])
digits-only text n some few all h =
    let whole : take n text ≡ text = take_all n text (omega (arith, all)) in
    let value = given-digits text (omega (arith, some, all)) (omega (arith, few, all)) (subst (AllDigits 10) whole h) in
    number-only (Ok (pos (digits_value 10 (take n text)))) text (digits-end text n (omega (arith, all)) h (λ k. absurd (omega (arith, k, all))) ∙ all) (ap (λ ds. Ok (pos (digits_value 10 ds))) whole ∙ value)

-- a few digits, and a comma
pub digits-cut : (text rest : List ℕ) (n : ℕ) → 0 < n → n ≤ 9 → n < length text → get_or text n 0 ≡ 44 → AllDigits 10 (take n text) → rest ≡ drop (n + 1) text
    → (length rest < length text) × (numbers_between text ≡ and_then (numbers_between rest) (λ ns. Ok (pos (digits_value 10 (take n text)) ∷ ns)))
digits-cut text rest n some few inside comma h is =
    let size = length-take-le n text (omega (arith, inside)) in
    let end = digits-end text n (omega (arith, inside)) h (λ k. comma) in
    let cut : Cut text (take n text) rest = (ap (λ m. take m text) (sym end), is ∙ ap (λ m. drop (m + 1) text) (sym end), omega (arith, end, inside)) in
    (shorter text (take n text) rest cut, number-cut (Ok (pos (digits_value 10 (take n text)))) text (take n text) rest cut (given-digits (take n text) (omega (arith, size, some)) (omega (arith, size, few)) h))
