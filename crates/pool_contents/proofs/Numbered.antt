-- The first extension of a message with a number.
use Rattle.std.proofs.Common.{◌≡◌, ◌+◌, ◌<◌, ◌==◌, ◌&&◌, ℕ, suc, Bool, true, false, cond, Option, Some, None, List, [], ◌∷◌, length, map, refl, ap, subst, sym, ◌∙◌, true≢false, arith}
use Rattle.std.proofs.lemmas.Bool.Decides.{nat_tests}
use Rattle.std.specs.Cmp.{nat_cmp_total}
use Rattle.std.specs.FinMap as finite
use Rattle.std.specs.List.{find, fold, position_from}
use Rattle.std.specs.Option.{IfSome, is_some, option_map, option_or}
use Rattle.std.specs.Ordering.{eq_by_cmp, nat_cmp}
use Rattle.plain_data.specs.Maps.{ByNumber}
use Rattle.pool_types.specs.declared.contents.extension.ExtensionDescriptorInner.{ExtensionDescriptorInner}
use Rattle.pool_types.specs.declared.contents.message.MessageDescriptorInner.{MessageDescriptorInner}
use Rattle.pool_contents.specs.Extended.{NumbersLieBefore, with_number}
use Rattle.pool_types.specs.Extension.{Indexed, NumbersLead, extending, extension_numbered, has_number, number_held}
use Rattle.plain_data.proofs.Positions.{position-below}
use Rattle.pool_contents.proofs.Extending.{pair_of}

-- the numbers of messages lead to some of as many extensions, if each of them does
all-lie : (end : ℕ) (ms : List MessageDescriptorInner) → ((message number : ℕ) → IfSome (number_held ms message number) (λ k. k < end)) → NumbersLieBefore end ms
all-lie end [] each = tt
all-lie end (m ∷ ms) each = (each 0, all-lie end ms (λ message. each (suc message)))

pub lead-before : (xs : List ExtensionDescriptorInner) (ms : List MessageDescriptorInner) → NumbersLead xs ms → NumbersLieBefore (length xs) ms
lead-before xs ms lead =
    let here : 0 + length xs ≡ length xs = omega arith in
    all-lie (length xs) ms (λ message number.
    subst (λ got. IfSome got (λ k. k < length xs)) (sym (lead message number))
    (subst (λ n. IfSome (extension_numbered xs message number) (λ k. k < n)) here (position-below (has_number message number) 0 xs)))

-- the first extension of a list, by its index, with a number
abbrev pub first_numbered : ℕ → List Indexed → Option ℕ
first_numbered number es = option_map (λ e. e.0) (find (λ e. e.1.number == number) es)

-- one more extension has its number, if that is free
number-entered : (numbers : ByNumber ℕ) (index taken number : ℕ)
    → finite.get (with_number numbers (index, taken)) number ≡ option_or (finite.get numbers number) (cond (taken == number) (Some index) None)
number-entered numbers index taken number = by (finite.contains_key numbers taken) refl
  where
    given : (got : Option ℕ) (b : Bool) → (b ≡ true → is_some got ≡ true) → got ≡ option_or got (cond b (Some index) None)
    given None true has = absurd (true≢false (sym (has refl)))
    given None false has = refl
    given (Some k) b has = refl

    entered : (got : Option ℕ) (a b : Bool) → a ≡ b → (b ≡ true → is_some got ≡ false) → cond a (Some index) got ≡ option_or got (cond b (Some index) None)
    entered None a b same free = ap (λ c. cond c (Some index) None) same
    entered (Some k) true true same free = absurd (true≢false (free refl))
    entered (Some k) true false same free = absurd (true≢false same)
    entered (Some k) false b same free = refl

    by : (b : Bool) → finite.contains_key numbers taken ≡ b
        → finite.get (cond b numbers (finite.insert numbers taken index)) number ≡ option_or (finite.get numbers number) (cond (taken == number) (Some index) None)
    by true has = given (finite.get numbers number) (taken == number) (λ e. let here : taken ≡ number = grind (arith, nat_tests, e) in ap (finite.contains_key numbers) (sym here) ∙ has)
    by false lacks =
        let same : eq_by_cmp nat_cmp number taken ≡ (taken == number) = grind (arith, nat_tests) in
        finite.get-insert nat_cmp_total numbers taken index number
        ∙ entered (finite.get numbers number) (eq_by_cmp nat_cmp number taken) (taken == number) same
        (λ e. let here : taken ≡ number = grind (arith, nat_tests, e) in ap (finite.contains_key numbers) (sym here) ∙ lacks)

option-or-assoc : (a b c : Option ℕ) → option_or (option_or a b) c ≡ option_or a (option_or b c)
option-or-assoc None b c = refl
option-or-assoc (Some k) b c = refl

-- a number leads to the extension that it had, or to the first that has it
pub numbers-entered : (numbers : ByNumber ℕ) (es : List Indexed) (number : ℕ)
    → finite.get (fold with_number numbers (map pair_of es)) number ≡ option_or (finite.get numbers number) (first_numbered number es)
numbers-entered numbers [] number = by (finite.get numbers number)
  where
    by : (got : Option ℕ) → got ≡ option_or got None
    by None = refl
    by (Some k) = refl
numbers-entered numbers (e ∷ es) number =
    numbers-entered (with_number numbers (pair_of e)) es number
    ∙ ap (λ got. option_or got (first_numbered number es)) (number-entered numbers e.0 e.1.number number)
    ∙ option-or-assoc (finite.get numbers number) (cond (e.1.number == number) (Some e.0) None) (first_numbered number es)
    ∙ ap (option_or (finite.get numbers number)) (by (e.1.number == number))
  where
    by : (b : Bool) → option_or (cond b (Some e.0) None) (first_numbered number es) ≡ option_map (λ (f : Indexed). f.0) (cond b (Some e) (find (λ f. f.1.number == number) es))
    by true = refl
    by false = refl

-- of the extensions of a message, the first with a number
pub first-extending : (message number first : ℕ) (xs : List ExtensionDescriptorInner)
    → first_numbered number (extending message first xs) ≡ position_from (has_number message number) first xs
first-extending message number first [] = refl
first-extending message number first (x ∷ xs) =
    let es = extending message (first + 1) xs in
    let later = position_from (has_number message number) (first + 1) xs in
    let rest = first-extending message number (first + 1) xs in
    elim (x.extendee == message) as (λ b. first_numbered number (cond b ((first, x) ∷ es) es) ≡ cond (b && (x.number == number)) (Some first) later) [
      | true ↦ elim (x.number == number) as (λ d. option_map (λ (e : Indexed). e.0) (cond d (Some (first, x)) (find (λ e. e.1.number == number) es)) ≡ cond d (Some first) later)
          [ true ↦ refl | false ↦ rest ]
      | false ↦ rest
    ]
