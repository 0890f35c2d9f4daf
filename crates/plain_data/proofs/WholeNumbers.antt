-- What `parse` reads is the whole number of the definitions.
use Rattle.std.proofs.Common.{◌≡◌, ℕ, ℤ, suc, pos, negsuc, neg_ℤ, ◌-◌, ◌^◌, ◌<◌, ◌⊎◌, inl, inr, Bool, true, false, cond, List, [], ◌∷◌, drop, refl, ap, sym, ◌∙◌, arith, eqb, leb, Option, Some, None, Result, Ok, Err, ◌&&◌}
use Rattle.std.specs.Prelude.{unsigned_abs}
use Rattle.std.specs.Char.{is_digit, digit_value}
use Rattle.std.specs.List.{list_all}
use Rattle.std.specs.Option.{option_map, option_and_then}
use Rattle.std.specs.Result.{OkIff, result_ok}
use Rattle.std.specs.Str.Parse.{AllDigits, IsNumeral, digits_value, without_leading_sign, without_leading_plus, signed_digits_value, ParsesSigned, ParsesUnsigned}
use Rattle.std.proofs.lemmas.Bool.Decides.{leb_tells, eqb_tells}
use Rattle.std.proofs.lemmas.Bool.{false≢true, le-leb}
use mir.Syntax.{w32, w64}
use mir.Val.{SFits}
use Rattle.plain_data.specs.WholeNumbers.{digits, signed_digits, if_between, whole_between, whole_signed, whole_unsigned}

-- o is the value where P holds, and else none
abbrev Gives : {X : Type 0} → Option X → Type 0 → X → Type 0
Gives o P v = ((o ≡ Some v) × P) ⊎ ((o ≡ None) × (P → ⊥))

all-digits : (ds : List ℕ) → ((list_all (λ d. is_digit d 10) ds ≡ true) × AllDigits 10 ds) ⊎ ((list_all (λ d. is_digit d 10) ds ≡ false) × (AllDigits 10 ds → ⊥))
all-digits [] = inl (refl, tt)
all-digits (c ∷ cs) = elim (leb_tells (suc (digit_value c)) 10) [
  | inl h ↦ elim (all-digits cs) [
    | inl g ↦ inl (ap (λ b. b && list_all (λ d. is_digit d 10) cs) h.0 ∙ g.0, (h.1, g.1))
    | inr g ↦ inr (ap (λ b. b && list_all (λ d. is_digit d 10) cs) h.0 ∙ g.0, λ k. g.1 k.1)
  ]
  | inr h ↦ inr (ap (λ b. b && list_all (λ d. is_digit d 10) cs) h.0, λ k. absurd (omega (arith, h.1, k.0)))
]

numeral : (ds : List ℕ) → Gives (digits ds) (IsNumeral 10 ds) (digits_value 10 ds)
numeral [] = inr (refl, λ h. absurd (omega (arith, h.0)))
numeral (c ∷ cs) = elim (all-digits (c ∷ cs)) [
  | inl h ↦ inl (ap (λ b. cond b (Some (digits_value 10 (c ∷ cs))) None) h.0, (omega arith, h.1))
  | inr h ↦ inr (ap (λ b. cond b (Some (digits_value 10 (c ∷ cs))) None) h.0, λ k. h.1 k.1)
]

int32-fits : (z : ℤ) → Gives (if_between (neg_ℤ (pos (2 ^ 31))) (pos (2 ^ 31 - 1)) z) (SFits w32 z) z
int32-fits (pos n) = elim (leb_tells n (2 ^ 31 - 1)) [
  | inl h ↦ inl (ap (λ b. cond b (Some (pos n)) None) h.0, record { sfits = omega (arith, h.1) })
  | inr h ↦ inr (ap (λ b. cond b (Some (pos n)) None) h.0, λ k. absurd (omega (arith, h.1, k.sfits)))
]
int32-fits (negsuc n) = elim (leb_tells n (2 ^ 31 - 1)) [
  | inl h ↦ inl (ap (λ b. cond (b && true) (Some (negsuc n)) None) h.0, record { sfits = omega (arith, h.1) })
  | inr h ↦ inr (ap (λ b. cond (b && true) (Some (negsuc n)) None) h.0, λ k. absurd (omega (arith, h.1, k.sfits)))
]

int64-fits : (z : ℤ) → Gives (if_between (neg_ℤ (pos (2 ^ 63))) (pos (2 ^ 63 - 1)) z) (SFits w64 z) z
int64-fits (pos n) = elim (leb_tells n (2 ^ 63 - 1)) [
  | inl h ↦ inl (ap (λ b. cond b (Some (pos n)) None) h.0, record { sfits = omega (arith, h.1) })
  | inr h ↦ inr (ap (λ b. cond b (Some (pos n)) None) h.0, λ k. absurd (omega (arith, h.1, k.sfits)))
]
int64-fits (negsuc n) = elim (leb_tells n (2 ^ 63 - 1)) [
  | inl h ↦ inl (ap (λ b. cond (b && true) (Some (negsuc n)) None) h.0, record { sfits = omega (arith, h.1) })
  | inr h ↦ inr (ap (λ b. cond (b && true) (Some (negsuc n)) None) h.0, λ k. absurd (omega (arith, h.1, k.sfits)))
]

-- a number without a sign, of which m is the greatest
below-fits : (m n : ℕ) → Gives (if_between (pos 0) (pos m) (pos n)) (n < suc m) (pos n)
below-fits m n = elim (leb_tells n m) [
  | inl h ↦ inl (ap (λ b. cond (b && leb n m) (Some (pos n)) None) (le-leb 0 n (omega arith)) ∙ ap (λ b. cond b (Some (pos n)) None) h.0, omega (arith, h.1))
  | inr h ↦ inr (ap (λ b. cond (b && leb n m) (Some (pos n)) None) (le-leb 0 n (omega arith)) ∙ ap (λ b. cond b (Some (pos n)) None) h.0, λ k. absurd (omega (arith, h.1, k)))
]

mapped : {X Y : Type 0} (f : X → Y) (o : Option X) (P : Type 0) (v : X) → Gives o P v → Gives (option_map f o) P (f v)
mapped f o P v (inl h) = inl (ap (option_map f) h.0, h.1)
mapped f o P v (inr h) = inr (ap (option_map f) h.0, h.1)

-- the digits behind a sign, where p says that it is a plus and m that it is a minus
abbrev behind_sign : Bool → Bool → ℕ → List ℕ → List ℕ
behind_sign p m c cs = cond m (drop 1 (c ∷ cs)) (drop (cond p 1 0) (c ∷ cs))

abbrev negated : Bool → ℕ → ℤ
negated m n = cond m (neg_ℤ (pos n)) (pos n)

by-sign : (p m : Bool) (c : ℕ) (cs : List ℕ) → (p ≡ true → m ≡ true → ⊥)
    → Gives (cond p (option_map pos (digits cs)) (cond m (option_map (λ n. neg_ℤ (pos n)) (digits cs)) (option_map pos (digits (c ∷ cs))))) (IsNumeral 10 (behind_sign p m c cs)) (negated m (digits_value 10 (behind_sign p m c cs)))
by-sign true true c cs apart = absurd (apart refl refl)
by-sign true false c cs apart = mapped pos _ _ _ (numeral cs)
by-sign false true c cs apart = mapped (λ n. neg_ℤ (pos n)) _ _ _ (numeral cs)
by-sign false false c cs apart = mapped pos _ _ _ (numeral (c ∷ cs))

one-sign : (c : ℕ) → eqb c 43 ≡ true → eqb c 45 ≡ true → ⊥
one-sign c plus minus = elim (eqb_tells c 43) [
  | inl h ↦ elim (eqb_tells c 45) [ inl g ↦ absurd (omega (arith, h.1, g.1)) | inr g ↦ false≢true (sym g.0 ∙ minus) ]
  | inr h ↦ false≢true (sym h.0 ∙ plus)
]

signed : (bs : List ℕ) → Gives (signed_digits true bs) (IsNumeral 10 (without_leading_sign bs)) (signed_digits_value 10 bs)
signed [] = inr (refl, λ h. absurd (omega (arith, h.0)))
signed (c ∷ cs) = by-sign (eqb c 43) (eqb c 45) c cs (one-sign c)

by-plus : (p : Bool) (c : ℕ) (cs : List ℕ)
    → Gives (cond p (option_map pos (digits cs)) (option_map pos (digits (c ∷ cs)))) (IsNumeral 10 (drop (cond p 1 0) (c ∷ cs))) (pos (digits_value 10 (drop (cond p 1 0) (c ∷ cs))))
by-plus true c cs = mapped pos _ _ _ (numeral cs)
by-plus false c cs = mapped pos _ _ _ (numeral (c ∷ cs))

unsigned : (bs : List ℕ) → Gives (signed_digits false bs) (IsNumeral 10 (without_leading_plus bs)) (pos (digits_value 10 (without_leading_plus bs)))
unsigned [] = inr (refl, λ h. absurd (omega (arith, h.0)))
unsigned (c ∷ cs) = by-plus (eqb c 43) c cs

chained : (o : Option ℤ) (P Q : Type 0) (v : ℤ) (f : ℤ → Option ℤ) → Gives o P v → Gives (f v) Q v → Gives (option_and_then f o) (P × Q) v
chained o P Q v f (inl h) (inl g) = inl (ap (option_and_then f) h.0 ∙ g.0, (h.1, g.1))
chained o P Q v f (inl h) (inr g) = inr (ap (option_and_then f) h.0 ∙ g.0, λ k. g.1 k.1)
chained o P Q v f (inr h) g = inr (ap (option_and_then f) h.0, λ k. h.1 k.0)

read : {X E : Type 0} (r : Result X E) (o : Option X) (P : Type 0) (v : X) → OkIff r P v → Gives o P v → result_ok r ≡ o
read (Ok x) o P v h (inl g) = ap Some h.1 ∙ sym g.0
read (Ok x) o P v h (inr g) = absurd (g.1 h.0)
read (Err e) o P v h (inl g) = absurd (h g.1)
read (Err e) o P v h (inr g) = sym g.0

pub parsed-int32 : {E : Type 0} (bs : List ℕ) (r : Result ℤ E) → ParsesSigned w32 10 bs r → result_ok r ≡ whole_signed 32 bs
parsed-int32 bs r h = read r _ _ _ h (chained (signed_digits true bs) _ _ (signed_digits_value 10 bs) _ (signed bs) (int32-fits (signed_digits_value 10 bs)))

pub parsed-int64 : {E : Type 0} (bs : List ℕ) (r : Result ℤ E) → ParsesSigned w64 10 bs r → result_ok r ≡ whole_signed 64 bs
parsed-int64 bs r h = read r _ _ _ h (chained (signed_digits true bs) _ _ (signed_digits_value 10 bs) _ (signed bs) (int64-fits (signed_digits_value 10 bs)))

-- of a number without a sign, as a natural number
natural : (m : ℕ) (bs : List ℕ) → Gives (option_map unsigned_abs (whole_between (pos 0) (pos m) bs)) (IsNumeral 10 (without_leading_plus bs) × (digits_value 10 (without_leading_plus bs) < suc m)) (digits_value 10 (without_leading_plus bs))
natural m bs =
    let ds = digits_value 10 (without_leading_plus bs) in
    mapped unsigned_abs _ _ (pos ds) (chained (signed_digits false bs) _ _ (pos ds) _ (unsigned bs) (below-fits m ds))

pub parsed-uint32 : {E : Type 0} (bs : List ℕ) (r : Result ℕ E) → ParsesUnsigned 32 10 bs r → result_ok r ≡ option_map unsigned_abs (whole_unsigned 32 bs)
parsed-uint32 bs r h = read r _ _ _ h (natural (2 ^ 32 - 1) bs)

pub parsed-uint64 : {E : Type 0} (bs : List ℕ) (r : Result ℕ E) → ParsesUnsigned 64 10 bs r → result_ok r ≡ option_map unsigned_abs (whole_unsigned 64 bs)
parsed-uint64 bs r h = read r _ _ _ h (natural (2 ^ 64 - 1) bs)
