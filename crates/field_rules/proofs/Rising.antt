-- Values whose numbers rise: none before a value has its number.
use Rattle.std.proofs.Common.{◌≡◌, ℕ, zero, suc, ℤ, ◌+◌, ◌<◌, true, false, cond, List, [], ◌∷◌, length, take, get_or, find, None, Some, refl, ap, sym, subst, ◌∙◌, arith}
use Rattle.std.specs.Cmp.{int_cmp_total}
use Rattle.std.specs.List.{enumerate_from}
use Rattle.std.specs.Ordering.{int_cmp, int_eq, is_eq}
use Rattle.std.specs.declared.cmp.Ordering.TheVariants.{Less, Equal, Greater}
use Rattle.std.specs.Prelude.{int_lt}
use Rattle.proto_types.specs.Readers.{number_of}
use Rattle.proto_types.specs.declared.records.enumeration.EnumValueDescriptorProto.{EnumValueDescriptorProto}
use Rattle.field_rules.specs.EnumValues.{NumbersRise}

abbrev number : EnumValueDescriptorProto → ℤ
number v = number_of v.number

-- a number less than another stands before it, and is another
ranked : (a b : ℤ) → int_lt a b ≡ true → int_cmp a b ≡ Less
ranked a b less = ap (λ t. cond t Less (cond (int_lt b a) Greater Equal)) less

other : (a b : ℤ) → int_cmp a b ≡ Less → int_eq a b ≡ false
other a b less = ap is_eq less

rising-rest : (v : EnumValueDescriptorProto) (vs : List EnumValueDescriptorProto) → NumbersRise (v ∷ vs) → NumbersRise vs
rising-rest v vs rising = λ k d below.
    let next : suc k + 1 ≡ suc (k + 1) = omega arith in
    subst (λ n. int_lt (number (get_or (v ∷ vs) (suc k) d)) (number (get_or (v ∷ vs) n d)) ≡ true) next (rising (suc k) d (omega (arith, below)))

-- the first number is less than each behind it
first-less : (v : EnumValueDescriptorProto) (vs : List EnumValueDescriptorProto) (i : ℕ) (w : EnumValueDescriptorProto) → NumbersRise (v ∷ vs) → i < length vs → w ≡ get_or vs i w
    → int_cmp (number v) (number w) ≡ Less
first-less v [] i w rising below is = absurd (omega (arith, below))
first-less v (x ∷ xs) zero w rising below is =
    ranked (number v) (number w) (subst (λ y. int_lt (number v) (number y) ≡ true) (sym is) (rising 0 w (omega arith)))
first-less v (x ∷ xs) (suc i) w rising below is =
    int_cmp_total.trans (number v) (number x) (number w) (ranked (number v) (number x) (rising 0 w (omega arith)))
    (first-less x xs i w (rising-rest v (x ∷ xs) rising) (omega (arith, below)) is)

-- none before a value has its number
pub none-before : (values : List EnumValueDescriptorProto) (i k : ℕ) (w : EnumValueDescriptorProto) → NumbersRise values → i < length values → w ≡ get_or values i w
    → find (λ e. int_eq (number_of e.1.number) (number_of w.number)) (enumerate_from k (take i values)) ≡ None
none-before [] i k w rising below is = absurd (omega (arith, below))
none-before (v ∷ vs) zero k w rising below is = refl
none-before (v ∷ vs) (suc i) k w rising below is =
    ap (λ b. cond b (Some (k, v)) (find (λ e. int_eq (number_of e.1.number) (number_of w.number)) (enumerate_from (k + 1) (take i vs))))
    (other (number v) (number w) (first-less v vs i w rising (omega (arith, below)) is))
    ∙ none-before vs i (k + 1) w (rising-rest v vs rising) (omega (arith, below)) is
