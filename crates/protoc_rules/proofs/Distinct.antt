-- Lists of which no two elements stand in a relation: nothing is told of them where pairs are told.
use Rattle.std.proofs.Common.{◌≡◌, ℕ, zero, suc, ℤ, ◌+◌, ◌-◌, ◌<◌, ◌≤◌, Bool, true, false, ◌&&◌, List, [], ◌++◌, None, length, length-append, get_or, take, refl, ap, sym, subst, ◌∙◌, arith}
use Rattle.std.proofs.lemmas.Bool.Decides.{nat_tests}
use Rattle.std.proofs.lemmas.Int.{ints}
use Rattle.std.proofs.lemmas.List.{get_or-take, length-take-le, take_all, get_or_append_left, get_or-append-add}
use Rattle.std.proofs.lemmas.List.Sums.{position_or_len_is}
use Rattle.std.proofs.lemmas.Map.Keys.{IsDistinct-from_apart, apart_from_distinct}
use Rattle.std.specs.List.{AllAdjacentBelow, IsDistinct, position, position_or_len}
use Rattle.std.specs.Prelude.{int_lt, int_le}
use Rattle.pool_types.specs.declared.contents.definition.Identity.{Identity}
use Rattle.proto_types.specs.declared.tag.message.TheConstants as message
use Rattle.protoc_rules.specs.declared.faults.StrictKind.{StrictKind}
use Rattle.protoc_rules.specs.declared.faults.StrictKind.TheVariants as kind
use Rattle.protoc_rules.specs.Faults.{each_told, entry, entry_at, pair_faults}
use Rattle.protoc_rules.specs.Spans.{overlap, precedes, reserved_overlap}
use Rattle.protoc_rules.proofs.Told.{told_next, within}

position-none : {X : Type 0} (p : X → Bool) (xs : List X) (d : X) → ((k : ℕ) → k < length xs → p (get_or xs k d) ≡ false) → position p xs ≡ None
position-none p xs d none =
    let whole : position_or_len p xs ≡ length xs = position_or_len_is p xs (length xs) d (omega arith) none (λ below. absurd (omega (arith, below))) in
    grind (arith, nat_tests, whole)

-- nothing is told of a list where nothing is of each element
pub quiet : {X Y : Type 0} (tell : ℕ → X → List Y) (xs : List X) → ((i : ℕ) (x : X) → i < length xs → x ≡ get_or xs i x → tell i x ≡ []) → each_told tell xs ≡ []
quiet tell xs none = ap (each_told tell) (sym (take_all (length xs) xs (omega arith))) ∙ up-to (length xs) (omega arith)
  where
    up-to : (i : ℕ) → i ≤ length xs → each_told tell (take i xs) ≡ []
    up-to zero below = refl
    up-to (suc i) below =
        let here : i < length xs = omega (arith, below) in
        let found = within xs i here in
        let one : suc i ≡ i + 1 = omega arith in
        ap (λ n. each_told tell (take n xs)) one ∙ told_next tell xs i found.0 here found.1.1
        ∙ ap (λ ys. ys ++ tell i found.0) (up-to i (omega (arith, below))) ∙ none i found.0 here found.1.1

module _ {X : Type 0} (e : X → X → Bool) (flips : (x y : X) → e x y ≡ e y x) where
  -- no element stands in it to one before
  none-before : (xs : List X) (i : ℕ) (x : X) → IsDistinct e xs → i < length xs → x ≡ get_or xs i x → position (e x) (take i xs) ≡ None
  none-before xs i x distinct below is =
      position-none (e x) (take i xs) x
      (λ k there. let before : k < i = omega (arith, length-take-le i xs (omega (arith, below)), there) in
      ap (e x) (get_or-take i xs k x before) ∙ flips x (get_or xs k x) ∙ ap (e (get_or xs k x)) is ∙ apart_from_distinct e xs k i x distinct before below)

  -- nothing is told of elements that stand in it to one before
  pub pairs-quiet : (xs : List X) → IsDistinct e xs → (kind : StrictKind) (id : Identity) (tag : ℤ)
      → each_told (λ n x. pair_faults kind id (entry tag n) (entry_at tag (position (e x) (take n xs)))) xs ≡ []
  pairs-quiet xs distinct kind id tag =
      quiet (λ n x. pair_faults kind id (entry tag n) (entry_at tag (position (e x) (take n xs)))) xs
      (λ i x below is. ap (λ o. pair_faults kind id (entry tag i) (entry_at tag o)) (none-before xs i x distinct below is))

  -- no element of a second list stands in it to one of a first
  none-across : (ys xs : List X) (i : ℕ) (x : X) → IsDistinct e (ys ++ xs) → i < length xs → x ≡ get_or xs i x → position (e x) ys ≡ None
  none-across ys xs i x distinct below is =
      position-none (e x) ys x
      (λ k there. let all : length ys + i < length (ys ++ xs) = grind (arith, length-append ys xs) in
      let before : k < length ys + i = omega (arith, there) in
      flips x (get_or ys k x) ∙ ap (λ y. e y x) (sym (get_or_append_left ys xs x k there))
      ∙ ap (e (get_or (ys ++ xs) k x)) (is ∙ sym (get_or-append-add ys xs i x)) ∙ apart_from_distinct e (ys ++ xs) k (length ys + i) x distinct before all)

both-ways : (a b : Bool) → (a && b) ≡ (b && a)
both-ways true true = refl
both-ways true false = refl
both-ways false true = refl
both-ways false false = refl

pub overlap-flips : (x y : ℤ × ℤ) → overlap x y ≡ overlap y x
overlap-flips x y = both-ways (int_lt y.0 x.1) (int_lt x.0 y.1)

-- nothing is told of extension ranges where they and the reserved ones are apart
pub across-quiet : (id : Identity) (reserved extensions : List (ℤ × ℤ)) → IsDistinct overlap (reserved ++ extensions) → each_told (reserved_overlap id reserved) extensions ≡ []
across-quiet id reserved extensions distinct =
    quiet (reserved_overlap id reserved) extensions
    (λ i x below is. ap (λ o. pair_faults kind.RangesOverlap id (entry message.EXTENSION_RANGE i) (entry_at message.RESERVED_RANGE o))
    (none-across overlap overlap-flips reserved extensions i x distinct below is))

ends : (x y : ℤ × ℤ) → precedes x y ≡ true → int_le x.1 y.0 ≡ true
ends x y there = second (int_lt x.0 x.1) (int_le x.1 y.0) there
  where
    second : (a b : Bool) → (a && b) ≡ true → b ≡ true
    second true b h = h
    second false b h = absurd cc

further : (x y z : ℤ × ℤ) → int_le x.1 y.0 ≡ true → precedes y z ≡ true → int_le x.1 z.0 ≡ true
further x y z first next = grind (arith, ints)

apart : (x y : ℤ × ℤ) → int_le x.1 y.0 ≡ true → overlap x y ≡ false
apart x y before = grind (arith, ints)

-- a range ends where a later one begins or before that, where each precedes the next
ends-before : (spans : List (ℤ × ℤ)) → AllAdjacentBelow (λ x y. precedes x y ≡ true) spans (length spans) → (i n : ℕ) (d : ℤ × ℤ) → i + 1 + n < length spans
    → int_le (get_or spans i d).1 (get_or spans (i + 1 + n) d).0 ≡ true
ends-before spans adjacent i zero d below =
    let same : i + 1 ≡ i + 1 + 0 = omega arith in
    subst (λ m. int_le (get_or spans i d).1 (get_or spans m d).0 ≡ true) same
    (ends (get_or spans i d) (get_or spans (i + 1) d) (adjacent i d (omega (arith, below))))
ends-before spans adjacent i (suc n) d below =
    let same : i + 1 + n + 1 ≡ i + 1 + suc n = omega arith in
    subst (λ m. int_le (get_or spans i d).1 (get_or spans m d).0 ≡ true) same
    (further (get_or spans i d) (get_or spans (i + 1 + n) d) (get_or spans (i + 1 + n + 1) d) (ends-before spans adjacent i n d (omega (arith, below)))
    (adjacent (i + 1 + n) d (omega (arith, below))))

-- no two ranges overlap where each precedes the next
pub spans-distinct : (spans : List (ℤ × ℤ)) → AllAdjacentBelow (λ x y. precedes x y ≡ true) spans (length spans) → IsDistinct overlap spans
spans-distinct spans adjacent =
    IsDistinct-from_apart overlap spans
    (λ i j d before below. let same : i + 1 + (j - (i + 1)) ≡ j = omega (arith, before) in
    apart (get_or spans i d) (get_or spans j d)
    (subst (λ m. int_le (get_or spans i d).1 (get_or spans m d).0 ≡ true) same (ends-before spans adjacent i (j - (i + 1)) d (omega (arith, before, below)))))

-- no two of fewer than two ranges overlap
pub few_apart : (spans : List (ℤ × ℤ)) → length spans < 2 → IsDistinct overlap spans
few_apart spans few = IsDistinct-from_apart overlap spans (λ i j d before below. absurd (omega (arith, few, before, below)))
