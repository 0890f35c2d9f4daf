-- The number of each file where two parts of the files that stand next to each other are exchanged.
use Rattle.std.proofs.Common.{◌≡◌, ◌≤◌, ◌<◌, ◌+◌, ◌-◌, ◌⊎◌, inl, inr, ℕ, ltb, List, ◌++◌, length, slice_get, if◌then◌else◌, lt-ltb, le-ltb, ap, sym, ◌∙◌, arith}
use Rattle.std.proofs.lemmas.Bool.{cases_lt}
use Rattle.std.proofs.lemmas.List.{length-append}
use Rattle.pool_laws.proofs.Relinks.{slice-front}
use Rattle.pool_laws.proofs.Behind.{slice-rest}

-- with so many files in front, so many in the first part, and so many in the second
abbrev pub exchanged : ℕ → ℕ → ℕ → ℕ → ℕ
exchanged x a b n = if ltb n x then n else (if ltb n (x + a) then n + b else (if ltb n (x + a + b) then n - a else n))

-- a number in front is what it was
pub exchanged-front : (x a b n : ℕ) → n < x → exchanged x a b n ≡ n
exchanged-front x a b n below = ap (λ t. if t then n else (if ltb n (x + a) then n + b else (if ltb n (x + a + b) then n - a else n))) (lt-ltb n x below)

within-first : (x a b n : ℕ) → x ≤ n → n < x + a → exchanged x a b n ≡ n + b
within-first x a b n from below =
    ap (λ t. if t then n else (if ltb n (x + a) then n + b else (if ltb n (x + a + b) then n - a else n))) (le-ltb n x from)
    ∙ ap (λ t. if t then n + b else (if ltb n (x + a + b) then n - a else n)) (lt-ltb n (x + a) below)

within-second : (x a b n : ℕ) → x + a ≤ n → n < x + a + b → exchanged x a b n ≡ n - a
within-second x a b n from below =
    ap (λ t. if t then n else (if ltb n (x + a) then n + b else (if ltb n (x + a + b) then n - a else n))) (le-ltb n x (omega (arith, from)))
    ∙ ap (λ t. if t then n + b else (if ltb n (x + a + b) then n - a else n)) (le-ltb n (x + a) from)
    ∙ ap (λ t. if t then n - a else n) (lt-ltb n (x + a + b) below)

behind-both : (x a b n : ℕ) → x + a + b ≤ n → exchanged x a b n ≡ n
behind-both x a b n from =
    ap (λ t. if t then n else (if ltb n (x + a) then n + b else (if ltb n (x + a + b) then n - a else n))) (le-ltb n x (omega (arith, from)))
    ∙ ap (λ t. if t then n + b else (if ltb n (x + a + b) then n - a else n)) (le-ltb n (x + a) (omega (arith, from)))
    ∙ ap (λ t. if t then n - a else n) (le-ltb n (x + a + b) from)

-- a number in the first part comes behind the second
pub exchanged-first : (x a b i : ℕ) → i < a → exchanged x a b (x + i) ≡ x + b + i
exchanged-first x a b i below =
    let moved = within-first x a b (x + i) (omega arith) (omega (arith, below)) in
    omega (arith, moved)

-- one in the second comes before the first
pub exchanged-second : (x a b i : ℕ) → i < b → exchanged x a b (x + a + i) ≡ x + i
exchanged-second x a b i below =
    let moved = within-second x a b (x + a + i) (omega arith) (omega (arith, below)) in
    omega (arith, moved)

-- one behind both is what it was
pub exchanged-rest : (x a b i : ℕ) → exchanged x a b (x + a + b + i) ≡ x + a + b + i
exchanged-rest x a b i = behind-both x a b (x + a + b + i) (omega arith)

-- a number stands in front, in one of the parts, or behind both
pub record Front (x a b n m : ℕ) : Type 0 where
  pub below : n < x
  pub is : m ≡ n

pub record First (x a b n m : ℕ) : Type 0 where
  pub from : x ≤ n
  pub below : n < x + a
  pub is : m ≡ n + b

pub record Second (x a b n m : ℕ) : Type 0 where
  pub from : x + a ≤ n
  pub below : n < x + a + b
  pub is : m + a ≡ n

pub record Behind (x a b n m : ℕ) : Type 0 where
  pub from : x + a + b ≤ n
  pub is : m ≡ n

abbrev pub Moved : ℕ → ℕ → ℕ → ℕ → ℕ → Type 0
Moved x a b n m = Front x a b n m ⊎ (First x a b n m ⊎ (Second x a b n m ⊎ Behind x a b n m))

-- where the number of a file is moved, by where it stands
pub exchanged-cases : (x a b n : ℕ) → Moved x a b n (exchanged x a b n)
exchanged-cases x a b n = elim (cases_lt n x) [
  | inl front ↦ inl (record { below = front; is = exchanged-front x a b n front })
  | inr past ↦ inr (elim (cases_lt n (x + a)) [
    | inl first ↦ inl (record { from = past; below = first; is = within-first x a b n past first })
    | inr further ↦ inr (elim (cases_lt n (x + a + b)) [
      | inl second ↦ inl (record { from = further; below = second; is = (let moved = within-second x a b n further second in omega (arith, moved, further)) })
      | inr behind ↦ inr (record { from = behind; is = behind-both x a b n behind })
    ])
  ])
]

-- the parts exchanged once more, and each number is what it was
moved-back : (x a b n m : ℕ) → Moved x a b n m → exchanged x b a m ≡ n
moved-back x a b n m (inl s) = let is = exchanged-front x b a m (omega (arith, s.below, s.is)) in omega (arith, is, s.is)
moved-back x a b n m (inr (inl s)) = let is = within-second x b a m (omega (arith, s.from, s.is)) (omega (arith, s.below, s.is)) in omega (arith, is, s.is)
moved-back x a b n m (inr (inr (inl s))) = let is = within-first x b a m (omega (arith, s.from, s.is)) (omega (arith, s.below, s.is)) in omega (arith, is, s.is)
moved-back x a b n m (inr (inr (inr s))) = let is = behind-both x b a m (omega (arith, s.from, s.is)) in omega (arith, is, s.is)

-- two numbers are not moved to one
pub exchanged-one : (x a b m n : ℕ) → exchanged x a b m ≡ exchanged x a b n → m ≡ n
exchanged-one x a b m n same =
    sym (moved-back x a b m (exchanged x a b m) (exchanged-cases x a b m)) ∙ ap (exchanged x b a) same ∙ moved-back x a b n (exchanged x a b n) (exchanged-cases x a b n)

within-moved : (x a b rest n m : ℕ) → Moved x a b n m → n < x + a + b + rest → m < x + a + b + rest
within-moved x a b rest n m (inl s) below = omega (arith, s.is, below)
within-moved x a b rest n m (inr (inl s)) below = omega (arith, s.below, s.is)
within-moved x a b rest n m (inr (inr (inl s))) below = omega (arith, s.is, below)
within-moved x a b rest n m (inr (inr (inr s))) below = omega (arith, s.is, below)

-- lists of four parts
module _ {X : Type 0} (front first second rest : List X) where
  four-long : length (front ++ first ++ second ++ rest) ≡ length front + length first + length second + length rest
  four-long =
      length-append (front ++ first ++ second) rest
      ∙ ap (λ n. n + length rest) (length-append (front ++ first) second ∙ ap (λ n. n + length second) (length-append front first))

  at-first : (n : ℕ) → n < length front → slice_get (front ++ first ++ second ++ rest) n ≡ slice_get front n
  at-first n below =
      let two = length-append front first in
      let three = length-append (front ++ first) second in
      slice-front (front ++ first ++ second) rest n (omega (arith, below, two, three))
      ∙ slice-front (front ++ first) second n (omega (arith, below, two)) ∙ slice-front front first n below

  at-second : (n i : ℕ) → n ≡ length front + i → i < length first → slice_get (front ++ first ++ second ++ rest) n ≡ slice_get first i
  at-second n i is below =
      let two = length-append front first in
      let three = length-append (front ++ first) second in
      slice-front (front ++ first ++ second) rest n (omega (arith, below, two, three, is))
      ∙ slice-front (front ++ first) second n (omega (arith, below, two, is)) ∙ ap (slice_get (front ++ first)) is ∙ slice-rest front first i

  at-third : (n i : ℕ) → n ≡ length front + length first + i → i < length second → slice_get (front ++ first ++ second ++ rest) n ≡ slice_get second i
  at-third n i is below =
      let two = length-append front first in
      let three = length-append (front ++ first) second in
      let there : n ≡ length (front ++ first) + i = omega (arith, two, is) in
      slice-front (front ++ first ++ second) rest n (omega (arith, below, three, there))
      ∙ ap (slice_get (front ++ first ++ second)) there ∙ slice-rest (front ++ first) second i

  at-fourth : (n i : ℕ) → n ≡ length front + length first + length second + i → slice_get (front ++ first ++ second ++ rest) n ≡ slice_get rest i
  at-fourth n i is =
      let two = length-append front first in
      let three = length-append (front ++ first) second in
      let there : n ≡ length (front ++ first ++ second) + i = omega (arith, two, three, is) in
      ap (slice_get (front ++ first ++ second ++ rest)) there ∙ slice-rest (front ++ first ++ second) rest i

-- lists of which two parts that stand next to each other are exchanged
module _ {X : Type 0} (x a b : ℕ) (front first second rest : List X) (long : length front ≡ x) (long_first : length first ≡ a) (long_second : length second ≡ b) where
  at-moved : (n m : ℕ) → Moved x a b n m → slice_get (front ++ second ++ first ++ rest) m ≡ slice_get (front ++ first ++ second ++ rest) n
  at-moved n m (inl s) =
      at-first front second first rest m (omega (arith, s.below, s.is, long)) ∙ ap (slice_get front) s.is
      ∙ sym (at-first front first second rest n (omega (arith, s.below, long)))
  at-moved n m (inr (inl s)) =
      let i = n - x in
      at-third front second first rest m i (omega (arith, s.from, s.is, long, long_second)) (omega (arith, s.from, s.below, long_first))
      ∙ sym (at-second front first second rest n i (omega (arith, s.from, long)) (omega (arith, s.from, s.below, long_first)))
  at-moved n m (inr (inr (inl s))) =
      let i = n - (x + a) in
      at-second front second first rest m i (omega (arith, s.from, s.is, long)) (omega (arith, s.from, s.below, long_second))
      ∙ sym (at-third front first second rest n i (omega (arith, s.from, long, long_first)) (omega (arith, s.from, s.below, long_second)))
  at-moved n m (inr (inr (inr s))) =
      let i = n - (x + a + b) in
      at-fourth front second first rest m i (omega (arith, s.from, s.is, long, long_first, long_second))
      ∙ sym (at-fourth front first second rest n i (omega (arith, s.from, long, long_first, long_second)))

  -- what stands at a number stands where it is moved to
  pub exchanged-at : (n : ℕ) → n < length (front ++ first ++ second ++ rest) → slice_get (front ++ second ++ first ++ rest) (exchanged x a b n) ≡ slice_get (front ++ first ++ second ++ rest) n
  exchanged-at n below = at-moved n (exchanged x a b n) (exchanged-cases x a b n)

  -- a number within the list stays within it
  pub exchanged-within : (n : ℕ) → n < length (front ++ first ++ second ++ rest) → exchanged x a b n < length (front ++ first ++ second ++ rest)
  exchanged-within n below =
      let four = four-long front first second rest in
      let stays = within-moved x a b (length rest) n (exchanged x a b n) (exchanged-cases x a b n) (omega (arith, below, four, long, long_first, long_second)) in
      omega (arith, stays, four, long, long_first, long_second)

  -- the list is as long as it was
  pub exchanged-long : length (front ++ second ++ first ++ rest) ≡ length (front ++ first ++ second ++ rest)
  exchanged-long =
      let was = four-long front first second rest in
      let is = four-long front second first rest in
      omega (arith, was, is)
