-- Where a byte stands first, block by block.
use Rattle.std.proofs.Common.{◌≡◌, ℕ, zero, suc, ◌+◌, ◌%◌, ◌^◌, ◌<◌, ◌≤◌, Bool, true, false, not, cond, eqb, List, [], ◌∷◌, map, length, take, drop, replicate, w8, refl, ap, sym, ◌∙◌, arith}
use Rattle.std.specs.List.{position_or_len, prefix_len}
use Rattle.std.proofs.lemmas.List.{length-drop, drop-drop}
use Rattle.std.proofs.lemmas.Simd.{bitmask_splat, leading_from_mask_l, trailing_mask_l, length-chunk}
use lib.Count.{count_trailing_zeros}
use lib.Lanes.{mask_l, top, zip2}

-- the bits of the bytes of a block, each set where the byte is the one that is wanted
abbrev pub mask_of : ℕ → List ℕ → ℕ
mask_of wanted xs = mask_l (map (top 7) (zip2 (λ a b. cond (eqb a b) 255 0) xs (replicate 16 wanted))) % 2 ^ 64

mask-is : (wanted : ℕ) (xs : List ℕ) → length xs ≡ 16 → mask_of wanted xs ≡ mask_l (map (λ c. eqb c wanted) xs)
mask-is wanted xs long = bitmask_splat w8 eqb xs 16 wanted long (omega arith)

-- no bit is set
pub none-there : (wanted from : ℕ) (bs : List ℕ) → from + 16 ≤ length bs → mask_of wanted (take 16 (drop from bs)) ≡ 0 → 16 ≡ position_or_len (λ c. eqb c wanted) (take 16 (drop from bs))
none-there wanted from bs room h =
    let long = length-chunk from 16 bs room in
    sym long ∙ sym (leading_from_mask_l (λ c. eqb c wanted) (take 16 (drop from bs)) (sym (mask-is wanted (take 16 (drop from bs)) long) ∙ h))

some-bit : (m : ℕ) → (m ≡ 0 → ⊥) → 0 < m
some-bit zero h = absurd (h refl)
some-bit (suc m) h = omega arith

-- the lowest bit that is set
pub first-there : (wanted from : ℕ) (bs : List ℕ) → from + 16 ≤ length bs → (mask_of wanted (take 16 (drop from bs)) ≡ 0 → ⊥)
    → count_trailing_zeros 64 (mask_of wanted (take 16 (drop from bs))) ≡ position_or_len (λ c. eqb c wanted) (take 16 (drop from bs))
first-there wanted from bs room h =
    let xs = take 16 (drop from bs) in
    let long = length-chunk from 16 bs room in
    let is = mask-is wanted xs long in
    ap (count_trailing_zeros 64) is ∙ trailing_mask_l (λ c. eqb c wanted) 64 xs (omega (arith, long)) (omega (arith, is, some-bit (mask_of wanted xs) h))

-- how many elements stand before the first that p holds of
abbrev before : (ℕ → Bool) → List ℕ → ℕ
before p xs = prefix_len (λ y. not (p y)) xs

-- none of the first n elements is the one
pub passed-block : (p : ℕ → Bool) (n : ℕ) (xs : List ℕ) → n ≤ length xs → n ≡ position_or_len p (take n xs) → position_or_len p xs ≡ n + position_or_len p (drop n xs)
passed-block p zero xs room h = omega arith
passed-block p (suc n) [] room h = absurd (omega arith)
passed-block p (suc n) (x ∷ xs) room h = (elim (p x) as (λ b. suc n ≡ cond (not b) (1 + before p (take n xs)) 0 → cond (not b) (1 + before p xs) 0 ≡ suc n + before p (drop n xs))
    [ true ↦ λ e. absurd (omega arith) | false ↦ λ e. omega (arith, passed-block p n xs (omega arith) (omega arith)) ]) h

within : (p : ℕ → Bool) (xs : List ℕ) → position_or_len p xs ≤ length xs
within p [] = omega arith
within p (x ∷ xs) = (elim (p x) as (λ b. cond (not b) (1 + before p xs) 0 ≤ suc (length xs)) [ true ↦ omega arith | false ↦ omega (arith, within p xs) ])

-- one more block is passed
pub go-on : (wanted passed place : ℕ) (bs : List ℕ) → passed + 16 ≤ length bs → position_or_len (λ c. eqb c wanted) bs ≡ passed + position_or_len (λ c. eqb c wanted) (drop passed bs)
    → place ≡ position_or_len (λ c. eqb c wanted) (take 16 (drop passed bs)) → 16 ≤ place
    → position_or_len (λ c. eqb c wanted) bs ≡ passed + 16 + position_or_len (λ c. eqb c wanted) (drop (passed + 16) bs)
go-on wanted passed place bs room far is all =
    let p : ℕ → Bool = λ c. eqb c wanted in
    let ys = drop passed bs in
    let long = length-chunk passed 16 bs room in
    let full : 16 ≡ position_or_len p (take 16 ys) = omega (arith, long, within p (take 16 ys), is, all) in
    let more = passed-block p 16 ys (omega (arith, length-drop passed bs, room)) full in
    let rest = ap (position_or_len p) (drop-drop 16 passed bs) in
    omega (arith, far, more, rest)
