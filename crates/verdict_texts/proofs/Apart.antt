-- No two faults of a report have one fingerprint.
use Rattle.std.proofs.Common.{◌≡◌, ◌≢◌, ℕ, zero, suc, ◌+◌, ◌<◌, ◌≤◌, ◌^◌, Bool, true, false, cond, if◌then◌else◌, not, ◌&&◌, ◌==◌, List, [], ◌∷◌, ◌++◌, length, map, codes, inl, inr, ◌⊎◌, refl, sym, ap, subst, ◌∙◌, arith, append-nil, append_assoc}
use Rattle.std.proofs.lemmas.Bool.{cases_eq, ne_eqb}
use Rattle.std.proofs.lemmas.Bool.Decides.{nat_tests}
use Rattle.std.proofs.lemmas.Fmt.{decimal_injective, decimal_by_steps}
use Rattle.std.proofs.lemmas.List.Sums.{count_by-le-length, sum_by-cons, sum_by_push}
use Rattle.std.proofs.lemmas.List.{map-append}
use Rattle.std.proofs.lemmas.Slice.Eq.{bytes_eq-Decides}
use Rattle.std.specs.Fmt.{decimal}
use Rattle.std.specs.List.{AllByRecursion, count_by, IsDistinct}
use Rattle.std.specs.Str.{bytes_eq}
use Rattle.verdict_texts.specs.Fingerprints.{Marked, times, has_sign, fingerprint, apart_after, apart, FingerprintsDiffer}

-- no byte is a space
abbrev NoSpace : List ℕ → Type 0
NoSpace [] = Unit {0}
NoSpace (b ∷ bs) = (b ≢ 32) × NoSpace bs

no-space-push : (bs : List ℕ) (b : ℕ) → NoSpace bs → b ≢ 32 → NoSpace (bs ++ b ∷ [])
no-space-push [] b h n = (n, tt)
no-space-push (x ∷ bs) b h n = (h.0, no-space-push bs b h.1 n)

no-space-decimal : (n : ℕ) → n < 2 ^ 64 → NoSpace (decimal n)
no-space-decimal n small = decimal_by_steps (λ m ds. NoSpace ds) (λ m low. (λ e. omega arith, tt)) (λ m ds low h. no-space-push ds _ h (λ e. omega arith)) n small

-- what stands before the first space, and what after it
first-space : (a b x y : List ℕ) → NoSpace a → NoSpace b → a ++ 32 ∷ x ≡ b ++ 32 ∷ y → (a ≡ b) × (x ≡ y)
first-space [] [] x y ha hb e = (refl, cc)
first-space [] (c ∷ b) x y ha hb e = absurd (hb.0 (cc))
first-space (c ∷ a) [] x y ha hb e = absurd (ha.0 (cc))
first-space (c ∷ a) (d ∷ b) x y ha hb e =
    let rest = first-space a b x y ha.1 hb.1 (cc) in
    let same : a ≡ b = rest.0 in
    let head : c ≡ d = cc in
    (cc, rest.1)

-- a mark as it is, or behind `#` and a number
abbrev Shape : List ℕ → ℕ → List ℕ → Type 0
Shape mark n print = ((n ≡ 1) × (has_sign mark ≡ false) × (print ≡ mark)) ⊎ (print ≡ 35 ∷ (decimal n ++ 32 ∷ mark))

shape : (mark : List ℕ) (n : ℕ) → Shape mark n (fingerprint mark n)
unfolding fingerprint
shape mark n = go (n == 1) (has_sign mark) refl refl
  where
    go : (one sign : Bool) → (n == 1) ≡ one → has_sign mark ≡ sign → Shape mark n (if (one && not sign) then mark else codes "#" ++ (decimal n ++ (codes " " ++ mark)))
    go false sign e f = inr refl
    go true true e f = inr refl
    go true false e f = inl (grind (arith, nat_tests, e), f, refl)

-- a fingerprint shows its mark and its number
fingerprint-injective : (mark other : List ℕ) (m n : ℕ) → m < 2 ^ 64 → n < 2 ^ 64 → fingerprint mark m ≡ fingerprint other n → (mark ≡ other) × (m ≡ n)
fingerprint-injective mark other m n small low e = go (fingerprint mark m) (fingerprint other n) e (shape mark m) (shape other n)
  where
    go : (p q : List ℕ) → p ≡ q → Shape mark m p → Shape other n q → (mark ≡ other) × (m ≡ n)
    go p q same (inl a) (inl b) = (cc, cc)
    go p q same (inl a) (inr b) = absurd (let is : mark ≡ 35 ∷ (decimal n ++ 32 ∷ other) = cc in let no : has_sign (35 ∷ (decimal n ++ 32 ∷ other)) ≡ false = subst (λ t. has_sign t ≡ false) is a.1 in cc)
    go p q same (inr a) (inl b) = absurd (let is : other ≡ 35 ∷ (decimal m ++ 32 ∷ mark) = cc in let no : has_sign (35 ∷ (decimal m ++ 32 ∷ mark)) ≡ false = subst (λ t. has_sign t ≡ false) is b.1 in cc)
    go p q same (inr a) (inr b) =
        let told : decimal m ++ 32 ∷ mark ≡ decimal n ++ 32 ∷ other = cc in
        let parts = first-space (decimal m) (decimal n) mark other (no-space-decimal m small) (no-space-decimal n low) told in
        (parts.1, decimal_injective m n small low parts.0)

-- one more mark in front of others
times-cons : (mark other : List ℕ) (before : List (List ℕ)) → times mark (other ∷ before) ≡ cond (bytes_eq mark other) 1 0 + times mark before
times-cons mark other before = sum_by-cons _ other before

times-more : (mark other : List ℕ) (before : List (List ℕ)) → times mark before ≤ times mark (other ∷ before)
times-more mark other before = omega (arith, times-cons mark other before)

times-same : (mark : List ℕ) (before : List (List ℕ)) → times mark before < times mark (mark ∷ before)
times-same mark before =
    let once : ℕ = 1 in
    let one : cond (bytes_eq mark mark) once 0 ≡ once = ap (λ (b : Bool). cond b once 0) ((bytes_eq-Decides mark mark).1 refl) in
    omega (arith, one, times-cons mark mark before)

apart-from : (a b : List ℕ) → a ≢ b → bytes_eq a b ≡ false
apart-from a b n = go (bytes_eq a b) refl
  where
    go : (t : Bool) → bytes_eq a b ≡ t → t ≡ false
    go false e = refl
    go true e = absurd (n ((bytes_eq-Decides a b).0 e))

-- a fingerprint is none of those that come after its fault
none-later : (mark : List ℕ) (n : ℕ) (before : List (List ℕ)) (all : List Marked) → n < times mark before + 1 → length before + length all < 2 ^ 64
    → AllByRecursion (λ other. bytes_eq (fingerprint mark n) other ≡ false) (map (λ one. one.mark) (apart_after before all))
none-later mark n before [] below small = tt
none-later mark n before (other ∷ all) below small =
    let most : times other.mark before ≤ length before = count_by-le-length (bytes_eq other.mark) before in
    let counted : times mark before ≤ length before = count_by-le-length (bytes_eq mark) before in
    let more : times mark before ≤ times mark (other.mark ∷ before) = times-more mark other.mark before in (
      apart-from _ _ (λ same.
          let parts = fingerprint-injective mark other.mark n (times other.mark before + 1) (omega arith) (omega arith) same in
          let number : n ≡ times other.mark before + 1 = parts.1 in
          let equal : times mark before ≡ times other.mark before = ap (λ m. times m before) parts.0 in
          omega arith),
      none-later mark n (other.mark ∷ before) all (omega arith) (omega arith),
    )

differ : (before : List (List ℕ)) (all : List Marked) → length before + length all < 2 ^ 64 → IsDistinct bytes_eq (map (λ one. one.mark) (apart_after before all))
unfolding IsDistinct
differ before [] small = tt
differ before (one ∷ all) small =
    let more : times one.mark before < times one.mark (one.mark ∷ before) = times-same one.mark before in
    (none-later one.mark (times one.mark before + 1) (one.mark ∷ before) all (omega arith) (omega arith), differ (one.mark ∷ before) all (omega arith))

pub fingerprints-differ : FingerprintsDiffer
fingerprints-differ all small = differ [] all (omega arith)

after : (before : List (List ℕ)) (all : List Marked) (one : Marked) → apart_after before (all ++ one ∷ [])
    ≡ apart_after before all ++ record one { mark = fingerprint one.mark (times one.mark before + times one.mark (map (λ m. m.mark) all) + 1) } ∷ []
after before [] one = ap (λ n. record one { mark = fingerprint one.mark n } ∷ []) (omega arith)
after before (other ∷ all) one =
    let marks = map (λ (m : Marked). m.mark) all in
    let mark = one.mark in
    let turned : times mark (other.mark ∷ before) + times mark marks + 1 ≡ times mark before + times mark (other.mark ∷ marks) + 1 =
    omega (arith, times-cons mark other.mark before, times-cons mark other.mark marks) in
    ap (λ rest. record other { mark = fingerprint other.mark (times other.mark before + 1) } ∷ rest)
    (after (other.mark ∷ before) all one ∙ ap (λ n. apart_after (other.mark ∷ before) all ++ record one { mark = fingerprint mark n } ∷ []) turned)

-- one more fault
pub apart-push : (all : List Marked) (one : Marked) (n : ℕ) → n ≡ times one.mark (map (λ m. m.mark) all) + 1
    → apart (all ++ one ∷ []) ≡ apart all ++ record one { mark = fingerprint one.mark n } ∷ []
apart-push all one n is =
    let nth : times one.mark [] + times one.mark (map (λ m. m.mark) all) + 1 ≡ n = omega (arith, is) in
    after [] all one ∙ ap (λ k. apart all ++ record one { mark = fingerprint one.mark k } ∷ []) nth

-- how often a text is a mark, with one more
pub times-push : (text : List ℕ) (all : List Marked) (one : Marked) → times text (map (λ m. m.mark) (all ++ one ∷ []))
    ≡ times text (map (λ m. m.mark) all) + (if bytes_eq text one.mark then 1 else 0)
times-push text all one = ap (times text) (map-append (λ m. m.mark) all (one ∷ [])) ∙ sum_by_push _ (map (λ m. m.mark) all) one.mark
