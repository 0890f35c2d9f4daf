-- A number of more than three digits: what is before the last three, and these.
use Rattle.std.proofs.Common.{◌≡◌, ℕ, zero, suc, ◌≤◌, ◌<◌, ◌/◌, true, false, ◌++◌, nat_lt, if◌then◌else◌, inl, inr, refl, sym, ap, ◌∙◌, arith}
use Rattle.std.proofs.lemmas.Bool.{cases_lt}
use Rattle.std.proofs.lemmas.Bool.Decides.{nat_tests}
use Rattle.std.specs.Fmt.{decimal}
use Rattle.verdict_texts.specs.Grouped.{grouped, grouped_in, last_group}

fewer : (n j : ℕ) → 1000 ≤ n → n ≤ suc j → n / 1000 ≤ j
fewer n j large within = omega arith

small : (k n : ℕ) → n < 1000 → grouped_in k n ≡ decimal n
small zero n below = refl
small (suc k) n below =
    let yes : nat_lt n 1000 ≡ true = grind (arith, nat_tests, below) in
    ap (λ b. if b then decimal n else grouped_in k (n / 1000) ++ last_group n) yes

large : (k n : ℕ) → 1000 ≤ n → grouped_in (suc k) n ≡ grouped_in k (n / 1000) ++ last_group n
large k n above =
    let no : nat_lt n 1000 ≡ false = grind (arith, nat_tests, above) in
    ap (λ b. if b then decimal n else grouped_in k (n / 1000) ++ last_group n) no

-- what suffices is enough
enough : (j k n : ℕ) → n ≤ j → n ≤ k → grouped_in j n ≡ grouped_in k n
enough zero k n below _ = sym (small k n (omega arith))
enough (suc j) zero n _ below = small (suc j) n (omega arith)
enough (suc j) (suc k) n first second = elim (cases_lt n 1000) [
  | inl below ↦ small (suc j) n below ∙ sym (small (suc k) n below)
  | inr above ↦ large j n above
      ∙ ap (λ front. front ++ last_group n) (enough j k (n / 1000) (fewer n j above first) (fewer n k above second))
      ∙ sym (large k n above)
]

pub grouped_small : (n : ℕ) → n < 1000 → decimal n ≡ grouped n
unfolding grouped
grouped_small n below = sym (small n n below)

pub grouped_large : (n : ℕ) → 1000 ≤ n → grouped (n / 1000) ++ last_group n ≡ grouped n
unfolding grouped
grouped_large zero above = absurd (omega arith)
grouped_large (suc m) above =
    ap (λ front. front ++ last_group (suc m)) (enough (suc m / 1000) m (suc m / 1000) (omega arith) (fewer (suc m) m above (omega arith)))
    ∙ sym (large m (suc m) above)
