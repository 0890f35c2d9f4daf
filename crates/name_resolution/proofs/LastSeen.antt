-- A file that is seen by another.
use Rattle.std.proofs.Common.{◌≡◌, ◌≢◌, ◌<◌, ◌≤◌, ◌+◌, ◌-◌, ◌==◌, ℕ, Bool, true, false, cond, if◌then◌else◌, Option, None, Some, nat_lt, refl, ap, sym, subst, ◌∙◌, get_or, length, vec_len, replicate, arith}
use Rattle.std.specs.Bool.{then_some}
use Rattle.std.specs.Cmp.{nat_cmp_total, unsigned_tied}
use Rattle.std.specs.FinMap as finite
use Rattle.std.specs.Option.{IfSome, option_map_or}
use Rattle.std.specs.Ordering.{nat_cmp}
use Rattle.std.proofs.lemmas.Bool.{ne_eqb}
use Rattle.std.proofs.lemmas.Bool.Decides.{nat_tests}
use Rattle.std.proofs.lemmas.List.{get_or-replicate, length-replicate}
use Rattle.name_resolution.specs.declared.last_seen.LastSeen.{LastSeen}
use Rattle.name_resolution.specs.LastSeen.{kept_at, last_seen, near_place}

-- where a place is
placed : (file first n p : ℕ) (before within : Bool) → nat_lt file first ≡ before → nat_lt (file - first) n ≡ within
    → (if before then None else then_some within (file - first)) ≡ Some p → p < n
placed file first n p true within is there at = absurd (cc)
placed file first n p false false is there at = absurd (cc)
placed file first n p false true is there at =
    let same : file - first ≡ p = cc in
    let below : file - first < n = grind (arith, nat_tests) in
    subst (λ k. k < n) same below

place-within : (s : LastSeen) (file p : ℕ) → near_place s file ≡ Some p → p < vec_len s.near
place-within s file p at = placed file s.first (vec_len s.near) p (nat_lt file s.first) (nat_lt (file - s.first) (vec_len s.near)) refl refl at

module _ (s t : LastSeen) (file by : ℕ) (first : t.first ≡ s.first) (many : vec_len t.near ≡ vec_len s.near) where
  same-place : (other : ℕ) → near_place t other ≡ near_place s other
  same-place other = λ i. if nat_lt other (first i) then None else then_some (nat_lt (other - first i) (many i)) (other - first i)

  -- another file is as it was
  other-stays : (other : ℕ) (x : Option ℕ) → other ≢ file → x ≡ (if other == file then Some by else x)
  other-stays other x apart = sym (ap (λ b. if b then Some by else x) (ne_eqb other file apart))

  -- a file that does not stand in the list
  module _ (none : near_place s file ≡ None) (near : t.near.items ≡ s.near.items) (far : t.far ≡ finite.insert s.far file by) where
    by-key : (other : ℕ) (o : Option ℕ) → near_place s other ≡ o → kept_at t other o ≡ (if other == file then Some by else kept_at s other o)
    by-key other None is =
        ap (λ m. finite.get m other) far
        ∙ finite.get-insert nat_cmp_total s.far file by other
        ∙ ap (λ b. cond b (Some by) (finite.get s.far other)) (unsigned_tied other file)
    by-key other (Some q) is =
        let apart : other ≢ file = λ e. let both : near_place s other ≡ None = ap (near_place s) e ∙ none in absurd (cc) in
        ap (λ xs. get_or xs q None) near ∙ other-stays other (get_or s.near.items q None) apart

    pub sees-far : (other : ℕ) → last_seen t other ≡ (if other == file then Some by else last_seen s other)
    sees-far other = ap (kept_at t other) (same-place other) ∙ by-key other (near_place s other) refl

-- where nothing was seen, none saw a file last
pub none-seen : (s : LastSeen) (n : ℕ) → s.near.items ≡ replicate n None → s.far ≡ finite.empty → (file : ℕ) → last_seen s file ≡ None
none-seen s n near far file = by-place (near_place s file) refl
  where
    by-place : (o : Option ℕ) → near_place s file ≡ o → kept_at s file o ≡ None
    by-place None is = ap (λ m. finite.get m file) far ∙ finite.get-empty nat_cmp file
    by-place (Some p) is =
        let below : p < n = omega (arith, place-within s file p is, s.near.ok.0, ap length near, length-replicate {A = Option ℕ} n None) in
        ap (λ xs. get_or xs p None) near ∙ get_or-replicate n p None None below

-- who saw a file last, before it is seen by one behind
pub not-yet : (o : Option ℕ) (by : ℕ) → IfSome o (λ last. last < by) → option_map_or (λ last. last == by) o false ≡ false
not-yet None by before = refl
not-yet (Some last) by before = ne_eqb last by (omega (arith, before))

pub no-later : (o : Option ℕ) (by : ℕ) → IfSome o (λ last. last < by) → IfSome o (λ last. last ≤ by)
no-later None by before = tt
no-later (Some last) by before = omega (arith, before)

pub before-next : (o : Option ℕ) (by : ℕ) → IfSome o (λ last. last ≤ by) → IfSome o (λ last. last < by + 1)
before-next None by before = tt
before-next (Some last) by before = omega (arith, before)
