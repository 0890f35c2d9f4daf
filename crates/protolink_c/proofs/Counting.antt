-- Parts are counted, taken off and put together. Assumes `Logic`.
--     off, together      one part off, and parts of one round as one
--     all_of, all_back   the whole token of a round as all of its parts, and back
use Rattle.std.proofs.Common.{◌≡◌, ℕ, zero, suc, ◌+◌, ◌-◌, ◌*◌, ◌^◌, ◌<◌, [], ◌∷◌, sym, subst, arith}
use seplogic.Ra.Ura.{Ura}
use base.Fml.{Lft, Share, Fml, ftrue, fsep, flft}
use base.Fraction.{full_share, left}
use base.Logic.{SProp, sep, ent, emp, id⊢, never_e}
use native.Mathlib.Nat.{pow-suc}
use types.Logic.{Logic, sem}
use types.Kit.{‵, ◌⊛◌, ◌$◌, ◌∵◌, !, qed, by, done, move, drop, keep, use0, use1, use2, split, fsplit, fjoin, flt_l, flt_i}
use denote.Param.Laws.{Laws}
use denote.RattleType.{RattleType}
use denote.RawPtr.{Ptr, count_of}
use denote.SharingLaws.{contraction}
use denote.Struct.Lending.{lent_at, lent_at_shr_laws}
use Rattle.protolink_c.specs.Parted.{halved, times, parts, part_owns, whole}

module _ {M : Type 1} {𝓤 : Ura M} (𝓛 : Logic 𝓤) where
  abbrev Of : Fml → SProp 𝓤
  Of = sem 𝓛

  at : (F : ℕ → Fml) {m n : ℕ} → m ≡ n → ent 𝓤 (Of (F m)) (Of (F n))
  at F {m} e = subst (λ k. ent 𝓤 (Of (F m)) (Of (F k))) e (id⊢ 𝓤 (Of (F m)))

  times_join : (P : Fml) (m n : ℕ) → ent 𝓤 (sep 𝓤 (Of (times m P)) (Of (times n P))) (Of (times (m + n) P))
  unfolding times
  times_join P zero n = qed 𝓛 (‵ ftrue ∷ ‵ (times n P) ∷ []) ∵ drop ! $ by ! (at (λ k. times k P) (omega arith))
  times_join P (suc m) n = qed 𝓛 (‵ (fsep P (times m P)) ∷ ‵ (times n P) ∷ []) ∵ fsplit ! $ move ! (1 ∷ 2 ∷ []) $ use2 𝓛 (‵ (times (m + n) P)) (times_join P m n) $ move ! (1 ∷ []) $ fjoin !
      $ by ! (at (λ k. times k P) {m = suc (m + n)} (omega arith))

  times_cut : (P : Fml) (m n : ℕ) → ent 𝓤 (Of (times (m + n) P)) (sep 𝓤 (Of (times m P)) (Of (times n P)))
  unfolding times
  times_cut P zero n = qed 𝓛 (‵ (times (0 + n) P) ∷ []) ∵ use1 𝓛 (‵ (times n P)) (at (λ k. times k P) (omega arith)) $ use0 𝓛 (‵ ftrue) (id⊢ 𝓤 (emp 𝓤)) $ done !
  times_cut P (suc m) n = qed 𝓛 (‵ (times (suc m + n) P) ∷ []) ∵ use1 𝓛 (‵ (times (suc (m + n)) P)) (at (λ k. times k P) {n = suc (m + n)} (omega arith)) $ fsplit ! $ move ! (1 ∷ [])
      $ use1 𝓛 (‵ (times m P) ⊛ ‵ (times n P)) (times_cut P m n) $ split ! $ move ! (2 ∷ 0 ∷ []) $ fjoin ! $ done !

  doubled : (k : ℕ) → 2 ^ k + 2 ^ k ≡ 2 ^ suc k
  doubled k = let e : 2 ^ suc k ≡ 2 ^ k * 2 = pow-suc 2 k in omega arith

  to_times : (κ : Lft) (k : ℕ) (q : Share) → ent 𝓤 (Of (flft κ q)) (Of (times (2 ^ k) (flft κ (halved k q))))
  unfolding times halved
  to_times κ zero q = qed 𝓛 (‵ (flft κ q) ∷ []) ∵ use0 𝓛 (‵ ftrue) (id⊢ 𝓤 (emp 𝓤)) $ move ! (1 ∷ 0 ∷ []) $ fjoin ! $ done !
  to_times κ (suc k) q = let F = flft κ (halved k (left q)) in
      qed 𝓛 (‵ (flft κ q) ∷ []) ∵ use1 𝓛 (‵ (flft κ (left q)) ⊛ ‵ (flft κ (left q))) (𝓛.lfts.lft_split κ q) $ split !
      $ use1 𝓛 (‵ (times (2 ^ k) F)) (to_times κ k (left q)) $ move ! (1 ∷ []) $ use1 𝓛 (‵ (times (2 ^ k) F)) (to_times κ k (left q))
      $ use2 𝓛 (‵ (times (2 ^ k + 2 ^ k) F)) (times_join F (2 ^ k) (2 ^ k)) $ by ! (at (λ n. times n F) (doubled k))

  of_times : (κ : Lft) (k : ℕ) (q : Share) → ent 𝓤 (Of (times (2 ^ k) (flft κ (halved k q)))) (Of (flft κ q))
  unfolding times halved
  of_times κ zero q = qed 𝓛 (‵ (fsep (flft κ q) ftrue) ∷ []) ∵ fsplit ! $ keep ! (0 ∷ []) $ done !
  of_times κ (suc k) q = let F = flft κ (halved k (left q)) in
      qed 𝓛 (‵ (times (2 ^ suc k) F) ∷ []) ∵ use1 𝓛 (‵ (times (2 ^ k + 2 ^ k) F)) (at (λ n. times n F) (sym (doubled k)))
      $ use1 𝓛 (‵ (times (2 ^ k) F) ⊛ ‵ (times (2 ^ k) F)) (times_cut F (2 ^ k) (2 ^ k)) $ split !
      $ use1 𝓛 (‵ (flft κ (left q))) (of_times κ k (left q)) $ move ! (1 ∷ []) $ use1 𝓛 (‵ (flft κ (left q))) (of_times κ k (left q)) $ by ! (𝓛.lfts.lft_join κ q)

  abbrev token : ℕ → Fml
  token round = flft (round ∷ []) (halved 63 full_share)

  some : (round n : ℕ) → 0 < n → ent 𝓤 (Of (times n (token round))) (Of (parts round n))
  unfolding parts
  some round zero h = absurd (omega arith)
  some round (suc n) h = id⊢ 𝓤 _

  counted : (round n : ℕ) → ent 𝓤 (Of (parts round n)) (Of (times n (token round)))
  unfolding parts
  counted round zero = never_e 𝓤 _
  counted round (suc n) = id⊢ 𝓤 _

  pub off : (round n : ℕ) → 1 < n → ent 𝓤 (Of (parts round n)) (sep 𝓤 (Of (parts round (n - 1))) (Of (parts round 1)))
  off round n h = qed 𝓛 (‵ (parts round n) ∷ []) ∵ use1 𝓛 (‵ (times n (token round))) (counted round n)
      $ use1 𝓛 (‵ (times (n - 1 + 1) (token round))) (at (λ k. times k (token round)) (omega arith))
      $ use1 𝓛 (‵ (times (n - 1) (token round)) ⊛ ‵ (times 1 (token round))) (times_cut (token round) (n - 1) 1) $ split !
      $ use1 𝓛 (‵ (parts round (n - 1))) (some round (n - 1) (omega arith)) $ move ! (1 ∷ []) $ use1 𝓛 (‵ (parts round 1)) (some round 1 (omega arith)) $ move ! (1 ∷ 0 ∷ []) $ done !

  pub together : (round m n : ℕ) → ent 𝓤 (sep 𝓤 (Of (parts round m)) (Of (parts round n))) (Of (parts round (m + n)))
  unfolding parts
  together round zero n = qed 𝓛 (‵ (parts round zero) ∷ ‵ (parts round n) ∷ []) ∵ keep ! (0 ∷ []) $ by ! (never_e 𝓤 _)
  together round (suc m) n = qed 𝓛 (‵ (times (suc m) (token round)) ∷ ‵ (parts round n) ∷ []) ∵ move ! (1 ∷ []) $ use1 𝓛 (‵ (times n (token round))) (counted round n) $ move ! (1 ∷ 0 ∷ [])
      $ use2 𝓛 (‵ (times (suc m + n) (token round))) (times_join (token round) (suc m) n) $ by ! (some round (suc m + n) (omega arith))

  pub all_of : (round : ℕ) → ent 𝓤 (Of (flft (round ∷ []) full_share)) (Of (parts round whole))
  all_of round = qed 𝓛 (‵ (flft (round ∷ []) full_share) ∷ []) ∵ use1 𝓛 (‵ (times whole (token round))) (to_times (round ∷ []) 63 full_share) $ by ! (some round whole (omega arith))

  pub all_back : (round : ℕ) → ent 𝓤 (Of (parts round whole)) (Of (flft (round ∷ []) full_share))
  all_back round = qed 𝓛 (‵ (parts round whole) ∷ []) ∵ use1 𝓛 (‵ (times whole (token round))) (counted round whole) $ by ! (of_times (round ∷ []) 63 full_share)

  module _ (R : RattleType) (L : Laws R) where
    pub part_off : (p : Ptr) (x : R.Denot) (round n : ℕ) → 1 < n → ent 𝓤 (Of (part_owns R p x round n)) (sep 𝓤 (Of (part_owns R p x round (n - 1))) (Of (part_owns R p x round 1)))
    part_off p x round n h = let value = lent_at R p x (round ∷ []) in
        qed 𝓛 (‵ (part_owns R p x round n) ∷ []) ∵ fsplit ! $ use1 𝓛 (‵ (parts round (n - 1)) ⊛ ‵ (parts round 1)) (off round n h) $ split ! $ move ! (2 ∷ []) $ fsplit !
        $ use1 𝓛 (‵ value ⊛ ‵ value) (contraction 𝓛 (lent_at R p x) (lent_at_shr_laws R L.shr_laws p x) (round ∷ [])) $ split !
        $ move ! (2 ∷ []) $ flt_l ! (λ low. flt_i ! (count_of p) (2 ^ 63) low $ move ! (1 ∷ 0 ∷ []) $ fjoin ! $ move ! (2 ∷ 0 ∷ []) $ fjoin !
        $ flt_i ! (count_of p) (2 ^ 63) low $ move ! (2 ∷ 0 ∷ []) $ fjoin ! $ move ! (2 ∷ 0 ∷ []) $ fjoin ! $ move ! (1 ∷ 0 ∷ []) $ done !)

    pub part_joined : (p r : Ptr) (x y : R.Denot) (round m n : ℕ) → ent 𝓤 (sep 𝓤 (Of (part_owns R p x round m)) (Of (part_owns R r y round n))) (Of (part_owns R p x round (m + n)))
    part_joined p r x y round m n =
        qed 𝓛 (‵ (part_owns R p x round m) ∷ ‵ (part_owns R r y round n) ∷ []) ∵ fsplit ! $ move ! (2 ∷ []) $ fsplit ! $ move ! (2 ∷ 0 ∷ 3 ∷ [])
        $ use2 𝓛 (‵ (parts round (m + n))) (together round m n) $ fjoin ! $ keep ! (0 ∷ []) $ done !
