-- What a borrow of some parts becomes. Assumes `Logic`.
--     lends_token     a lifetime whose token is borrowed outlasts the borrow
--     lends_twice     what can be had twice is lent as it is
--     lends_parts     a borrow of parts is a `&` to what they are parts of
use Rattle.std.proofs.Common.{ℕ, [], ◌∷◌, ◌++◌}
use Rattle.std.specs.Prelude.{zero, suc, ◌^◌}
use seplogic.Ra.Ura.{Ura}
use base.Before.{before, chain}
use base.Fml.{Lft, Share, Fml, Incl, ftrue, fsep, flft, flt, fbor}
use base.Fraction.{full_share}
use base.Logic.{sep, ent, wand, emp, apply∗, id⊢}
use contract.BorrowLft.{meet_⊑_left}
use types.Logic.{Logic, sem, lfts}
use types.Kit.{‵, raw, ◌⊛◌, later, ◌$◌, ◌∵◌, !, qed, by, done, move, drop, use0, use1, use2, await, split, fsplit, fjoin, fpack, updating, now}
use types.Tokens.{bor_fracture}
use denote.Param.Laws.{Laws}
use denote.RattleType.{RattleType}
use denote.RawPtr.{Ptr, count_of}
use denote.Sharing.{ShrLaws, ends, held, beside}
use denote.SharingLaws.{contraction}
use denote.Struct.Lending.{lent_at, lent_at_shr_laws, Lends, Lends-both, Lends-first, Lends-false}
use Rattle.protolink_c.specs.Parted.{parts, times, halved, part_owns}

module _ {M : Type 1} {𝓤 : Ura M} (𝓛 : Logic 𝓤) (l : Lft) where
  open 𝓛 use {H, A}

  lends_token : (ν : Lft) (s : Share) → Lends 𝓛 (flft ν s) (ends ν) l
  lends_token ν s κ ts inc sp =
      qed 𝓛 (‵ (fbor κ (flft ν s)) ∷ raw (lfts 𝓛 ts) ∷ []) {P = H.⇛ (sep 𝓤 (sem 𝓛 (ends ν κ)) (lfts 𝓛 ts))} (updating !
      $ bor_fracture ! tt (λ q. flft ν q) s
      $ use0 𝓛 (‵ ftrue) (id⊢ 𝓤 (emp 𝓤)) $ fpack ! _ (λ (i : Incl (ν ++ κ) ν). ftrue) (meet_⊑_left ν κ)
      $ move ! (1 ∷ 0 ∷ []) $ fjoin ! $ fpack ! _ (λ νs. chain νs κ ν) (ν ∷ []) $ now ! $ done !)

  lends_twice : (ν : Lft) (s : Lft → Fml) → ShrLaws s → Lends 𝓛 (s ν) (held ν s) l
  lends_twice ν s laws κ ts inc sp =
      qed 𝓛 (‵ (fbor κ (s ν)) ∷ raw (lfts 𝓛 ts) ∷ []) {P = H.⇛ (sep 𝓤 (sem 𝓛 (s ν)) (lfts 𝓛 ts))} (updating !
      $ use2 𝓛 (later (‵ (s ν) ⊛ raw (wand 𝓤 (sem 𝓛 (s ν)) (H.⇛ (sep 𝓤 (A.bor κ (s ν)) (lfts 𝓛 ts)))))) (𝓛.more.bor_acc_by κ ts (s ν) sp) $ await ! tt $ split !
      $ use1 𝓛 (‵ (s ν) ⊛ ‵ (s ν)) (contraction 𝓛 s laws ν) $ split ! $ move ! (0 ∷ 2 ∷ [])
      $ use2 𝓛 (later (‵ (fbor κ (s ν)) ⊛ raw (lfts 𝓛 ts))) (apply∗ 𝓤 (sem 𝓛 (s ν)) (H.⇛ (sep 𝓤 (A.bor κ (s ν)) (lfts 𝓛 ts)))) $ await ! tt $ split ! $ drop !
      $ move ! (1 ∷ 0 ∷ []) $ now ! $ done !)

  -- what is lent may be weakened
  lends_less : (P : Fml) (s t : Lft → Fml) → Lends 𝓛 P s l → ((κ : Lft) → ent 𝓤 (sem 𝓛 (s κ)) (sem 𝓛 (t κ))) → Lends 𝓛 P t l
  lends_less P s t lent less κ ts inc sp =
      qed 𝓛 (‵ (fbor κ P) ∷ raw (lfts 𝓛 ts) ∷ []) {P = H.⇛ (sep 𝓤 (sem 𝓛 (t κ)) (lfts 𝓛 ts))} (updating !
      $ use2 𝓛 (later (‵ (s κ) ⊛ raw (lfts 𝓛 ts))) (lent κ ts inc sp) $ await ! tt $ split !
      $ use1 𝓛 (‵ (t κ)) (less κ) $ now ! $ done !)

  lends_count : (round n : ℕ) → Lends 𝓛 (parts round n) (ends (round ∷ [])) l
  unfolding parts times
  lends_count round zero = Lends-false 𝓛 (ends (round ∷ [])) l
  lends_count round (suc n) = Lends-first 𝓛 (flft (round ∷ []) (halved 63 full_share)) (times n (flft (round ∷ []) (halved 63 full_share))) (ends (round ∷ [])) l
      (lends_token (round ∷ []) (halved 63 full_share))

  pub lends_parts : (R : RattleType) (L : Laws R) (p : Ptr) (x : R.Denot) (round n : ℕ) → Lends 𝓛 (part_owns R p x round n) (lent_at R p x) l
  lends_parts R L p x round n =
      let value = lent_at R p x in let value_laws = lent_at_shr_laws R L.shr_laws p x in let ν = round ∷ [] in let low = flt (count_of p) (2 ^ 63) in
      lends_less (part_owns R p x round n) (beside (ends ν) (held ν value)) value
      (Lends-both 𝓛 (parts round n) (fsep (value ν) low) (ends ν) (held ν value) l (lends_count round n)
      (Lends-first 𝓛 (value ν) low (held ν value) l (lends_twice ν value value_laws)))
      (λ κ. qed 𝓛 (‵ (fsep (before κ ν) (value ν)) ∷ []) ∵ fsplit ! $ by ! (value_laws.mono M 𝓤 𝓛 κ ν))
