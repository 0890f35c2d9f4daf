-- Faults that are told one after another.
use Rattle.std.proofs.Common.{◌≡◌, ℕ, suc, ◌+◌, ◌-◌, ◌≤◌, Bool, true, false, Option, None, Some, List, [], ◌∷◌, ◌++◌, length, take, refl, ap, sym, ◌∙◌, arith, append-nil, append_assoc, length-append}
use Rattle.std.specs.Prelude.{max}
use Rattle.std.proofs.Math.Nat.{add-zero}
use Rattle.std.proofs.Math.Seq.{take-append_seam}
use Rattle.std.proofs.lemmas.Bool.Decides.{nat_tests}
use Rattle.std.proofs.lemmas.List.{take_all}
use Rattle.pool_faults.specs.declared.fault.DescriptorErrorKind.{DescriptorErrorKind}
use Rattle.record_walk.specs.Telling.{Telling, first_of, is_full, nothing_told, rest_of, with_fault, with_faults}

-- two lists of faults
pub told-two : (told : Telling) (fs gs : List DescriptorErrorKind) → with_faults (with_faults told fs) gs ≡ with_faults told (fs ++ gs)
told-two told [] gs = refl
told-two told (f ∷ fs) gs = told-two (with_fault told f) fs gs

-- a fault that is kept
pub told-kept : (told : Telling) (fault : DescriptorErrorKind) → is_full told.most (length told.first) ≡ false → record told { first = told.first ++ fault ∷ [] } ≡ with_fault told fault
unfolding with_fault
told-kept told fault room = rw room refl

-- a fault that is counted, whichever it is
pub told-counted : (told : Telling) (fault : DescriptorErrorKind) → is_full told.most (length told.first) ≡ true → record told { rest = suc told.rest } ≡ with_fault told fault
unfolding with_fault
told-counted told fault full = rw full refl

-- without a limit all are kept
told-all : (first fs : List DescriptorErrorKind) (rest : ℕ) → with_faults (record { most = None; first = first; rest = rest }) fs ≡ record { most = None; first = first ++ fs; rest = rest }
told-all first [] rest = λ i. record { most = None; first = sym (append-nil first) i; rest = rest }
told-all first (f ∷ fs) rest =
    let room : is_full None (length first) ≡ false = refl in
    ap (λ told. with_faults told fs) (sym (told-kept (record { most = None; first = first; rest = rest }) f room))
    ∙ told-all (first ++ f ∷ []) fs rest
    ∙ (λ i. record { most = None; first = append_assoc first (f ∷ []) fs i; rest = rest })

one_more : (n : ℕ) → 1 + n ≡ suc n
one_more n = omega arith

-- where no further fault is kept, all are counted
told-full : (told : Telling) (fs : List DescriptorErrorKind) → is_full told.most (length told.first) ≡ true → with_faults told fs ≡ record told { rest = told.rest + length fs }
told-full told [] full = λ i. record told { rest = sym (add-zero told.rest) i }
told-full told (f ∷ fs) full =
    let one : suc told.rest + length fs ≡ told.rest + suc (length fs) = omega arith in
    ap (λ after. with_faults after fs) (sym (told-counted told f full))
    ∙ told-full (record told { rest = suc told.rest }) fs full
    ∙ (λ i. record told { rest = one i })

module _ (most : ℕ) where
  abbrev kept : ℕ
  kept = max 1 most

  abbrev at : List DescriptorErrorKind → ℕ → Telling
  at first rest = record { most = Some most; first = first; rest = rest }

  -- one behind some that are kept, and others behind it
  told-next : (first : List DescriptorErrorKind) (f : DescriptorErrorKind) (fs : List DescriptorErrorKind) (b : Bool) → is_full (Some most) (length first) ≡ b → length first ≤ kept
      → (length (first ++ f ∷ []) ≤ kept → with_faults (at (first ++ f ∷ []) 0) fs ≡ at (take kept ((first ++ f ∷ []) ++ fs)) (length ((first ++ f ∷ []) ++ fs) - kept))
      → with_faults (with_fault (at first 0) f) fs ≡ at (take kept (first ++ f ∷ fs)) (length (first ++ f ∷ fs) - kept)
  told-next first f fs true full few others =
      let all : length first ≡ kept = grind (arith, nat_tests) in
      let counted : suc (length fs) ≡ length (first ++ f ∷ fs) - kept = omega (arith, length-append first (f ∷ fs)) in
      ap (λ after. with_faults after fs) (sym (told-counted (at first 0) f full))
      ∙ told-full (at first 1) fs full
      ∙ (λ i. at (sym (ap (λ n. take n (first ++ f ∷ fs)) (sym all) ∙ take-append_seam first (f ∷ fs)) i) (one_more (length fs) i))
      ∙ (λ i. at (take kept (first ++ f ∷ fs)) (counted i))
  told-next first f fs false room few others =
      let below : length first + 1 ≤ kept = grind (arith, nat_tests) in
      let next : length (first ++ f ∷ []) ≤ kept = omega (arith, length-append first (f ∷ [])) in
      let whole = append_assoc first (f ∷ []) fs in
      ap (λ after. with_faults after fs) (sym (told-kept (at first 0) f room))
      ∙ others next
      ∙ (λ i. at (take kept (whole i)) (length (whole i) - kept))

  -- others behind some that are kept
  told-some : (first fs : List DescriptorErrorKind) → length first ≤ kept → with_faults (at first 0) fs ≡ at (take kept (first ++ fs)) (length (first ++ fs) - kept)
  told-some first [] few =
      let none : 0 ≡ length (first ++ []) - kept = omega (arith, length-append first []) in
      λ i. at ((sym (take_all kept first few) ∙ ap (take kept) (sym (append-nil first))) i) (none i)
  told-some first (f ∷ fs) few = told-next first f fs (is_full (Some most) (length first)) refl few (told-some (first ++ f ∷ []) fs)

-- what is told of a list, behind nothing
pub told-list : (most : Option ℕ) (fs : List DescriptorErrorKind) → with_faults (nothing_told most) fs ≡ record { most = most; first = first_of most fs; rest = rest_of most fs }
told-list None fs = told-all [] fs 0
told-list (Some most) fs = told-some most [] fs (omega arith)
