-- What is left to be shown to a visitor.
use Rattle.std.proofs.Common.{◌≡◌, ◌↔◌, Bool, true, List, [], ◌∷◌, ◌++◌, refl, ap, sym, subst, ◌∙◌, append_assoc, append-nil}
use Rattle.std.specs.List.{AllByRecursion}
use Rattle.record_walk.specs.Parts.{is_part}
use Rattle.record_walk.specs.Shown.{Shown}
use Rattle.record_walk.specs.Visitor.{Progress, HasSeen, Remains}

pub remains-all : (A : List Shown → Progress) (R : List Shown → Type 0) (all : List Shown) → Remains A R A R all all
remains-all A R all = record { after_is = λ more. refl; ready_is = λ more. (λ r. r, λ r. r) }

module _ {A : List Shown → Progress} {R : List Shown → Type 0} {B : List Shown → Progress} {S : List Shown → Type 0} {all : List Shown} where
  pub remains-as : {rest rest' : List Shown} → rest ≡ rest' → Remains A R B S all rest → Remains A R B S all rest'
  remains-as e left = subst (Remains A R B S all) e left

  -- it may be shown the first of the rest
  pub ready-first : (first rest : List Shown) → Remains A R B S all (first ++ rest) → R all → ((ds es : List Shown) → S (ds ++ es) → S ds) → S first
  ready-first first rest left r front =
      front first rest (subst S (append-nil (first ++ rest)) ((left.ready_is []).1 (subst R (sym (append-nil all)) r)))

  pub ready-rest : (rest : List Shown) → Remains A R B S all rest → R all → S rest
  ready-rest rest left r = subst S (append-nil rest) ((left.ready_is []).1 (subst R (sym (append-nil all)) r))

  -- parts are passed over, where they change nothing
  pub remains-past : (wanted : Bool) → ((d : Shown) (more : List Shown) → is_part d.proto ≡ true → wanted ≡ true → S (d ∷ []) → (B (d ∷ more) ≡ B more) × (S (d ∷ more) ↔ S more))
      → ((ds es : List Shown) → S (ds ++ es) → S ds) → R all → (parts rest : List Shown) → AllByRecursion (λ d. (is_part d.proto ≡ true) × (wanted ≡ true)) parts
      → Remains A R B S all (parts ++ rest) → Remains A R B S all rest
  remains-past wanted pass front r [] rest are left = left
  remains-past wanted pass front r (d ∷ parts) rest are left =
      let over = λ (more : List Shown). pass d ((parts ++ rest) ++ more) are.0.0 are.0.1 (ready-first (d ∷ []) (parts ++ rest) left r front) in
      remains-past wanted pass front r parts rest are.1 (record {
        after_is = λ more. sym (over more).0 ∙ left.after_is more;
        ready_is = λ more. (λ s. (left.ready_is more).0 ((over more).1.1 s), λ s. (over more).1.0 ((left.ready_is more).1 s));
      })

  -- nothing is left
  pub remains-none : {rest : List Shown} → rest ≡ [] → Remains A R B S all rest → HasSeen A R B S all
  remains-none e left = let none = remains-as e left in record { after_is = none.after_is; ready_is = none.ready_is }

module _ {A : List Shown → Progress} {R : List Shown → Type 0} {B : List Shown → Progress} {S : List Shown → Type 0} {C : List Shown → Progress} {T : List Shown → Type 0} {all : List Shown} where
  -- it is shown the first of the rest
  pub remains-fewer : (first rest : List Shown) → Remains A R B S all (first ++ rest) → HasSeen B S C T first → Remains A R C T all rest
  remains-fewer first rest left seen =
      let parts = λ (more : List Shown). append_assoc first rest more in
      record {
        after_is = λ more. seen.after_is (rest ++ more) ∙ ap B (sym (parts more)) ∙ left.after_is more;
        ready_is = λ more. (
          λ t. (left.ready_is more).0 (subst S (sym (parts more)) ((seen.ready_is (rest ++ more)).0 t)),
          λ r. (seen.ready_is (rest ++ more)).1 (subst S (parts more) ((left.ready_is more).1 r)),
        );
      }

  -- it is shown the last
  pub remains-last : (last : List Shown) → Remains A R B S all last → HasSeen B S C T last → HasSeen A R C T all
  remains-last last left seen = record {
    after_is = λ more. seen.after_is more ∙ left.after_is more;
    ready_is = λ more. (λ t. (left.ready_is more).0 ((seen.ready_is more).0 t), λ r. (seen.ready_is more).1 ((left.ready_is more).1 r));
  }

  -- it is shown more of the rest
  pub remains-after : (rest fewer : List Shown) → Remains A R B S all rest → Remains B S C T rest fewer → Remains A R C T all fewer
  remains-after rest fewer left later = record {
    after_is = λ more. later.after_is more ∙ left.after_is more;
    ready_is = λ more. (λ t. (left.ready_is more).0 ((later.ready_is more).0 t), λ r. (later.ready_is more).1 ((left.ready_is more).1 r));
  }
