-- Entries that share a name, whatever their order is: where no entry clashes with what its name means already, each two of one name may share it, and where each two may, no entry clashes.
use Rattle.std.proofs.Common.{◌≡◌, ◌≢◌, ℕ, Bool, true, false, cond, Option, None, Some, IfSome, List, [], ◌∷◌, ◌++◌, refl, ap, subst, sym, ◌∙◌, append-nil, append_assoc}
use Rattle.std.specs.Cmp.Lexicographic.{bytes_decides}
use Rattle.std.specs.FinMap as finite
use Rattle.std.specs.List.{AllByRecursion}
use Rattle.std.specs.Option.{option_or}
use Rattle.std.specs.Str.{bytes_eq}
use Rattle.pool_types.specs.Contents.{ByText}
use Rattle.name_tables.specs.Entries.{first_of}
use Rattle.name_pass.specs.FirstPass.{holder}
use Rattle.descriptor_pool.proofs.Resolved.{all-append}
use Rattle.pool_laws.proofs.AllOf.{all-split, all-weaker}

-- elements that go together
module _ {X : Type 0} (R : X → X → Type 0) where
  -- each two of a list, the earlier first
  abbrev pub Pairwise : List X → Type 0
  Pairwise [] = Unit {0}
  Pairwise (x ∷ xs) = AllByRecursion (R x) xs × Pairwise xs

  -- each of one list with each of another
  abbrev pub Across : List X → List X → Type 0
  Across xs ys = AllByRecursion (λ x. AllByRecursion (R x) ys) xs

  -- two such lists, one behind the other
  pub pairwise-append : (xs ys : List X) → Pairwise xs → Pairwise ys → Across xs ys → Pairwise (xs ++ ys)
  pairwise-append [] ys first second across = second
  pairwise-append (x ∷ xs) ys first second across = (all-append (R x) xs ys first.0 across.0, pairwise-append xs ys first.1 second across.1)

  -- the two parts of such a list
  pub record InParts (xs ys : List X) : Type 0 where
    pub first : Pairwise xs
    pub second : Pairwise ys
    pub across : Across xs ys

  -- and taken apart
  pub pairwise-parts : (xs ys : List X) → Pairwise (xs ++ ys) → InParts xs ys
  pairwise-parts [] ys all = record { first = tt; second = all; across = tt }
  pairwise-parts (x ∷ xs) ys all =
      let rest = pairwise-parts xs ys all.1 in
      let here = all-split (R x) xs ys all.0 in
      record { first = (here.0, rest.first); second = rest.second; across = (here.1, rest.across) }

  across-split : (xs ys zs : List X) → Across (xs ++ ys) zs → Across xs zs × Across ys zs
  across-split xs ys zs across = all-split (λ x. AllByRecursion (R x) zs) xs ys across

  across-both : (xs ys zs : List X) → Across xs zs → Across ys zs → Across (xs ++ ys) zs
  across-both xs ys zs first second = all-append (λ x. AllByRecursion (R x) zs) xs ys first second

  -- the middle two of four parts: each of the first with each of the second
  pub across-middle : (ws xs ys zs : List X) → Pairwise (ws ++ xs ++ ys ++ zs) → Across xs ys
  across-middle ws xs ys zs all = (across-split ws xs ys (pairwise-parts (ws ++ xs) ys (pairwise-parts (ws ++ xs ++ ys) zs all).first).across).1

  module _ (turn : (x y : X) → R x y → R y x) where
    turned : (xs : List X) (y : X) → AllByRecursion (λ x. R x y) xs → AllByRecursion (R y) xs
    turned xs y all = all-weaker (λ x. R x y) (R y) (λ x. turn x y) xs all

    heads : (xs : List X) (y : X) (ys : List X) → Across xs (y ∷ ys) → AllByRecursion (λ x. R x y) xs
    heads xs y ys all = all-weaker (λ x. AllByRecursion (R x) (y ∷ ys)) (λ x. R x y) (λ x each. each.0) xs all

    -- the other way round
    pub across-turned : (xs ys : List X) → Across xs ys → Across ys xs
    across-turned xs [] all = tt
    across-turned xs (y ∷ ys) all =
        (turned xs y (heads xs y ys all), across-turned xs ys (all-weaker (λ x. AllByRecursion (R x) (y ∷ ys)) (λ x. AllByRecursion (R x) ys) (λ x each. each.1) xs all))

    -- two parts change places
    pub pairwise-exchanged : (ws xs ys zs : List X) → Pairwise (ws ++ xs ++ ys ++ zs) → Pairwise (ws ++ ys ++ xs ++ zs)
    pairwise-exchanged ws xs ys zs all =
        let three = pairwise-parts (ws ++ xs ++ ys) zs all in
        let two = pairwise-parts (ws ++ xs) ys three.first in
        let one = pairwise-parts ws xs two.first in
        let before_c = across-split ws xs ys two.across in
        let before_d = across-split (ws ++ xs) ys zs three.across in
        let ends = across-split ws xs zs before_d.0 in
        let first = pairwise-append ws ys one.first two.second before_c.0 in
        let second = pairwise-append (ws ++ ys) xs first one.second (across-both ws ys xs one.across (across-turned xs ys before_c.1)) in
        pairwise-append (ws ++ ys ++ xs) zs second three.second (across-both (ws ++ ys) xs zs (across-both ws ys zs ends.0 before_d.1) ends.1)

-- entries of which those with the property may share a name
module _ {X : Type 0} (P : X → Type 0) where
  -- two entries have names of their own, or both the property
  abbrev pub MayShare : List ℕ × X → List ℕ × X → Type 0
  MayShare e f = e.0 ≡ f.0 → P e.1 × P f.1

  -- an entry and what its name means already
  abbrev pub MayEnter : Option X → List ℕ × X → Type 0
  MayEnter found e = IfSome found (λ held. P held × P e.1)

  -- an entry and what known names say
  abbrev pub MayEnterBehind : ByText X → List ℕ × X → Type 0
  MayEnterBehind known e = MayEnter (finite.get known e.0) e

  -- no entry clashes, each behind known names and those before it
  abbrev pub Clear : ByText X → List (List ℕ × X) → List (List ℕ × X) → Type 0
  Clear known before [] = Unit {0}
  Clear known before (e ∷ es) = MayEnter (holder known before e.0) e × Clear known (before ++ e ∷ []) es

  -- the same without an order
  pub record Apart (known : ByText X) (es : List (List ℕ × X)) : Type 0 where
    pub behind : AllByRecursion (MayEnterBehind known) es
    pub among : Pairwise MayShare es

  -- whichever of two entries comes first
  pub share-turned : (e f : List ℕ × X) → MayShare e f → MayShare f e
  share-turned e f share same = let both = share (sym same) in (both.1, both.0)

  -- what the first entry of a name says
  entered-found : (e : List ℕ × X) (x : List ℕ × X) (rest : Option X) (b : Bool) → bytes_eq e.0 x.0 ≡ b → MayShare x e → MayEnter rest e → MayEnter (cond b (Some x.1) rest) e
  entered-found e x rest true is share later = share (sym ((bytes_decides e.0 x.0).0 is))
  entered-found e x rest false is share later = later

  entered-among : (e : List ℕ × X) (before : List (List ℕ × X)) → AllByRecursion (λ x. MayShare x e) before → MayEnter (first_of before e.0) e
  entered-among e [] all = tt
  entered-among e (x ∷ xs) all = entered-found e x (first_of xs e.0) (bytes_eq e.0 x.0) refl all.0 (entered-among e xs all.1)

  entered-or : (e : List ℕ × X) (known first : Option X) → MayEnter known e → MayEnter first e → MayEnter (option_or known first) e
  entered-or e None first behind among = among
  entered-or e (Some x) first behind among = behind

  -- where each two may share, none clashes
  pub apart-clear : (known : ByText X) (before es : List (List ℕ × X)) → Apart known (before ++ es) → Clear known before es
  apart-clear known before [] apart = tt
  apart-clear known before (e ∷ es) apart =
      let behind = all-split (MayEnterBehind known) before (e ∷ es) apart.behind in
      let among = pairwise-parts MayShare before (e ∷ es) apart.among in
      let earlier = all-weaker (λ x. AllByRecursion (MayShare x) (e ∷ es)) (λ x. MayShare x e) (λ x each. each.0) before among.across in (
        entered-or e (finite.get known e.0) (first_of before e.0) behind.1.0 (entered-among e before earlier),
        apart-clear known (before ++ e ∷ []) es (subst (Apart known) (sym (append_assoc before (e ∷ []) es)) apart),
      )

  -- an entry behind known names
  known-first : (e : List ℕ × X) (known first : Option X) → MayEnter (option_or known first) e → MayEnter known e
  known-first e None first enter = tt
  known-first e (Some x) first enter = enter

  -- with a name that none of these has
  apart-named : (e : List ℕ × X) (x : List ℕ × X) (rest : Option X) (b : Bool) → bytes_eq e.0 x.0 ≡ b → cond b (Some x.1) rest ≡ None → (x.0 ≢ e.0) × (rest ≡ None)
  apart-named e x rest true is none = absurd (cc)
  apart-named e x rest false is none = ((λ same. absurd (cc (sym is, (bytes_decides e.0 x.0).1 (sym same)))), none)

  apart-none : (e : List ℕ × X) (before : List (List ℕ × X)) → first_of before e.0 ≡ None → AllByRecursion (λ x. MayShare x e) before
  apart-none e [] none = tt
  apart-none e (x ∷ xs) none =
      let parts = apart-named e x (first_of xs e.0) (bytes_eq e.0 x.0) refl none in
      ((λ same. absurd (parts.0 same)), apart-none e xs parts.1)

  -- with a name that the first of these says to have the property
  shares-found : (e : List ℕ × X) (x : List ℕ × X) (xs : List (List ℕ × X)) (held : X) → P e.1 → P held → (b : Bool) → bytes_eq e.0 x.0 ≡ b → cond b (Some x.1) (first_of xs e.0) ≡ Some held
      → AllByRecursion (MayShare x) xs → (first_of xs e.0 ≡ Some held → AllByRecursion (λ y. MayShare y e) xs) → AllByRecursion (λ y. MayShare y e) (x ∷ xs)
  shares-found e x xs held own has true is found share later =
      let same : e.0 ≡ x.0 = (bytes_decides e.0 x.0).0 is in
      let said : x.1 ≡ held = cc in
      ((λ _. (subst P (sym said) has, own)), all-weaker (MayShare x) (λ y. MayShare y e) (λ y both alike. ((both (sym same ∙ sym alike)).1, own)) xs share)
  shares-found e x xs held own has false is found share later =
      ((λ same. absurd (cc (sym is, (bytes_decides e.0 x.0).1 (sym same)))), later found)

  shares-among : (e : List ℕ × X) (held : X) → P e.1 → P held → (before : List (List ℕ × X)) → Pairwise MayShare before → first_of before e.0 ≡ Some held
      → AllByRecursion (λ x. MayShare x e) before
  shares-among e held own has [] all found = tt
  shares-among e held own has (x ∷ xs) all found =
      shares-found e x xs held own has (bytes_eq e.0 x.0) refl found all.0 (shares-among e held own has xs all.1)

  -- with a name that known names say to have the property
  shares-known : (known : ByText X) (e : List ℕ × X) (held : X) → P e.1 → finite.get known e.0 ≡ Some held → (x : List ℕ × X) → MayEnterBehind known x → MayShare x e
  shares-known known e held own is x enter same =
      let both : P held × P x.1 = subst (λ found. MayEnter found x) (ap (finite.get known) same ∙ is) enter in
      (both.1, own)

  shares-earlier : (known : ByText X) (before : List (List ℕ × X)) (e : List ℕ × X) → Apart known before → (old first : Option X) → finite.get known e.0 ≡ old → first_of before e.0 ≡ first
      → MayEnter (option_or old first) e → AllByRecursion (λ x. MayShare x e) before
  shares-earlier known before e apart None None none_known none enter = apart-none e before none
  shares-earlier known before e apart None (Some held) none_known found enter = shares-among e held enter.1 enter.0 before apart.among found
  shares-earlier known before e apart (Some held) first found any enter =
      all-weaker (MayEnterBehind known) (λ x. MayShare x e) (shares-known known e held enter.1 found) before apart.behind

  -- one more entry
  apart-next : (known : ByText X) (before : List (List ℕ × X)) (e : List ℕ × X) → Apart known before → MayEnter (holder known before e.0) e → Apart known (before ++ e ∷ [])
  apart-next known before e apart enter =
      let shares = shares-earlier known before e apart (finite.get known e.0) (first_of before e.0) refl refl enter in
      record {
        behind = all-append (MayEnterBehind known) before (e ∷ []) apart.behind (known-first e (finite.get known e.0) (first_of before e.0) enter, tt);
        among = pairwise-append MayShare before (e ∷ []) apart.among (tt, tt)
            (all-weaker (λ x. MayShare x e) (λ x. AllByRecursion (MayShare x) (e ∷ [])) (λ x share. (share, tt)) before shares);
      }

  -- where none clashes, each two may share
  pub clear-apart : (known : ByText X) (before es : List (List ℕ × X)) → Apart known before → Clear known before es → Apart known (before ++ es)
  clear-apart known before [] apart clear = subst (Apart known) (sym (append-nil before)) apart
  clear-apart known before (e ∷ es) apart clear =
      subst (Apart known) (append_assoc before (e ∷ []) es) (clear-apart known (before ++ e ∷ []) es (apart-next known before e apart clear.0) clear.1)
