-- The new extensions by their messages and numbers, with one more.
use Rattle.std.proofs.Common.{◌≡◌, ◌+◌, ◌-◌, ◌<◌, ◌==◌, ◌&&◌, ℕ, suc, Bool, not, true, false, cond, Option, Some, None, List, [], ◌∷◌, ◌++◌, length, take, get_or, refl, ap, subst, sym, ◌∙◌, true≢false, arith, length-append, length-take}
use Rattle.std.proofs.lemmas.Bool.Decides.{nat_tests}
use Rattle.std.specs.BTreeMap.{BTreeMap, Updates, get, is_at}
use Rattle.std.specs.Map.{lookup}
use Rattle.std.specs.Cmp.{unsigned_tied}
use Rattle.std.specs.List.{All, AllByRecursion, AllPass, find, position_from}
use Rattle.std.specs.Option.{IfSome, is_none, is_some, option_or}
use Rattle.std.specs.Prelude.{slice_get}
use Rattle.std.proofs.Math.Seq.{get_or-append_seam}
use Rattle.std.proofs.lemmas.List.{take_more}
use Rattle.std.proofs.lemmas.List.Elements.{All-push, All-weaker}
use Rattle.std.proofs.lemmas.Option.{slice_get-get_or}
use Rattle.std.specs.Ordering.{eq_by_cmp, is_eq, nat_cmp, ordering_then}
use Rattle.std.specs.declared.cmp.Ordering.{Ordering}
use Rattle.std.specs.declared.cmp.Ordering.TheVariants.{Less, Equal, Greater}
use Rattle.pool_types.specs.declared.contents.extension.ExtensionDescriptorInner.{ExtensionDescriptorInner}
use Rattle.pool_types.specs.Extension.{extension_numbered, has_number}
use Rattle.plain_data.proofs.Positions.{position-append}
use Rattle.reference_pass.specs.Numbered.{ComesBehind, EntersFirst, LastIsGreatest, LeadsToFirst, comes_before, pair_cmp}

both-tied : (a b : Ordering) → is_eq (ordering_then a b) ≡ (is_eq a && is_eq b)
both-tied Less b = refl
both-tied Equal b = refl
both-tied Greater b = refl

pair-tied : (x y : ℕ × ℕ) → eq_by_cmp pair_cmp x y ≡ (x.0 == y.0 && x.1 == y.1)
pair-tied x y = both-tied (nat_cmp x.0 y.0) (nat_cmp x.1 y.1) ∙ (λ i. unsigned_tied x.0 y.0 i && unsigned_tied x.1 y.1 i)

-- a position that a pair has, or is given
abbrev given : Option ℕ → Bool → ℕ → Option ℕ
given got same position = option_or got (cond same (Some position) None)

same-pair : (x y : ℕ × ℕ) → (x.0 == y.0 && x.1 == y.1) ≡ true → x ≡ y
same-pair x y same =
    let first : x.0 ≡ y.0 = grind (arith, nat_tests, same) in
    let second : x.1 ≡ y.1 = grind (arith, nat_tests, same) in
    λ i. (first i, second i)

-- there is nothing where a test says so, and something where it doesn't
pub told-none : {X : Type 0} (r : Option X) (b : Bool) → b ≡ true → is_some r ≡ not b → r ≡ None
told-none None b holds is = refl
told-none (Some x) b holds is = absurd (true≢false (is ∙ ap not holds))

pub told-some : {X : Type 0} (r : Option X) (b : Bool) → b ≡ false → is_some r ≡ not b → is_none r ≡ false
told-some None b fails is = absurd (true≢false (sym (is ∙ ap not fails)))
told-some (Some x) b fails is = refl

-- a pair that had none has the position then
pub entered : (old new : BTreeMap (ℕ × ℕ) ℕ) (key : ℕ × ℕ) (position : ℕ) → get pair_cmp old key ≡ None → Updates pair_cmp old new key (Some position) → EntersFirst old new key position
entered old new key position free updates other =
    updates.0 other ∙ by (key.0 == other.0 && key.1 == other.1) refl (pair-tied key other)
  where
    by : (b : Bool) → (key.0 == other.0 && key.1 == other.1) ≡ b → eq_by_cmp pair_cmp key other ≡ b
        → cond (eq_by_cmp pair_cmp key other) (Some position) (get pair_cmp old other) ≡ given (get pair_cmp old other) b position
    by true same tied =
        ap (λ b. cond b (Some position) (get pair_cmp old other)) tied
        ∙ sym (ap (λ got. given got true position) (ap (get pair_cmp old) (sym (same-pair key other same)) ∙ free))
    by false other-pair tied = ap (λ b. cond b (Some position) (get pair_cmp old other)) tied ∙ still (get pair_cmp old other)
      where
        still : (got : Option ℕ) → got ≡ given got false position
        still None = refl
        still (Some k) = refl

-- one that had one keeps it
pub kept : (old : BTreeMap (ℕ × ℕ) ℕ) (key : ℕ × ℕ) (position : ℕ) → is_none (get pair_cmp old key) ≡ false → EntersFirst old old key position
kept old key position has other = by (key.0 == other.0 && key.1 == other.1) refl
  where
    held : (got : Option ℕ) (b : Bool) → (b ≡ true → is_none got ≡ false) → got ≡ given got b position
    held None true some = absurd (true≢false (some refl))
    held None false some = refl
    held (Some k) b some = refl

    by : (b : Bool) → (key.0 == other.0 && key.1 == other.1) ≡ b → get pair_cmp old other ≡ given (get pair_cmp old other) b position
    by b is = held (get pair_cmp old other) b (λ e. ap (λ pair. is_none (get pair_cmp old pair)) (sym (same-pair key other (is ∙ e))) ∙ has)

-- other positions with the same entries
pub leads-same : (xs ys : List ExtensionDescriptorInner) (old new : BTreeMap (ℕ × ℕ) ℕ) → LeadsToFirst xs old → ys ≡ xs → new.entries ≡ old.entries → LeadsToFirst ys new
leads-same xs ys old new leads is same message number =
    ap (λ es. lookup (is_at (pair_cmp (message, number))) es) same ∙ leads message number ∙ ap (λ zs. extension_numbered zs message number) (sym is)

-- with one more extension, whose message and number have its position unless they had one
pub leads-more : (xs ys : List ExtensionDescriptorInner) (x : ExtensionDescriptorInner) (old new : BTreeMap (ℕ × ℕ) ℕ) → LeadsToFirst xs old → ys ≡ xs ++ x ∷ []
    → EntersFirst old new (x.extendee, x.number) (length xs) → LeadsToFirst ys new
leads-more xs ys x old new leads is enters message number =
    let p = has_number message number in
    let last : 0 + length xs ≡ length xs = omega arith in
    enters (message, number)
    ∙ ap (λ got. given got (p x) (length xs)) (leads message number)
    ∙ ap (λ n. option_or (position_from p 0 xs) (cond (p x) (Some n) None)) (sym last)
    ∙ sym (position-append p 0 xs (x ∷ []))
    ∙ ap (position_from p 0) (sym is)

-- the map of the extensions before a position, with the one there
pub leads-next : (xs : List ExtensionDescriptorInner) (k : ℕ) (x : ExtensionDescriptorInner) (old new : BTreeMap (ℕ × ℕ) ℕ) → k < length xs → x ≡ get_or xs k x
    → LeadsToFirst (take k xs) old → EntersFirst old new (x.extendee, x.number) k → LeadsToFirst (take (k + 1) xs) new
leads-next xs k x old new below is leads enters =
    let many : length (take k xs) ≡ k = omega (arith, length-take k xs, below) in
    leads-more (take k xs) (take (k + 1) xs) x old new leads (take_more xs k x below ∙ ap (λ y. take k xs ++ y ∷ []) (sym is))
    (subst (EntersFirst old new (x.extendee, x.number)) (sym many) enters)

-- an extension that comes before a message and a number doesn't have them
has-others : (message number : ℕ) (x : ExtensionDescriptorInner) → comes_before message number x ≡ true → has_number message number x ≡ false
has-others message number x before = grind (arith, nat_tests, before)

by-recursion : {X : Type 0} (P : X → Type 0) (xs : List X) → All P xs → AllByRecursion P xs
by-recursion P [] all = tt
by-recursion P (x ∷ xs) all = (all 0 x (omega arith), by-recursion P xs (λ k d below. all (suc k) d (omega (arith, below))))

none-found : (message number : ℕ) (xs : List ExtensionDescriptorInner) → AllByRecursion (λ x. comes_before message number x ≡ true) xs → find (has_number message number) xs ≡ None
none-found message number [] all = refl
none-found message number (x ∷ xs) all =
    ap (λ b. cond b (Some x) (find (has_number message number) xs)) (has-others message number x all.0) ∙ none-found message number xs all.1

pub none-has : (message number : ℕ) (xs : List ExtensionDescriptorInner) → AllPass (comes_before message number) xs → find (has_number message number) xs ≡ None
none-has message number xs all = none-found message number xs (by-recursion (λ x. comes_before message number x ≡ true) xs all)

-- what comes before an extension comes before all that this one comes before
before-both : (message number : ℕ) (x y : ExtensionDescriptorInner) → comes_before message number x ≡ true → comes_before x.extendee x.number y ≡ true → comes_before message number y ≡ true
before-both message number x y later earlier = grind (arith, nat_tests, later, earlier)

-- the last of some extensions
last-of : (xs : List ExtensionDescriptorInner) (x : ExtensionDescriptorInner) → slice_get (xs ++ x ∷ []) (length (xs ++ x ∷ []) - 1) ≡ Some x
last-of xs x =
    let whole = length-append xs (x ∷ []) in
    let last : length (xs ++ x ∷ []) - 1 ≡ length xs = omega (arith, whole) in
    ap (slice_get (xs ++ x ∷ [])) last ∙ slice_get-get_or (xs ++ x ∷ []) (length xs) x (omega (arith, whole)) ∙ ap Some (get_or-append_seam xs x [] x)

-- an extension behind the last one is the greatest
pub greatest-more : (xs ys : List ExtensionDescriptorInner) (x : ExtensionDescriptorInner) → LastIsGreatest xs → ys ≡ xs ++ x ∷ [] → ComesBehind xs x.extendee x.number → LastIsGreatest ys
greatest-more xs ys x greatest is behind message number before =
    let Before : ExtensionDescriptorInner → Type 0 = λ y. comes_before message number y ≡ true in
    let here : Before x = subst (λ got. IfSome got Before) (ap (λ zs. slice_get zs (length zs - 1)) is ∙ last-of xs x) before in
    let earlier = All-weaker (λ y. comes_before x.extendee x.number y ≡ true) Before (λ y. before-both message number x y here) xs (greatest x.extendee x.number behind) in
    subst (All Before) (sym is) (All-push Before xs x earlier here)
