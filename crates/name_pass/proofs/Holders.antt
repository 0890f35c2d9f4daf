-- Entries of a list with their positions, the list as it grows, and the earliest entry of each key.
use Rattle.std.proofs.Common.{◌≡◌, ◌≢◌, ℕ, suc, ◌+◌, ◌-◌, ◌<◌, ◌≤◌, ◌^◌, Bool, true, false, cond, List, [], ◌∷◌, ◌++◌, length, get_or, take, Option, None, Some, IfSome, unwrap_or, refl, ap, sym, ◌∙◌, arith, append-nil, append_assoc, find}
use Rattle.std.proofs.lemmas.Bool.Decides.{nat_tests}
use Rattle.std.proofs.lemmas.List.{get_or-take, length-take-le}
use Rattle.std.proofs.lemmas.List.Folds.{find-append}
use Rattle.std.proofs.lemmas.Slice.Eq.{bytes_eq-Decides}
use Rattle.std.specs.List.{enumerate_from}
use Rattle.std.specs.Option.{option_map, option_or}
use Rattle.std.specs.Str.{bytes_eq}
use Rattle.plain_data.specs.Lists.{after_each}
use Rattle.record_walk.specs.Counts.{fits_list}

pub after-append : {X Y : Type 0} (f : List X → X → List Y) (before xs : List X) (x : X) → after_each f before (xs ++ x ∷ []) ≡ after_each f before xs ++ f (before ++ xs) x
after-append f before [] x = append-nil (f before x) ∙ ap (λ ys. f ys x) (sym (append-nil before))
after-append f before (y ∷ ys) x =
    ap (λ zs. f before y ++ zs) (after-append f (before ++ y ∷ []) ys x ∙ ap (λ zs. after_each f (before ++ y ∷ []) ys ++ f zs x) (append_assoc before (y ∷ []) ys))
    ∙ sym (append_assoc (f before y) (after_each f (before ++ y ∷ []) ys) (f (before ++ y ∷ ys) x))

-- an entry stands at its position, in a list whose positions begin with n
pub record StandsFrom {X : Type 0} (n : ℕ) (xs : List X) (e : ℕ × X) : Type 0 where
  pub from : n ≤ e.0
  pub below : e.0 < n + length xs
  pub entry : (d : X) → e.1 ≡ get_or xs (e.0 - n) d

stands-first : {X : Type 0} (n : ℕ) (x : X) (xs : List X) → StandsFrom n (x ∷ xs) (n, x)
stands-first n x xs = let here : 0 ≡ n - n = omega arith in record { from = omega arith; below = omega arith; entry = λ d. ap (λ k. get_or (x ∷ xs) k d) here }

stands-later : {X : Type 0} (n : ℕ) (x : X) (xs : List X) (e : ℕ × X) → StandsFrom (n + 1) xs e → StandsFrom n (x ∷ xs) e
stands-later n x xs e stands = let there : suc (e.0 - (n + 1)) ≡ e.0 - n = omega (arith, stands.from) in record {
  from = omega (arith, stands.from);
  below = omega (arith, stands.below);
  entry = λ d. stands.entry d ∙ ap (λ k. get_or (x ∷ xs) k d) there;
}

if-found : {X : Type 0} {P Q : X → Type 0} (found : Option X) → ((x : X) → P x → Q x) → IfSome found P → IfSome found Q
if-found None says had = had
if-found (Some x) says had = says x had

stands-test : {X : Type 0} (b : Bool) (n : ℕ) (x : X) (xs : List X) (later : Option (ℕ × X)) → IfSome later (StandsFrom (n + 1) xs) → IfSome (cond b (Some (n, x)) later) (StandsFrom n (x ∷ xs))
stands-test true n x xs later stands = stands-first n x xs
stands-test false n x xs later stands = if-found later (stands-later n x xs) stands

found-stands : {X : Type 0} (p : ℕ × X → Bool) (n : ℕ) (xs : List X) → IfSome (find p (enumerate_from n xs)) (StandsFrom n xs)
found-stands p n [] = tt
found-stands p n (x ∷ xs) = stands-test (p (n, x)) n x xs (find p (enumerate_from (n + 1) xs)) (found-stands p (n + 1) xs)

-- what was found before a position, told by its own position: another than the given one
pub record HeldBefore {X : Type 0} (xs : List X) (i first : ℕ) (found : Option (ℕ × X)) : Type 0 where
  pub below : first < i
  pub entry : (x : X) → x ≡ get_or xs first x → found ≡ Some (first, x)

module _ {X : Type 0} (xs : List X) (i first : ℕ) (below : i < length xs) where
  held : (found : Option (ℕ × X)) → IfSome found (StandsFrom 0 (take i xs)) → first ≡ unwrap_or (option_map (λ e. e.0) found) i → first ≢ i → HeldBefore xs i first found
  held None stands is other = absurd (other is)
  held (Some e) stands is other =
      let before : e.0 < i = omega (arith, stands.below, length-take-le i xs (omega arith)) in
      let whole : e.0 - 0 ≡ e.0 = omega arith in
      record {
        below = omega arith;
        entry = λ x there.
            let same : e.1 ≡ x =
            stands.entry x ∙ ap (λ k. get_or (take i xs) k x) whole ∙ get_or-take i xs e.0 x before ∙ ap (λ k. get_or xs k x) (sym is) ∙ sym there in
            λ j. Some (sym is j, same j);
      }

  unheld : (found : Option (ℕ × X)) → IfSome found (StandsFrom 0 (take i xs)) → first ≡ unwrap_or (option_map (λ e. e.0) found) i → first ≡ i → found ≡ None
  unheld None stands is own = refl
  unheld (Some e) stands is own = absurd (omega (arith, stands.below, length-take-le i xs (omega arith)))

  -- what a map has for a key, where that is the position of the earliest entry with the key
  module _ (key_at : ℕ × X → List ℕ) (key : List ℕ) (holder : Option ℕ) (first_is : first ≡ unwrap_or holder i)
      (holder_is : holder ≡ option_map (λ e. e.0) (find (λ e. bytes_eq key (key_at e)) (enumerate_from 0 (take i xs)))) where
    pub held-before : first ≢ i → HeldBefore xs i first (find (λ e. bytes_eq key (key_at e)) (enumerate_from 0 (take i xs)))
    held-before = held (find (λ e. bytes_eq key (key_at e)) (enumerate_from 0 (take i xs))) (found-stands (λ e. bytes_eq key (key_at e)) 0 (take i xs))
        (first_is ∙ ap (λ o. unwrap_or o i) holder_is)

    pub none-before : first ≡ i → find (λ e. bytes_eq key (key_at e)) (enumerate_from 0 (take i xs)) ≡ None
    none-before = unheld (find (λ e. bytes_eq key (key_at e)) (enumerate_from 0 (take i xs))) (found-stands (λ e. bytes_eq key (key_at e)) 0 (take i xs))
        (first_is ∙ ap (λ o. unwrap_or o i) holder_is)

entered : {X : Type 0} (found : Option (ℕ × X)) (e : ℕ × X) → Some (unwrap_or (option_map (λ x. x.0) found) e.0) ≡ option_map (λ x. x.0) (option_or found (Some e))
entered None e = refl
entered (Some x) e = refl

kept : {X : Type 0} (found : Option (ℕ × X)) → option_map (λ x. x.0) found ≡ option_map (λ x. x.0) (option_or found None)
kept None = refl
kept (Some x) = refl

-- positions by their keys, of which the first holder of each stays, after one more entry
module _ {X : Type 0} (key_at : ℕ × X → List ℕ) (seen : List (ℕ × X)) (e : ℕ × X) (old : List ℕ → Option ℕ) (first : ℕ) where
  abbrev holder : List (ℕ × X) → List ℕ → Option (ℕ × X)
  holder es text = find (λ x. bytes_eq text (key_at x)) es

  one-more : (text : List ℕ) (b : Bool) → bytes_eq text (key_at e) ≡ b → ((t : List ℕ) → old t ≡ option_map (λ x. x.0) (holder seen t)) → first ≡ unwrap_or (old (key_at e)) e.0
      → cond b (Some first) (old text) ≡ option_map (λ x. x.0) (option_or (holder seen text) (cond b (Some e) None))
  one-more text true is held first_is =
      let same : text ≡ key_at e = (bytes_eq-Decides text (key_at e)).0 is in
      ap Some (first_is ∙ ap (λ t. unwrap_or (old t) e.0) (sym same) ∙ ap (λ found. unwrap_or found e.0) (held text)) ∙ entered (holder seen text) e
  one-more text false is held first_is = held text ∙ kept (holder seen text)

  pub holders-next : (new : List ℕ → Option ℕ) (key : List ℕ) → key ≡ key_at e → ((t : List ℕ) → old t ≡ option_map (λ x. x.0) (holder seen t)) → first ≡ unwrap_or (old key) e.0
      → ((t : List ℕ) → new t ≡ cond (bytes_eq t key) (Some first) (old t)) → (text : List ℕ) → new text ≡ option_map (λ x. x.0) (holder (seen ++ e ∷ []) text)
  holders-next new key key_is held first_is after text =
      after text ∙ ap (λ k. cond (bytes_eq text k) (Some first) (old text)) key_is
      ∙ one-more text (bytes_eq text (key_at e)) refl held (first_is ∙ ap (λ k. unwrap_or (old k) e.0) key_is)
      ∙ ap (option_map (λ x. x.0)) (sym (find-append (λ x. bytes_eq text (key_at x)) seen (e ∷ [])))

-- positions in a list that is short enough
pub short-list : {X : Type 0} (xs : List X) (i : ℕ) → fits_list xs ≡ true → i < length xs → i < 2 ^ 31
short-list xs i short below = grind (arith, nat_tests)
