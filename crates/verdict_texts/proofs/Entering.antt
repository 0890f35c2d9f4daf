-- What names mean once others were entered with a position.
use Rattle.std.proofs.Common.{◌≡◌, ℕ, Bool, true, false, ◌||◌, cond, List, [], ◌∷◌, ◌++◌, Option, None, Some, refl, sym, ap, subst, ◌∙◌}
use Rattle.std.specs.FinMap as map
use Rattle.std.specs.Cmp.Lexicographic.{slice_cmp}
use Rattle.std.specs.Option.{option_or}
use Rattle.std.specs.Ordering.{nat_cmp, eq_by_cmp}
use Rattle.std.specs.Str.{bytes_eq}
use Rattle.std.proofs.lemmas.Bool.Decides.{same_from_decides}
use Rattle.std.proofs.lemmas.Cmp.{nat_list_cmp_total}
use Rattle.std.proofs.lemmas.Map.Text.{is_eq-slice_cmp}
use Rattle.std.proofs.lemmas.Slice.Eq.{bytes_eq-Decides}
use Rattle.pool_types.specs.Contents.{ByText}
use Rattle.verdict_texts.specs.Known.{is_among}
use Rattle.verdict_texts.specs.Named.{Enters}

-- no text is nothing
pub no-some : {A B : Type 0} (x : A) → None ≡ Some x → B
no-some x clash = absurd (cc)

bytes-turned : (a b : List ℕ) → bytes_eq a b ≡ bytes_eq b a
bytes-turned a b =
    let turned = bytes_eq-Decides b a in
    same_from_decides (bytes_eq a b) (bytes_eq b a) (bytes_eq-Decides a b) (λ told. sym (turned.0 told), λ same. turned.1 (sym same))

-- a name that means something keeps it
kept : (held : Option ℕ) (same : Bool) (n at : ℕ) → (same ≡ true → held ≡ Some at) → held ≡ option_or held (cond same (Some n) None)
kept (Some k) same n at some = refl
kept None false n at some = refl
kept None true n at some = no-some at (some refl)

chosen : (held : Option ℕ) (same : Bool) (n : ℕ) → (same ≡ true → held ≡ None) → cond same (Some n) held ≡ option_or held (cond same (Some n) None)
chosen None same n none = refl
chosen (Some at) false n none = refl
chosen (Some at) true n none = no-some at (sym (none refl))

-- what a name means where another that means something is entered once more
pub held-means : (names : ByText ℕ) (own : List ℕ) (n at : ℕ) (name : List ℕ) → map.get names own ≡ Some at
    → map.get names name ≡ option_or (map.get names name) (cond (bytes_eq own name) (Some n) None)
held-means names own n at name is =
    kept (map.get names name) (bytes_eq own name) n at (λ same. sym (ap (map.get names) ((bytes_eq-Decides own name).0 same)) ∙ is)

-- what a name means where another is entered
pub new-means : (names : ByText ℕ) (own : List ℕ) (n : ℕ) (name : List ℕ) → map.get names own ≡ None
    → map.get (map.insert names own n) name ≡ option_or (map.get names name) (cond (bytes_eq own name) (Some n) None)
new-means names own n name is =
    let test : eq_by_cmp (slice_cmp nat_cmp) name own ≡ bytes_eq own name = is_eq-slice_cmp name own ∙ bytes-turned name own in
    map.get-insert nat_list_cmp_total names own n name
    ∙ ap (λ same. cond same (Some n) (map.get names name)) test
    ∙ chosen (map.get names name) (bytes_eq own name) n (λ same. subst (λ text. map.get names text ≡ None) ((bytes_eq-Decides own name).0 same) is)

pub or-false : (b : Bool) → b ≡ (b || false)
or-false true = refl
or-false false = refl

pub enters-held : (names : ByText ℕ) (own : List ℕ) (n at : ℕ) → map.get names own ≡ Some at → Enters names names n (own ∷ [])
enters-held names own n at is name =
    held-means names own n at name is ∙ ap (λ b. option_or (map.get names name) (cond b (Some n) None)) (or-false (bytes_eq own name))

pub enters-new : (names : ByText ℕ) (own : List ℕ) (n : ℕ) → map.get names own ≡ None → Enters names (map.insert names own n) n (own ∷ [])
enters-new names own n is name =
    new-means names own n name is ∙ ap (λ b. option_or (map.get names name) (cond b (Some n) None)) (or-false (bytes_eq own name))

or-none : (held : Option ℕ) → held ≡ option_or held None
or-none None = refl
or-none (Some n) = refl

-- no names are entered
pub enters-none : (names : ByText ℕ) (n : ℕ) → Enters names names n []
enters-none names n name = or-none (map.get names name)

either : (held : Option ℕ) (a b : Bool) (n : ℕ) → option_or (option_or held (cond a (Some n) None)) (cond b (Some n) None) ≡ option_or held (cond (a || b) (Some n) None)
either (Some k) a b n = refl
either None true b n = refl
either None false b n = refl

or-assoc : (a b c : Bool) → (a || (b || c)) ≡ ((a || b) || c)
or-assoc true b c = refl
or-assoc false b c = refl

any-append : (name : List ℕ) (xs ys : List (List ℕ)) → (is_among name xs || is_among name ys) ≡ is_among name (xs ++ ys)
any-append name [] ys = refl
any-append name (x ∷ xs) ys =
    sym (or-assoc (bytes_eq x name) (is_among name xs) (is_among name ys)) ∙ ap (λ b. bytes_eq x name || b) (any-append name xs ys)

-- names and then others are entered
pub enters-both : (a b c : ByText ℕ) (n : ℕ) (xs ys : List (List ℕ)) → Enters a b n xs → Enters b c n ys → Enters a c n (xs ++ ys)
enters-both a b c n xs ys first second name =
    second name ∙ ap (λ held. option_or held (cond (is_among name ys) (Some n) None)) (first name)
    ∙ either (map.get a name) (is_among name xs) (is_among name ys) n
    ∙ ap (λ b. option_or (map.get a name) (cond b (Some n) None)) (any-append name xs ys)
