-- Entries with the names of others, in turn, and what names mean where two parts of them change places.
use Rattle.std.proofs.Common.{◌≡◌, ℕ, Bool, true, false, cond, Option, None, Some, IfSome, List, [], ◌∷◌, ◌++◌, refl, ap, subst, sym, ◌∙◌}
use Rattle.std.specs.Cmp.Lexicographic.{bytes_decides}
use Rattle.std.specs.FinMap as finite
use Rattle.std.specs.List.{AllByRecursion}
use Rattle.std.specs.Option.{option_or}
use Rattle.std.specs.Str.{bytes_eq}
use Rattle.pool_types.specs.Contents.{ByText}
use Rattle.name_tables.specs.Entries.{first_of}
use Rattle.name_tables.proofs.Entries.{first-append}
use Rattle.name_pass.specs.FirstPass.{holder}
use Rattle.pool_laws.proofs.Sharing.{Across, Apart, MayEnter, MayEnterBehind, MayShare, Pairwise, across-middle, pairwise-exchanged, share-turned}
use Rattle.pool_laws.proofs.AllOf.{all-exchanged}
use Rattle.pool_laws.proofs.Paired.{Paired, paired-all, paired-four, paired-pairwise}
use Rattle.pool_laws.proofs.FirstPass.{or-or}

module _ {X : Type 0} (Like : X → X → Type 0) where
  -- two look-ups find values that are alike, or both nothing
  abbrev pub BothLike : Option X → Option X → Type 0
  BothLike None None = Unit {0}
  BothLike (Some x) (Some y) = Like x y
  BothLike _ _ = ⊥

  -- an entry has another's name, and values that are alike
  abbrev pub EntryLike : List ℕ × X → List ℕ × X → Type 0
  EntryLike e f = (f.0 ≡ e.0) × Like e.1 f.1

  -- so it is with entries, one after another
  abbrev pub EntriesLike : List (List ℕ × X) → List (List ℕ × X) → Type 0
  EntriesLike = Paired EntryLike

  -- what the first entries of a name say
  either-like : (b c : Bool) → c ≡ b → (x y : X) (o p : Option X) → Like x y → BothLike o p → BothLike (cond b (Some x) o) (cond c (Some y) p)
  either-like true true same x y o p like both = like
  either-like true false same x y o p like both = absurd (cc)
  either-like false true same x y o p like both = absurd (cc)
  either-like false false same x y o p like both = both

  -- what the first entry of a name says in each list
  pub first-like : (es fs : List (List ℕ × X)) → EntriesLike es fs → (name : List ℕ) → BothLike (first_of es name) (first_of fs name)
  first-like [] [] all name = tt
  first-like (e ∷ es) (f ∷ fs) all name =
      either-like (bytes_eq name e.0) (bytes_eq name f.0) (ap (bytes_eq name) all.0.0) e.1 f.1 (first_of es name) (first_of fs name) all.0.1 (first-like es fs all.1 name)
  first-like _ _ all name = absurd all

  or-like : (a b c d : Option X) → BothLike a b → BothLike c d → BothLike (option_or a c) (option_or b d)
  or-like None None c d first second = second
  or-like (Some x) (Some y) c d first second = first
  or-like _ _ c d first second = absurd first

  or-known : (known o p : Option X) → ((x : X) → known ≡ Some x → Like x x) → BothLike o p → BothLike (option_or known o) (option_or known p)
  or-known None o p same both = both
  or-known (Some x) o p same both = same x refl

  -- entries of which those with a property may share a name, and are alike
  module _ (P : X → Type 0) (keep : (x y : X) → Like x y → P x → P y) where
    -- two entries that may share a name, and others alike
    share-like : (e f x y : List ℕ × X) → EntryLike e f → EntryLike x y → MayShare P e x → MayShare P f y
    share-like e f x y first second share same = let both = share (sym first.0 ∙ same ∙ second.0) in (keep e.1 f.1 first.1 both.0, keep x.1 y.1 second.1 both.1)

    enter-like : (found : Option X) (e f : List ℕ × X) → EntryLike e f → MayEnter P found e → MayEnter P found f
    enter-like None e f like enter = tt
    enter-like (Some held) e f like enter = (enter.0, keep e.1 f.1 like.1 enter.1)

    -- and one behind known names
    behind-like : (known : ByText X) (e f : List ℕ × X) → EntryLike e f → MayEnterBehind P known e → MayEnterBehind P known f
    behind-like known e f like enter = subst (λ found. MayEnter P found f) (ap (finite.get known) (sym like.0)) (enter-like (finite.get known e.0) e f like enter)

    -- entries that clash with none, and others alike
    pub apart-like : (known : ByText X) (es fs : List (List ℕ × X)) → EntriesLike es fs → Apart P known es → Apart P known fs
    apart-like known es fs all apart = record {
      behind = paired-all EntryLike (MayEnterBehind P known) (MayEnterBehind P known) (behind-like known) es fs all apart.behind;
      among = paired-pairwise EntryLike (MayShare P) (MayShare P) share-like es fs all apart.among;
    }

  -- values of which any two with the property are alike
  module _ (P : X → Type 0) (keep : (x y : X) → Like x y → P x → P y) (alike : (x y : X) → P x → P y → Like x y) where
    -- what two lists of entries say of a name, of which each two may share it
    abbrev BothMay : Option X → Option X → Type 0
    BothMay a b = IfSome a (λ x. IfSome b (λ y. P x × P y))

    said-may : (x : List ℕ × X) (name : List ℕ) (y : List ℕ × X) (rest : Option X) (b : Bool) → bytes_eq name y.0 ≡ b → x.0 ≡ name → MayShare P x y
        → IfSome rest (λ d. P x.1 × P d) → IfSome (cond b (Some y.1) rest) (λ d. P x.1 × P d)
    said-may x name y rest true is same share later = share (same ∙ (bytes_decides name y.0).0 is)
    said-may x name y rest false is same share later = later

    one-may : (x : List ℕ × X) (name : List ℕ) → x.0 ≡ name → (ys : List (List ℕ × X)) → AllByRecursion (MayShare P x) ys → IfSome (first_of ys name) (λ d. P x.1 × P d)
    one-may x name same [] share = tt
    one-may x name same (y ∷ ys) share = said-may x name y (first_of ys name) (bytes_eq name y.0) refl same share.0 (one-may x name same ys share.1)

    either-may : (x : List ℕ × X) (name : List ℕ) (rest found : Option X) (b : Bool) → bytes_eq name x.0 ≡ b → (x.0 ≡ name → IfSome found (λ d. P x.1 × P d))
        → BothMay rest found → BothMay (cond b (Some x.1) rest) found
    either-may x name rest found true is here later = here (sym ((bytes_decides name x.0).0 is))
    either-may x name rest found false is here later = later

    across-may : (xs ys : List (List ℕ × X)) → Across (MayShare P) xs ys → (name : List ℕ) → BothMay (first_of xs name) (first_of ys name)
    across-may [] ys across name = tt
    across-may (x ∷ xs) ys across name =
        either-may x name (first_of xs name) (first_of ys name) (bytes_eq name x.0) refl (λ same. one-may x name same ys across.0) (across-may xs ys across.1 name)

    or-nothing : (a b : Option X) → BothLike a b → BothLike a (option_or b None)
    or-nothing None None both = tt
    or-nothing (Some x) (Some y) both = both
    or-nothing _ _ both = absurd both

    or-turned : (a b c d : Option X) → BothLike a b → BothLike c d → BothMay a c → BothLike (option_or a c) (option_or d b)
    or-turned None None c d first second may = or-nothing c d second
    or-turned None (Some y) c d first second may = absurd first
    or-turned (Some x) None c d first second may = absurd first
    or-turned (Some x) (Some y) None None first second may = first
    or-turned (Some x) (Some y) None (Some w) first second may = absurd second
    or-turned (Some x) (Some y) (Some v) None first second may = absurd second
    or-turned (Some x) (Some y) (Some v) (Some w) first second may = alike x w may.0 (keep v w second may.1)

    four : (ws xs ys zs : List (List ℕ × X)) (name : List ℕ)
        → option_or (option_or (first_of ws name) (option_or (first_of xs name) (first_of ys name))) (first_of zs name) ≡ first_of (ws ++ xs ++ ys ++ zs) name
    four ws xs ys zs name =
        ap (λ o. option_or o (first_of zs name)) (or-or (first_of ws name) (first_of xs name) (first_of ys name)
        ∙ ap (λ o. option_or o (first_of ys name)) (sym (first-append ws xs name)) ∙ sym (first-append (ws ++ xs) ys name))
        ∙ sym (first-append (ws ++ xs ++ ys) zs name)

    -- what a name means where two parts have changed places
    pub holder-exchanged : (known : ByText X) (ws xs ys zs ws2 xs2 ys2 zs2 : List (List ℕ × X))
        → EntriesLike ws ws2 → EntriesLike xs xs2 → EntriesLike ys ys2 → EntriesLike zs zs2 → Pairwise (MayShare P) (ws ++ xs ++ ys ++ zs) → (name : List ℕ)
        → ((x : X) → finite.get known name ≡ Some x → Like x x) → BothLike (holder known (ws ++ xs ++ ys ++ zs) name) (holder known (ws2 ++ ys2 ++ xs2 ++ zs2) name)
    holder-exchanged known ws xs ys zs ws2 xs2 ys2 zs2 one two three last all name same =
        let may = across-may xs ys (across-middle (MayShare P) ws xs ys zs all) name in
        let middle = or-turned (first_of xs name) (first_of xs2 name) (first_of ys name) (first_of ys2 name) (first-like xs xs2 two name) (first-like ys ys2 three name) may in
        let begun = or-like (first_of ws name) (first_of ws2 name) (option_or (first_of xs name) (first_of ys name)) (option_or (first_of ys2 name) (first_of xs2 name))
        (first-like ws ws2 one name) middle in
        let whole = or-like (option_or (first_of ws name) (option_or (first_of xs name) (first_of ys name))) (option_or (first_of ws2 name) (option_or (first_of ys2 name) (first_of xs2 name)))
        (first_of zs name) (first_of zs2 name) begun (first-like zs zs2 last name) in
        or-known (finite.get known name) (first_of (ws ++ xs ++ ys ++ zs) name) (first_of (ws2 ++ ys2 ++ xs2 ++ zs2) name) same
        (subst (λ o. BothLike o (first_of (ws2 ++ ys2 ++ xs2 ++ zs2) name)) (four ws xs ys zs name)
        (subst (λ o. BothLike (option_or (option_or (first_of ws name) (option_or (first_of xs name) (first_of ys name))) (first_of zs name)) o) (four ws2 ys2 xs2 zs2 name) whole))

  -- entries that clash with none, and others alike of which two parts have changed places
  pub apart-exchanged : (P : X → Type 0) (keep : (x y : X) → Like x y → P x → P y) (known : ByText X) (ws xs ys zs ws2 xs2 ys2 zs2 : List (List ℕ × X))
      → EntriesLike ws ws2 → EntriesLike xs xs2 → EntriesLike ys ys2 → EntriesLike zs zs2 → Apart P known (ws ++ xs ++ ys ++ zs) → Apart P known (ws2 ++ ys2 ++ xs2 ++ zs2)
  apart-exchanged P keep known ws xs ys zs ws2 xs2 ys2 zs2 one two three last apart =
      let all = paired-four EntryLike ws xs ys zs ws2 xs2 ys2 zs2 one two three last in
      let now = apart-like P keep known (ws ++ xs ++ ys ++ zs) (ws2 ++ xs2 ++ ys2 ++ zs2) all apart in
      record {
        behind = all-exchanged (MayEnterBehind P known) ws2 xs2 ys2 zs2 now.behind;
        among = pairwise-exchanged (MayShare P) (share-turned P) ws2 xs2 ys2 zs2 now.among;
      }
