-- What the maps of fields have at a key: the position of the latest field that has it.
use Rattle.std.proofs.Common.{◌≡◌, ℕ, suc, ◌+◌, ◌<◌, Bool, true, false, cond, List, [], ◌∷◌, ◌++◌, length, take, get_or, reverse, find, None, Some, Option, refl, ap, sym, ◌∙◌, arith}
use Rattle.std.specs.Cmp.{IsTotalOrder}
use Rattle.std.specs.FinMap as map
use Rattle.std.specs.FinMap.{FinMap, get-insert, get-empty}
use Rattle.std.specs.List.{cons_option, filter_map, fold, enumerate_from}
use Rattle.std.specs.Option.{option_map, option_map_or, option_or}
use Rattle.std.specs.Ordering.{eq_by_cmp}
use Rattle.std.specs.declared.cmp.Ordering.{Ordering}
use Rattle.std.proofs.lemmas.List.{reverse-append}
use Rattle.std.proofs.lemmas.List.Elements.{filter_map-append}
use Rattle.std.proofs.lemmas.List.Folds.{find-append}
use Rattle.std.proofs.lemmas.List.Sums.{fold-append}
use Rattle.proto_types.specs.declared.records.field.FieldDescriptorProto.{FieldDescriptorProto}
use Rattle.plain_data.specs.Lists.{listed}
use Rattle.plain_data.specs.Maps.{inserted}
use Rattle.plain_data.proofs.Enumerated.{entries-next}
use Rattle.field_rules.specs.Maps.{keyed}

unless-later : {X : Type 0} (later : Option (ℕ × X)) (other : Option ℕ) → option_or (option_map (λ e. e.0) later) other ≡ option_or (option_map (λ e. e.0) (option_or later None)) other
unless-later None other = refl
unless-later (Some e) other = refl

unless-here : {X : Type 0} (b : Bool) (later : Option (ℕ × X)) (e : ℕ × X) (other : Option ℕ)
    → option_or (option_map (λ e. e.0) later) (cond b (Some e.0) other) ≡ option_or (option_map (λ e. e.0) (option_or later (cond b (Some e) None))) other
unless-here true None e other = refl
unless-here false None e other = refl
unless-here b (Some l) e other = refl

module _ {K X : Type 0} {R : K → K → Ordering} (total : IsTotalOrder R) (key : X → Option K) (q : K) where
  abbrev entered : FinMap R ℕ → List (K × ℕ) → FinMap R ℕ
  entered m entries = fold (λ m e. map.insert m e.0 e.1) m entries

  abbrev entry : ℕ × X → Option (K × ℕ)
  entry e = option_map (λ k. (k, e.0)) (key e.1)

  abbrev has : ℕ × X → Bool
  has e = option_map_or (eq_by_cmp R q) (key e.1) false

  has-more : (own : Option K) (e : ℕ × X) (entries : List (K × ℕ)) (later : Option (ℕ × X)) (m : FinMap R ℕ)
      → ((m : FinMap R ℕ) → map.get (entered m entries) q ≡ option_or (option_map (λ e. e.0) later) (map.get m q))
      → map.get (entered m (cons_option (option_map (λ k. (k, e.0)) own) entries)) q
      ≡ option_or (option_map (λ e. e.0) (option_or later (cond (option_map_or (eq_by_cmp R q) own false) (Some e) None))) (map.get m q)
  has-more None e entries later m rest = rest m ∙ unless-later later (map.get m q)
  has-more (Some k) e entries later m rest =
      rest (map.insert m k e.0) ∙ ap (option_or (option_map (λ e. e.0) later)) (get-insert total m k e.0 q)
      ∙ unless-here (eq_by_cmp R q k) later e (map.get m q)

  -- the latest of some entries that has the key, or else what stood there before
  get-entered : (m : FinMap R ℕ) (es : List (ℕ × X)) → map.get (entered m (filter_map entry es)) q ≡ option_or (option_map (λ e. e.0) (find has (reverse es))) (map.get m q)
  get-entered m [] = refl
  get-entered m (e ∷ es) =
      has-more (key e.1) e (filter_map entry es) (find has (reverse es)) m (λ m. get-entered m es)
      ∙ ap (λ found. option_or (option_map (λ e. e.0) found) (map.get m q)) (sym (ap (find has) (reverse-append (e ∷ []) es) ∙ find-append has (reverse es) (e ∷ [])))

or-none : {X : Type 0} (found : Option X) → option_or found None ≡ found
or-none None = refl
or-none (Some x) = refl

-- the position of the latest field that has a key
pub get-keyed : {K : Type 0} {R : K → K → Ordering} (total : IsTotalOrder R) (key : FieldDescriptorProto → Option K) (q : K) (fields : List FieldDescriptorProto)
    → map.get (inserted {R = R} (keyed key fields)) q
    ≡ option_map (λ e. e.0) (find (λ e. option_map_or (eq_by_cmp R q) (key e.1) false) (reverse (enumerate_from 0 fields)))
get-keyed {R = R} total key q fields =
    get-entered total key q map.empty (enumerate_from 0 fields)
    ∙ ap (option_or (option_map (λ e. e.0) (find (has total key q) (reverse (enumerate_from 0 fields))))) (get-empty R q)
    ∙ or-none (option_map (λ e. e.0) (find (has total key q) (reverse (enumerate_from 0 fields))))

-- of two tests that tell the same of each field, the latest that meets them is one
module _ {X : Type 0} (t u : X → Bool) where
  pub same-latest : (n : ℕ) (fields : List X) → ((k : ℕ) (d : X) → k < length fields → t (get_or fields k d) ≡ u (get_or fields k d))
      → find (λ (e : ℕ × X). t e.1) (reverse (enumerate_from n fields)) ≡ find (λ (e : ℕ × X). u e.1) (reverse (enumerate_from n fields))
  same-latest n [] same = refl
  same-latest n (f ∷ fields) same =
      let es = enumerate_from (n + 1) fields in
      let e : ℕ × X = (n, f) in
      let first : 0 < suc (length fields) = omega arith in
      let here : t f ≡ u f = same 0 f first in
      let rest = same-latest (n + 1) fields (λ k d below. let more : suc k < suc (length fields) = omega arith in same (suc k) d more) in
      ap (find (λ (e : ℕ × X). t e.1)) (reverse-append (e ∷ []) es)
      ∙ find-append (λ (e : ℕ × X). t e.1) (reverse es) (e ∷ [])
      ∙ (λ i. option_or (rest i) (cond (here i) (Some e) None))
      ∙ sym (find-append (λ (e : ℕ × X). u e.1) (reverse es) (e ∷ []))
      ∙ sym (ap (find (λ (e : ℕ × X). u e.1)) (reverse-append (e ∷ []) es))

-- what is there, in a list of its own
pub listed-option : {X : Type 0} (found : Option X) → listed found ≡ cons_option found []
listed-option None = refl
listed-option (Some x) = refl

-- the keys of fields behind one more: its own, where it has one
pub keyed-more : {K : Type 0} (key : FieldDescriptorProto → Option K) (fields : List FieldDescriptorProto) (i : ℕ) (f : FieldDescriptorProto) → i < length fields → f ≡ get_or fields i f
    → keyed key (take (i + 1) fields) ≡ keyed key (take i fields) ++ cons_option (option_map (λ k. (k, i)) (key f)) []
keyed-more {K} key fields i f below is =
    let entry : ℕ × FieldDescriptorProto → Option (K × ℕ) = λ e. option_map (λ k. (k, e.0)) (key e.1) in
    ap (filter_map entry) (entries-next fields i f below is)
    ∙ filter_map-append entry (enumerate_from 0 (take i fields)) ((i, f) ∷ [])

-- a map of keys behind one more field: its key, where it has one, is put in
pub keyed-next : {K : Type 0} {R : K → K → Ordering} (key : FieldDescriptorProto → Option K) (fields : List FieldDescriptorProto) (i : ℕ) (f : FieldDescriptorProto) → i < length fields → f ≡ get_or fields i f
    → inserted {R = R} (keyed key (take (i + 1) fields)) ≡ option_map_or (λ k. map.insert (inserted {R = R} (keyed key (take i fields))) k i) (key f) (inserted {R = R} (keyed key (take i fields)))
keyed-next {K} {R} key fields i f below is =
    ap (inserted {R = R}) (keyed-more key fields i f below is)
    ∙ fold-append (λ (m : FinMap R ℕ) (e : K × ℕ). map.insert m e.0 e.1) map.empty (keyed key (take i fields)) (cons_option (option_map (λ k. (k, i)) (key f)) [])
    ∙ one (key f) (inserted {R = R} (keyed key (take i fields)))
  where
    one : (k : Option K) (m : FinMap R ℕ) → fold (λ (m : FinMap R ℕ) (e : K × ℕ). map.insert m e.0 e.1) m (cons_option (option_map (λ k. (k, i)) k) []) ≡ option_map_or (λ k. map.insert m k i) k m
    one None m = refl
    one (Some k) m = refl
