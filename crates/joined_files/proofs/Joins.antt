-- A file that is joined to others, by the position of the first of its name.
use Rattle.std.proofs.Common.{◌≡◌, ◌≤◌, ◌<◌, ◌+◌, ℕ, zero, suc, Bool, true, false, cond, List, [], ◌∷◌, ◌++◌, length, get_or, set, Option, None, Some, slice_get, refl, sym, ap, subst, ◌∙◌, arith}
use Rattle.std.specs.FinMap as finite
use Rattle.std.specs.Cmp.Lexicographic.{slice_cmp}
use Rattle.std.specs.List.{find, position_from}
use Rattle.std.specs.Option.{IfSome, option_and_then, option_or}
use Rattle.std.specs.Ordering.{nat_cmp}
use Rattle.std.specs.Str.{bytes_eq}
use Rattle.std.proofs.lemmas.Option.{slice_get_read}
use Rattle.std.proofs.lemmas.Slice.Eq.{bytes_eq-Decides}
use Rattle.plain_data.proofs.Positions.{find-position, position-below}
use Rattle.pool_types.specs.Contents.{ByText}
use Rattle.joined_files.specs.Differences.{difference}
use Rattle.joined_files.specs.Joining.{HaveNames, is_named, join, kept, kept_by, name_in, unequal_by, unequal_to}
use Rattle.joined_files.specs.declared.differences.FilePart.{FilePart}
use Rattle.joined_files.specs.declared.unequal.SetFile.{SetFile}
use Rattle.verdict_texts.proofs.Entering.{held-means, new-means}
use Rattle.proto_types.specs.declared.file.FileDescriptorProto.{FileDescriptorProto}
use Rattle.proto_types.specs.Readers.{text_of}

-- a position is not before the first
position-above : {X : Type 0} (p : X → Bool) (i : ℕ) (xs : List X) → IfSome (position_from p i xs) (λ k. i ≤ k)
position-above p i [] = tt
position-above p i (x ∷ xs) =
    let rest = above-next (position_from p (i + 1) xs) i (position-above p (i + 1) xs) in
    elim (p x) as (λ b. IfSome (cond b (Some i) (position_from p (i + 1) xs)) (λ k. i ≤ k)) [ true ↦ omega arith | false ↦ rest ]
  where
    above-next : (r : Option ℕ) (i : ℕ) → IfSome r (λ k. i + 1 ≤ k) → IfSome r (λ k. i ≤ k)
    above-next None i _ = tt
    above-next (Some k) i h = omega arith

not-before : {X : Type 0} (p : X → Bool) (i : ℕ) (xs : List X) → position_from p (i + 1) xs ≡ Some (i + 0) → ⊥
not-before p i xs is = let h : i + 1 ≤ i + 0 = subst (λ r. IfSome r (λ k. i + 1 ≤ k)) is (position-above p (i + 1) xs) in omega arith

-- the first file of a name stands in the list
pub stands-below : (name : List ℕ) (fs : List SetFile) (at : ℕ) → position_from (is_named name) 0 fs ≡ Some at → at < length fs
stands-below name fs at is = let h : at < 0 + length fs = subst (λ r. IfSome r (λ k. k < 0 + length fs)) is (position-below (is_named name) 0 fs) in omega arith

-- and is found
pub found-at : (name : List ℕ) (fs : List SetFile) (at : ℕ) (x : SetFile) → position_from (is_named name) 0 fs ≡ Some at → x ≡ get_or fs at x → find (is_named name) fs ≡ Some x
found-at name fs at x is there =
    find-position (is_named name) fs ∙ ap (option_and_then (slice_get fs)) is ∙ slice_get_read fs (length fs) at x refl (stands-below name fs at is) there

-- what is told of a further file of its name
pub told-at : (f : SetFile) (fs : List SetFile) (at : ℕ) (x : SetFile) (d : Option FilePart) → position_from (is_named (name_in f)) 0 fs ≡ Some at → x ≡ get_or fs at x → difference x.file f.file ≡ d
    → unequal_by d x f ≡ unequal_to (find (is_named (name_in f)) fs) f
told-at f fs at x d is there differs = ap (λ e. unequal_by e x f) (sym differs) ∙ ap (λ o. unequal_to o f) (sym (found-at (name_in f) fs at x is there))

-- a further file of its name takes its place, or is left out
pub join-from : (f : SetFile) (i k : ℕ) (fs : List SetFile) (x : SetFile) → position_from (is_named (name_in f)) i fs ≡ Some (i + k) → x ≡ get_or fs k x → set fs k (kept x f) ≡ join fs f
join-from f i k [] x is there = absurd (cc)
join-from f i zero (g ∷ gs) x is there =
    (elim (is_named (name_in f) g) as (λ b. cond b (Some i) (position_from (is_named (name_in f)) (i + 1) gs) ≡ Some (i + 0) → kept x f ∷ gs ≡ cond b (kept g f ∷ gs) (g ∷ join gs f))
    [ true ↦ λ _. ap (λ h. kept h f ∷ gs) there | false ↦ λ no. absurd (not-before (is_named (name_in f)) i gs no) ]) is
join-from f i (suc k) (g ∷ gs) x is there =
    let later : i + suc k ≡ i + 1 + k = omega arith in
    let rest : position_from (is_named (name_in f)) (i + 1) gs ≡ Some (i + suc k) → set gs k (kept x f) ≡ join gs f = λ next. join-from f (i + 1) k gs x (next ∙ ap Some later) there in
    (elim (is_named (name_in f) g) as (λ b. cond b (Some i) (position_from (is_named (name_in f)) (i + 1) gs) ≡ Some (i + suc k) → g ∷ set gs k (kept x f) ≡ cond b (kept g f ∷ gs) (g ∷ join gs f))
    [ true ↦ λ no. absurd (omega (arith, some-same i (i + suc k) no)) | false ↦ λ next. ap (λ hs. g ∷ hs) (rest next) ]) is
  where
    some-same : (a b : ℕ) → Some a ≡ Some b → a ≡ b
    some-same a b same = cc

pub join-at : (f : SetFile) (fs : List SetFile) (at : ℕ) (x : SetFile) (d : Option FilePart) → position_from (is_named (name_in f)) 0 fs ≡ Some at → x ≡ get_or fs at x → difference x.file f.file ≡ d
    → set fs at (kept_by d x f) ≡ join fs f
join-at f fs at x d is there differs =
    let here : at ≡ 0 + at = omega arith in
    ap (λ e. set fs at (kept_by e x f)) (sym differs) ∙ join-from f 0 at fs x (is ∙ ap Some here) there

-- a file whose name none has stands behind the others
pub join-none : (f : SetFile) (i : ℕ) (fs : List SetFile) → position_from (is_named (name_in f)) i fs ≡ None → fs ++ f ∷ [] ≡ join fs f
join-none f i [] is = refl
join-none f i (g ∷ gs) is =
    (elim (is_named (name_in f) g) as (λ b. cond b (Some i) (position_from (is_named (name_in f)) (i + 1) gs) ≡ None → g ∷ (gs ++ f ∷ []) ≡ cond b (kept g f ∷ gs) (g ∷ join gs f))
    [ true ↦ λ no. absurd (cc) | false ↦ λ next. ap (λ hs. g ∷ hs) (join-none f (i + 1) gs next) ]) is

pub told-none : (f : SetFile) (fs : List SetFile) → position_from (is_named (name_in f)) 0 fs ≡ None → [] ≡ unequal_to (find (is_named (name_in f)) fs) f
told-none f fs is = ap (λ o. unequal_to o f) (sym (find-position (is_named (name_in f)) fs ∙ ap (option_and_then (slice_get fs)) is))

-- what is kept has the name
kept-file-name : (b : Bool) (g f : FileDescriptorProto) → text_of g.name ≡ text_of f.name → text_of (cond b g f).name ≡ text_of g.name
kept-file-name true g f same = refl
kept-file-name false g f same = sym same

kept-name-by : (d : Option FilePart) (g f : SetFile) → name_in g ≡ name_in f → name_in (kept_by d g f) ≡ name_in g
kept-name-by None g f same = kept-file-name _ g.file f.file same
kept-name-by (Some p) g f same = refl

-- the positions of names, where a file is joined
position-here : (name : List ℕ) (i n : ℕ) (b : Bool) (f g : SetFile) (gs : List SetFile) → is_named (name_in f) g ≡ b
    → position_from (is_named name) (i + 1) (join gs f) ≡ option_or (position_from (is_named name) (i + 1) gs) (cond (is_named name f) (Some n) None)
    → position_from (is_named name) i (cond b (kept g f ∷ gs) (g ∷ join gs f))
    ≡ option_or (cond (is_named name g) (Some i) (position_from (is_named name) (i + 1) gs)) (cond (is_named name f) (Some n) None)
position-here name i n true f g gs same rest =
    let one : name_in g ≡ name_in f = (bytes_eq-Decides (name_in g) (name_in f)).0 same in
    let stays : is_named name (kept g f) ≡ is_named name g = ap (λ own. bytes_eq own name) (kept-name-by (difference g.file f.file) g f one) in
    let alike : is_named name f ≡ is_named name g = ap (λ own. bytes_eq own name) (sym one) in
    ap (λ b. cond b (Some i) (position_from (is_named name) (i + 1) gs)) stays
    ∙ unmoved (is_named name g) i n (position_from (is_named name) (i + 1) gs)
    ∙ ap (λ b. option_or (cond (is_named name g) (Some i) (position_from (is_named name) (i + 1) gs)) (cond b (Some n) None)) (sym alike)
  where
    option-none : (r : Option ℕ) → r ≡ option_or r None
    option-none None = refl
    option-none (Some k) = refl

    unmoved : (b : Bool) (i n : ℕ) (r : Option ℕ) → cond b (Some i) r ≡ option_or (cond b (Some i) r) (cond b (Some n) None)
    unmoved true i n r = refl
    unmoved false i n r = option-none r
position-here name i n false f g gs same rest =
    elim (is_named name g) as (λ b. cond b (Some i) (position_from (is_named name) (i + 1) (join gs f)) ≡ option_or (cond b (Some i) (position_from (is_named name) (i + 1) gs)) (cond (is_named name f) (Some n) None))
    [ true ↦ refl | false ↦ rest ]

position-join : (name : List ℕ) (i n : ℕ) (f : SetFile) (fs : List SetFile) → n ≡ i + length fs
    → position_from (is_named name) i (join fs f) ≡ option_or (position_from (is_named name) i fs) (cond (is_named name f) (Some n) None)
position-join name i n f [] is = let here : i ≡ n = omega arith in ap (λ k. cond (is_named name f) (Some k) None) here
position-join name i n f (g ∷ gs) is =
    position-here name i n (is_named (name_in f) g) f g gs refl (position-join name (i + 1) n f gs (omega arith))

-- the names of files, where one is joined whose name they have
pub names-stay : (names : ByText ℕ) (fs : List SetFile) (f : SetFile) (at : ℕ) → HaveNames names fs → finite.get names (name_in f) ≡ Some at → HaveNames names (join fs f)
names-stay names fs f at have is name =
    held-means names (name_in f) (length fs) at name is
    ∙ ap (λ held. option_or held (cond (is_named name f) (Some (length fs)) None)) (have name)
    ∙ sym (position-join name 0 (length fs) f fs (omega arith))

-- and one that they don't have
pub names-next : (names : ByText ℕ) (fs : List SetFile) (f : SetFile) → HaveNames names fs → finite.get names (name_in f) ≡ None
    → HaveNames (finite.insert names (name_in f) (length fs)) (join fs f)
names-next names fs f have is name =
    new-means names (name_in f) (length fs) name is
    ∙ ap (λ held. option_or held (cond (is_named name f) (Some (length fs)) None)) (have name)
    ∙ sym (position-join name 0 (length fs) f fs (omega arith))

-- no files have no names
pub names-none : (names : ByText ℕ) (fs : List SetFile) → names ≡ finite.empty → fs ≡ [] → HaveNames names fs
names-none names fs empty none name =
    ap (λ m. finite.get m name) empty ∙ finite.get-empty (slice_cmp nat_cmp) name ∙ sym (ap (position_from (is_named name) 0) none)
