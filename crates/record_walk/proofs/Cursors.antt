-- How a cursor goes on: what is left, and that its path and its name begin with those of each list.
use Rattle.std.proofs.Common.{◌≡◌, ℕ, zero, ℤ, pos, suc, ◌+◌, ◌<◌, ◌≤◌, true, Option, List, [], ◌∷◌, ◌++◌, length, length-append, map, take, string_bytes, get_or, ◌⊎◌, inl, inr, add-one, refl, ap, sym, subst, ◌∙◌, arith}
use Rattle.std.specs.declared.option.Option.TheVariants.{None, Some}
use Rattle.std.specs.String.Boundary.{IsSplitPoint}
use Rattle.std.proofs.lemmas.List.{get_or-take, length-map}
use Rattle.std.proofs.Math.ListN.{get_or-append}
use Rattle.std.proofs.Math.Seq.{get_or-append_seam, take-append_seam}
use Rattle.std.proofs.lemmas.Bool.{leb-true}
use Rattle.proto_types.specs.Names.{join}
use Rattle.proto_types.specs.Readers.{text_of}
use Rattle.proto_types.specs.declared.tag.file.TheConstants as file
use Rattle.proto_types.specs.declared.tag.message.TheConstants as message
use Rattle.proto_types.specs.declared.tag.enum_.TheConstants as enumeration
use Rattle.proto_types.specs.declared.tag.service.TheConstants as service
use Rattle.proto_types.specs.declared.file.FileDescriptorProto.{FileDescriptorProto}
use Rattle.proto_types.specs.declared.message.DescriptorProto.{out-DescriptorProto}
use Rattle.record_walk.specs.declared.counts.Counts.{Counts}
use Rattle.record_walk.specs.declared.walking.cursor.Cursor.{Cursor}
use Rattle.record_walk.specs.declared.walking.part.Part.{Part}
use Rattle.record_walk.specs.declared.walking.row.Depth.{Depth}
use Rattle.record_walk.specs.declared.walking.row.EntryPosition.{EntryPosition}
use Rattle.record_walk.specs.Counts.{counted, counting, fits_list, list_limit, lists_fit}
use Rattle.record_walk.specs.Protos.{Proto, name_of, of_file, of_message, of_field, of_oneof, of_service, of_method, of_enum, of_value, of_extension}
use Rattle.record_walk.specs.Declarations.{in_file}
use Rattle.record_walk.specs.Shown.{Shown, Surrounding, shown, shown_as, inside}
use Rattle.proto_types.specs.Paths.{entry_path}
use Rattle.record_walk.specs.Walking.{Room, WithinLimits, index_at, located, parent_of, proto_of, within_file}
use Rattle.record_walk.specs.Cursor.{AreNested, Begins, Comes, IsSound, Line, Stands, depth_of, file_lines, inner_lines, left, left_of, line, lines, protos_walk, rest_at, stacked, stacked_all, stacked_by, whole}
use Rattle.record_walk.proofs.Listings.{first-true, room-back, second-true, within-first}
use Rattle.record_walk.proofs.Turns.{fits-first, short-enums, short-extensions, short-nested}
use Rattle.record_walk.proofs.Rests.{file-opens, file_rests, left-append, left-next, message_rests, rest, rests_by}

-- texts and paths that begin alike
pub take-narrow : {X : Type 0} (k m : ℕ) (xs ys : List X) → k ≤ m → take m xs ≡ take m ys → take k xs ≡ take k ys
take-narrow zero m xs ys less same = refl
take-narrow (suc k) zero xs ys less same = absurd (omega arith)
take-narrow (suc k) (suc m) [] [] less same = refl
take-narrow (suc k) (suc m) [] (y ∷ ys) less same = absurd (cc)
take-narrow (suc k) (suc m) (x ∷ xs) [] less same = absurd (cc)
take-narrow (suc k) (suc m) (x ∷ xs) (y ∷ ys) less same =
    let first : x ≡ y = cc in
    let rest : take m xs ≡ take m ys = cc in
    λ j. first j ∷ take-narrow k m xs ys (omega arith) rest j

pub take-whole : {X : Type 0} (xs : List X) → take (length xs) xs ≡ xs
take-whole [] = refl
take-whole (x ∷ xs) = ap (λ ys. x ∷ ys) (take-whole xs)

pub length-front : {X : Type 0} (k : ℕ) (xs : List X) → k ≤ length xs → length (take k xs) ≡ k
length-front zero xs within = refl
length-front (suc k) [] within = absurd (omega arith)
length-front (suc k) (x ∷ xs) within = ap suc (length-front k xs (omega arith))

split-le : (k n : ℕ) → k ≤ n → (k < n) ⊎ (k ≡ n)
split-le zero zero less = inr refl
split-le zero (suc n) less = inl (omega arith)
split-le (suc k) zero less = absurd (omega arith)
split-le (suc k) (suc n) less = elim (split-le k n (omega arith)) [ inl h ↦ inl (omega (arith, h)) | inr e ↦ inr (ap suc e) ]

pub take-join : (scope name : List ℕ) → take (length scope) (join scope name) ≡ scope
take-join [] name = refl
take-join (c ∷ cs) name = take-append_seam (c ∷ cs) (46 ∷ name)

pub length-join : (scope name : List ℕ) → length scope ≤ length (join scope name)
length-join [] name = omega arith
length-join (c ∷ cs) name = grind (arith, length-append (c ∷ cs) (46 ∷ name))

-- where a name can be cut, its front can
pub cut-front : (name : List ℕ) (b k : ℕ) → k ≤ b → b ≤ length name → IsSplitPoint name k → IsSplitPoint (take b name) k
cut-front name b k less within cut =
    let long = length-front b name within in (
      omega (arith, long),
      λ start inner high. let same = get_or-take b name k 0 (omega (arith, long, inner)) in
          subst (λ n. 192 ≤ n) (sym same) (cut.1 start (omega (arith, long, inner)) (subst (λ n. 128 ≤ n) same high)),
    )

-- and so can a name that it is the scope of
pub cut-joined : (scope name : List ℕ) (k : ℕ) → k ≤ length scope → IsSplitPoint scope k → IsSplitPoint (join scope name) k
cut-joined [] name k less cut = (omega arith, λ start inner high. absurd (omega arith))
cut-joined (c ∷ cs) name k less cut =
    let scope = c ∷ cs in
    let long = length-append scope (46 ∷ name) in (
      omega (arith, long),
      λ start inner high. elim (split-le k (length scope) less) [
        | inl below ↦ (let same = get_or-append scope (46 ∷ name) 0 k below in
            subst (λ n. 192 ≤ n) (sym same) (cut.1 start below (subst (λ n. 128 ≤ n) same high)))
        | inr is ↦ absurd (let dot = ap (λ i. get_or (scope ++ 46 ∷ name) i 0) is ∙ get_or-append_seam scope 46 name 0 in omega (arith, dot, high))
      ],
    )

cut-end : (name : List ℕ) → IsSplitPoint name (length name)
cut-end name = (omega arith, λ start inner high. absurd (omega arith))

-- lists within a wider depth, and of another name
pub nested-wider : (a b : Depth) (name : List ℕ) (ls : List Line) → a.path ≤ b.path → a.scope ≤ b.scope → AreNested a name ls → AreNested b name ls
nested-wider a b name [] path scope nested = tt
nested-wider a b name (l ∷ ls) path scope nested =
    let s = nested.0 in
    (record { path = omega (arith, path, s.path); scope = omega (arith, scope, s.scope); cut = s.cut; short = s.short }, nested.1)

pub nested-renamed : (a : Depth) (name other : List ℕ) (ls : List Line) → ((k : ℕ) → k ≤ a.scope → IsSplitPoint name k → IsSplitPoint other k) → AreNested a name ls → AreNested a other ls
nested-renamed a name other [] cut nested = tt
nested-renamed a name other (l ∷ ls) cut nested =
    let s = nested.0 in (
      record { path = s.path; scope = s.scope; cut = cut l.depth.scope s.scope s.cut; short = s.short },
      nested-renamed l.depth name other ls (λ k less at. cut k (omega (arith, less, s.scope)) at) nested.1,
    )

-- with one more list
nested-by : (a : Depth) (name : List ℕ) (ps : List Proto) (l : Line) (ls : List Line) → Stands a name l → AreNested l.depth name ls → AreNested a name (stacked_by ps l ls)
nested-by a name [] l ls s nested = nested-wider l.depth a name ls s.path s.scope nested
nested-by a name (p ∷ ps) l ls s nested = (s, nested)

pub nested-stacked : (a : Depth) (name : List ℕ) (l : Line) (ls : List Line) → Stands a name l → AreNested l.depth name ls → AreNested a name (stacked l ls)
nested-stacked a name l ls s nested = nested-by a name l.protos l ls s nested

-- a whole list stands within its own depth
whole-stands : (a : Depth) (name : List ℕ) (parent : Option ℕ) (tag : ℤ) (ps : List Proto) → IsSplitPoint name a.scope → length ps ≤ list_limit → Stands a name (whole a parent tag ps)
whole-stands a name parent tag ps cut short = record { path = omega arith; scope = omega arith; cut = cut; short = omega (arith, short) }

nested-whole : (a : Depth) (name : List ℕ) (parent : Option ℕ) (tag : ℤ) (ps : List Proto) (ls : List Line) → IsSplitPoint name a.scope → length ps ≤ list_limit → AreNested a name ls
    → AreNested a name (stacked (whole a parent tag ps) ls)
nested-whole a name parent tag ps ls cut short nested = nested-stacked a name (whole a parent tag ps) ls (whole-stands a name parent tag ps cut short) nested

-- a short list, as records
short-list : {X : Type 0} (of : X → Proto) (xs : List X) → fits_list xs ≡ true → length (map of xs) ≤ list_limit
short-list of xs short = let long = length-map xs of in omega (arith, long, leb-true (length xs) list_limit short)

-- with what stands in a record
pub nested-inner : (a : Depth) (name : List ℕ) (around index : ℕ) (p : Proto) (ls : List Line) → IsSplitPoint name a.scope → IsSplitPoint name around → around ≤ a.scope → lists_fit p ≡ true
    → AreNested (record a { scope = around }) name ls → AreNested a name (stacked_all (inner_lines a around index p) ls)
nested-inner a name around index (of_message m) ls cut outer less fits nested =
    let up = Some index in
    let opened = out-DescriptorProto m in
    let fewer = first-true _ _ (first-true _ _ fits) in
    nested-whole a name up message.ONEOF_DECL (map of_oneof opened.oneof_decl) _ cut (short-list of_oneof opened.oneof_decl (second-true _ _ fewer))
    (nested-whole a name up message.FIELD (map of_field opened.field) _ cut (short-list of_field opened.field (first-true _ _ (first-true _ _ (first-true _ _ (first-true _ _ fewer)))))
    (nested-whole a name up message.NESTED_TYPE (map of_message opened.nested_type) _ cut (short-list of_message opened.nested_type (short-nested m fits))
    (nested-whole a name up message.ENUM_TYPE (map of_enum opened.enum_type) _ cut (short-list of_enum opened.enum_type (short-enums m fits))
    (nested-whole a name up message.EXTENSION (map of_extension opened.extension) ls cut (short-list of_extension opened.extension (short-extensions m fits))
    (nested-wider (record a { scope = around }) a name ls (omega arith) less nested)))))
nested-inner a name around index (of_enum e) ls cut outer less fits nested =
    let b = record a { scope = around } in
    nested-wider b a name _ (omega arith) less (nested-whole b name (Some index) enumeration.VALUE (map of_value e.value) ls outer (short-list of_value e.value (first-true _ _ fits)) nested)
nested-inner a name around index (of_service s) ls cut outer less fits nested =
    nested-whole a name (Some index) service.METHOD (map of_method s.method) ls cut (short-list of_method s.method fits) (nested-wider (record a { scope = around }) a name ls (omega arith) less nested)
nested-inner a name around index (of_file f) ls cut outer less fits nested = nested-wider (record a { scope = around }) a name ls (omega arith) less nested
nested-inner a name around index (of_field f) ls cut outer less fits nested = nested-wider (record a { scope = around }) a name ls (omega arith) less nested
nested-inner a name around index (of_oneof o) ls cut outer less fits nested = nested-wider (record a { scope = around }) a name ls (omega arith) less nested
nested-inner a name around index (of_method m) ls cut outer less fits nested = nested-wider (record a { scope = around }) a name ls (omega arith) less nested
nested-inner a name around index (of_value v) ls cut outer less fits nested = nested-wider (record a { scope = around }) a name ls (omega arith) less nested
nested-inner a name around index (of_extension x) ls cut outer less fits nested = nested-wider (record a { scope = around }) a name ls (omega arith) less nested

-- and with what stands in a file
pub nested-file : (a : Depth) (name : List ℕ) (f : FileDescriptorProto) → IsSplitPoint name a.scope → lists_fit (of_file f) ≡ true → AreNested a name (stacked_all (file_lines a f) [])
nested-file a name f cut fits =
    let fewer = first-true _ _ fits in
    let fewest = first-true _ _ fewer in
    nested-whole a name None file.MESSAGE_TYPE (map of_message f.message_type) _ cut (short-list of_message f.message_type (second-true _ _ (first-true _ _ fewest)))
    (nested-whole a name None file.ENUM_TYPE (map of_enum f.enum_type) _ cut (short-list of_enum f.enum_type (second-true _ _ fewest))
    (nested-whole a name None file.SERVICE (map of_service f.service) _ cut (short-list of_service f.service (second-true _ _ fewer))
    (nested-whole a name None file.EXTENSION (map of_extension f.extension) [] cut (short-list of_extension f.extension (second-true _ _ fits)) tt)))

-- what is left of lists does not go by what the path and the name go on with
pub rests-same : (index : ℕ) (a : Depth) (cuts : List ℕ) (path path' : List ℤ) (name name' : List ℕ) (ls : List Line) → take a.path path' ≡ take a.path path → take a.scope name' ≡ take a.scope name
    → AreNested a cuts ls → map (rest_at index path' name') ls ≡ map (rest_at index path name) ls
rests-same index a cuts path path' name name' [] paths names nested = refl
rests-same index a cuts path path' name name' (l ∷ ls) paths names nested =
    let p = take-narrow l.depth.path a.path path' path nested.0.path paths in
    let n = take-narrow l.depth.scope a.scope name' name nested.0.scope names in
    λ j. rest (record { file = index; path = p j; scope = n j; parent = l.parent }) l.tag l.position l.protos
    ∷ rests-same index l.depth cuts path path' name name' ls p n nested.1 j

-- an empty list is nothing to go through
left-by : (index : ℕ) (path : List ℤ) (name : List ℕ) (c : Counts) (depth : Depth) (parent : Option ℕ) (tag : ℤ) (i : ℕ) (ps : List Proto) (ls : List Line) →
    let l : Line = record { depth = depth; parent = parent; tag = tag; position = i; protos = ps } in
    left_of c (map (rest_at index path name) (stacked_by ps l ls)) ≡ left_of c (rest_at index path name l ∷ map (rest_at index path name) ls)
left-by index path name c depth parent tag i [] ls = refl
left-by index path name c depth parent tag i (p ∷ ps) ls = refl

-- a list that is added, with records or without
pub stacked-filled : (ps : List Proto) (l : Line) (ls : List Line) → 0 < length ps → stacked_by ps l ls ≡ l ∷ ls
stacked-filled [] l ls filled = absurd (omega (arith, filled))
stacked-filled (p ∷ ps) l ls filled = refl

pub stacked-none : (ps : List Proto) (l : Line) (ls : List Line) → ps ≡ [] → stacked_by ps l ls ≡ ls
stacked-none ps l ls none = ap (λ qs. stacked_by qs l ls) none

pub left-stacked : (index : ℕ) (path : List ℤ) (name : List ℕ) (c : Counts) (l : Line) (ls : List Line)
    → left_of c (map (rest_at index path name) (stacked l ls)) ≡ left_of c (rest_at index path name l ∷ map (rest_at index path name) ls)
left-stacked index path name c l ls = left-by index path name c l.depth l.parent l.tag l.position l.protos ls

pub left-stacked-all : (index : ℕ) (path : List ℤ) (name : List ℕ) (c : Counts) (more ls : List Line)
    → left_of c (map (rest_at index path name) (stacked_all more ls)) ≡ left_of c (map (rest_at index path name) more ++ map (rest_at index path name) ls)
left-stacked-all index path name c [] ls = refl
left-stacked-all index path name c (l ∷ more) ls =
    let at = rest_at index path name in
    let first = protos_walk (at l).here l.tag l.position c l.protos in
    left-stacked index path name c l (stacked_all more ls)
    ∙ ap (λ ds. first ++ ds) (left-stacked-all index path name (counted c first) more ls)

-- what stands in a record that a cursor has come to
inner-rests : (index : ℕ) (path : List ℤ) (name scope : List ℕ) (b : ℕ) (d : Shown) (p : Proto) → d.file ≡ index → path ≡ d.path → name ≡ d.full_name → take b name ≡ scope
    → map (rest_at index path name) (inner_lines (depth_of path name) b d.index p) ≡ rests_by scope d p
inner-rests index path name scope b d (of_message m) file paths names scopes =
    let here : record { file = index; path = take (length path) path; scope = take (length name) name; parent = Some d.index } ≡ inside d =
    λ j. record { file = sym file j; path = (take-whole path ∙ paths) j; scope = (take-whole name ∙ names) j; parent = Some d.index } in
    ap (λ (h : Surrounding). message_rests h m) here
inner-rests index path name scope b d (of_enum e) file paths names scopes =
    λ j. rest (record { file = sym file j; path = (take-whole path ∙ paths) j; scope = scopes j; parent = Some d.index }) enumeration.VALUE 0 (map of_value e.value) ∷ []
inner-rests index path name scope b d (of_service s) file paths names scopes =
    λ j. rest (record { file = sym file j; path = (take-whole path ∙ paths) j; scope = (take-whole name ∙ names) j; parent = Some d.index }) service.METHOD 0 (map of_method s.method) ∷ []
inner-rests index path name scope b d (of_file f) file paths names scopes = refl
inner-rests index path name scope b d (of_field f) file paths names scopes = refl
inner-rests index path name scope b d (of_oneof o) file paths names scopes = refl
inner-rests index path name scope b d (of_method m) file paths names scopes = refl
inner-rests index path name scope b d (of_value v) file paths names scopes = refl
inner-rests index path name scope b d (of_extension x) file paths names scopes = refl

pub take-front : {X : Type 0} (k : ℕ) (xs ys : List X) → k ≤ length xs → take k (take k xs ++ ys) ≡ take k xs
take-front zero xs ys within = refl
take-front (suc k) [] ys within = absurd (omega arith)
take-front (suc k) (x ∷ xs) ys within = ap (λ zs. x ∷ zs) (take-front k xs ys (omega arith))

pub take-scope : (k : ℕ) (name last : List ℕ) → k ≤ length name → take k (join (take k name) last) ≡ take k name
take-scope k name last within = (λ j. take (sym (length-front k name within) j) (join (take k name) last)) ∙ take-join (take k name) last

-- the lists that are left behind a record: those in it, and then the others of its own
abbrev pub behind : EntryPosition → Option ℕ → List Proto → Line
behind at parent ps = line (record at { position = at.position + 1 }) parent ps

abbrev pub coming : List ℤ → List ℕ → Counts → EntryPosition → Option ℕ → Proto → List Proto → List Line → List Line
coming path name c at parent p ps ls = stacked_all (inner_lines (depth_of path name) at.depth.scope (index_at c at.position p) p) (stacked (behind at parent ps) ls)

-- a cursor comes to the first record of the first list
module _ (index : ℕ) (path path' : List ℤ) (name name' : List ℕ) (c : Counts) (at : EntryPosition) (parent : Option ℕ) (p : Proto) (ps : List Proto) (ls : List Line)
    (nested : AreNested (depth_of path name) name (line at parent (p ∷ ps) ∷ ls))
    (paths : path' ≡ entry_path (take at.depth.path path) at.tag at.position) (names : name' ≡ join (take at.depth.scope name) (name_of p)) where
  abbrev n : ℕ
  n = index_at c at.position p

  abbrev others : List Line
  others = stacked (behind at parent ps) ls

  abbrev next : List Line
  next = coming path' name' c at parent p ps ls

  path-front : take at.depth.path path' ≡ take at.depth.path path
  path-front = ap (take at.depth.path) paths ∙ take-front at.depth.path path (at.tag ∷ pos at.position ∷ []) nested.0.path

  name-front : take at.depth.scope name' ≡ take at.depth.scope name
  name-front = ap (take at.depth.scope) names ∙ take-scope at.depth.scope name (name_of p) nested.0.scope

  pub comes-left : left_of c (map (rest_at index path name) (line at parent (p ∷ ps) ∷ ls))
      ≡ shown_as path' name' index parent n p ∷ left_of (counting c p) (map (rest_at index path' name') next)
  comes-left =
      let here : Surrounding = record { file = index; path = take at.depth.path path; scope = take at.depth.scope name; parent = parent } in
      let d = shown here at.tag at.position n p in
      let k = counting c p in
      let inner = rests_by here.scope d p in
      let was = map (rest_at index path name) ls in
      let now = map (rest_at index path' name') others in
      let k2 = counted k (left_of k inner) in
      let rest-same : left_of k2 now ≡ left_of k2 (rest here at.tag (suc at.position) ps ∷ was) =
      left-stacked index path' name' k2 (behind at parent ps) ls
      ∙ (λ j. left_of k2 (rest (record { file = index; path = path-front j; scope = name-front j; parent = parent }) at.tag (add-one at.position j) ps
      ∷ rests-same index at.depth name path path' name name' ls path-front name-front nested.1 j)) in
      let same : left_of k (map (rest_at index path' name') next) ≡ left_of k (inner ++ rest here at.tag (suc at.position) ps ∷ was) =
      left-stacked-all index path' name' k (inner_lines (depth_of path' name') at.depth.scope n p) others
      ∙ ap (λ rs. left_of k (rs ++ now)) (inner-rests index path' name' here.scope at.depth.scope d p refl paths names name-front)
      ∙ left-append k inner now
      ∙ ap (λ ds. left_of k inner ++ ds) rest-same
      ∙ sym (left-append k inner (rest here at.tag (suc at.position) ps ∷ was)) in
      left-next c here at.tag at.position p ps was
      ∙ (λ j. shown_as (sym paths j) (sym names j) index parent n p ∷ sym same j)

  cut-on : (k : ℕ) → k ≤ at.depth.scope → IsSplitPoint name k → IsSplitPoint name' k
  cut-on k less cut =
      let long = length-front at.depth.scope name nested.0.scope in
      subst (λ t. IsSplitPoint t k) (sym names) (cut-joined (take at.depth.scope name) (name_of p) k (omega (arith, long, less)) (cut-front name at.depth.scope k less nested.0.scope cut))

  pub comes-nested : lists_fit p ≡ true → AreNested (depth_of path' name') name' next
  comes-nested fits =
      let s = nested.0 in
      let a = at.depth.path in
      let b = at.depth.scope in
      let cut = cut-on b (omega arith) s.cut in
      let stands : Stands at.depth name' (behind at parent ps) = record { path = omega arith; scope = omega arith; cut = cut; short = omega (arith, s.short) } in
      let stacks = nested-stacked at.depth name' (behind at parent ps) ls stands (nested-renamed at.depth name name' ls cut-on nested.1) in
      let path-long = length-front a path s.path in
      let path-more = ap length paths ∙ length-append (take a path) (at.tag ∷ pos at.position ∷ []) in
      let name-long = length-front b name s.scope in
      let name-more = length-join (take b name) (name_of p) in
      let name-is = ap length names in
      let wide = nested-wider at.depth (record (depth_of path' name') { scope = b }) name' others (omega (arith, path-long, path-more)) (omega arith) stacks in
      nested-inner (depth_of path' name') name' b n p others (cut-end name') cut (omega (arith, name-long, name-more, name-is)) fits wide

-- there is room to count it
pub first-within : (c : Cursor) (part : Part) (at : EntryPosition) (ps : List Proto) (ls : List Line) → IsSound c → lines c.rows ≡ line at (parent_of part) (proto_of part ∷ ps) ∷ ls
    → WithinLimits (counting c.counts (proto_of part))
first-within c part at ps ls sound popped =
    let rests = map (rest_at c.site.file c.site.path.items (string_bytes c.site.name)) in
    let here = (rest_at c.site.file c.site.path.items (string_bytes c.site.name) (line at (parent_of part) (proto_of part ∷ ps))).here in
    let first = (λ j. left_of c.counts (rests (popped j)))
    ∙ left-next c.counts here at.tag at.position (proto_of part) ps (rests ls) in
    within-first (subst (Room c.counts) first sound.room)

-- so the first of what is left comes
pub comes : (old new : Cursor) (part : Part) (at : EntryPosition) (index : ℕ) (ps : List Proto) (ls : List Line) → IsSound old
    → lines old.rows ≡ line at (parent_of part) (proto_of part ∷ ps) ∷ ls
    → new.site.file ≡ old.site.file → new.site.path.items ≡ entry_path (take at.depth.path old.site.path.items) at.tag at.position
    → string_bytes new.site.name ≡ join (take at.depth.scope (string_bytes old.site.name)) (name_of (proto_of part))
    → new.counts ≡ counting old.counts (proto_of part) → index ≡ index_at old.counts at.position (proto_of part)
    → lines new.rows ≡ stacked_all (inner_lines (depth_of new.site.path.items (string_bytes new.site.name)) at.depth.scope index (proto_of part))
    (stacked (behind at (parent_of part) ps) ls)
    → Comes old new (located new.site (record { index = index; part = part }))
comes old new part at index ps ls sound popped files paths names counts is rows =
    let p = proto_of part in
    let parent = parent_of part in
    let path = old.site.path.items in
    let path' = new.site.path.items in
    let name = string_bytes old.site.name in
    let name' = string_bytes new.site.name in
    let nested = subst (AreNested (depth_of path name) name) popped sound.nested in
    let next = coming path' name' old.counts at parent p ps ls in
    let rows-are : lines new.rows ≡ next = rows ∙ (λ j. stacked_all (inner_lines (depth_of path' name') at.depth.scope (is j) p) (stacked (behind at parent ps) ls)) in
    let left-is : left old ≡ shown_as path' name' new.site.file parent index p ∷ left new =
    (λ j. left_of old.counts (map (rest_at old.site.file path name) (popped j)))
    ∙ comes-left old.site.file path path' name name' old.counts at parent p ps ls nested paths names
    ∙ (λ j. shown_as path' name' (sym files j) parent (sym is j) p
    ∷ left_of (sym counts j) (map (rest_at (sym files j) path' name') (sym rows-are j))) in
    let room = subst (Room old.counts) left-is sound.room in
    let d = shown_as path' name' new.site.file parent index p in
    record {
      sound = record {
        nested = subst (AreNested (depth_of path' name') name') (sym rows-are)
            (comes-nested old.site.file path path' name name' old.counts at parent p ps ls nested paths names (fits-first room));
        room = subst (λ k. Room k (left new)) (sym counts) (room-back (d ∷ []) (left new) room);
      };
      left_is = left-is;
      counts_are = counts;
    }

-- a cursor begins before all that stands in a file
pub begins : (c : Cursor) (base : Counts) (f : FileDescriptorProto) → lists_fit (of_file f) ≡ true → Room base (within_file base.files base f)
    → c.counts ≡ base → c.site.file ≡ base.files → c.site.path.items ≡ [] → string_bytes c.site.name ≡ text_of f.«package»
    → lines c.rows ≡ stacked_all (file_lines (depth_of c.site.path.items (string_bytes c.site.name)) f) []
    → Begins base (within_file base.files base f) c
begins c base f fits room counts files paths names rows =
    let path = c.site.path.items in
    let name = string_bytes c.site.name in
    let a = depth_of path name in
    let at = map (rest_at c.site.file path name) in
    let here : record { file = c.site.file; path = take (length path) path; scope = take (length name) name; parent = None } ≡ in_file base.files f =
    λ j. record { file = files j; path = (take-whole path ∙ paths) j; scope = (take-whole name ∙ names) j; parent = None } in
    let is : left c ≡ within_file base.files base f =
    (λ j. left_of (counts j) (at (rows j)))
    ∙ left-stacked-all c.site.file path name base (file_lines a f) []
    ∙ (λ j. left_of base (file_rests (here j) f))
    ∙ file-opens base.files base f in
    record {
      sound = record {
        nested = subst (AreNested a name) (sym rows) (nested-file a name f (cut-end name) fits);
        room = subst (λ k. Room k (left c)) (sym counts) (subst (Room base) (sym is) room);
      };
      left_is = is;
      counts_are = counts;
    }
