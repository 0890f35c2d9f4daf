-- How a walk shows the parts of a row where they stand.
use Rattle.std.proofs.Common.{◌≡◌, ◌<◌, ℕ, suc, ℤ, pos, true, Option, None, Some, List, [], ◌∷◌, ◌++◌, length, length-append, map, take, drop, string_bytes, refl, ap, sym, subst, ◌∙◌, append_assoc, arith}
use Rattle.std.proofs.Math.Seq.{take-append_seam}
use Rattle.std.proofs.lemmas.List.{take-append-drop}
use Rattle.std.proofs.lemmas.Str.{IsCharBoundary-at_seam}
use Rattle.std.proofs.lemmas.Option.{MatchOption-at_none, MatchOption-at_some}
use Rattle.std.specs.Option.{MatchOption}
use Rattle.std.specs.Prelude.{slice_set}
use Rattle.std.specs.Str.{IsUtf8, IsCharBoundary}
use Rattle.std.specs.String.Boundary.{IsSplitPoint}
use Rattle.proto_types.specs.Names.{join}
use Rattle.proto_types.specs.Paths.{entry_path}
use Rattle.record_walk.specs.declared.counts.Counts.{Counts}
use Rattle.record_walk.specs.declared.walking.cursor.Cursor.{Cursor}
use Rattle.record_walk.specs.declared.walking.part.Part.{Part}
use Rattle.record_walk.specs.declared.walking.row.Row.{Row}
use Rattle.record_walk.specs.declared.walking.rows.Rows.{Rows}
use Rattle.record_walk.specs.declared.walking.site.Site.{Site}
use Rattle.record_walk.specs.Counts.{counted}
use Rattle.record_walk.specs.Cursor.{AreNested, IsSound, Line, depth_of, left, left_of, line_in, lines, protos_walk, rest_at}
use Rattle.record_walk.specs.Parts.{AreParts, GoesOn, KeepsFront, StandsAt, row_parts, surrounding}
use Rattle.record_walk.specs.Protos.{Proto, name_of, of_file, of_message, of_field, of_oneof, of_service, of_method, of_enum, of_value, of_extension}
use Rattle.record_walk.specs.Shown.{Shown, Surrounding, row, shown, shown_as}
use Rattle.record_walk.specs.Walking.{Room, located, parent_in, parent_of, proto_of, protos_in}
use Rattle.record_walk.proofs.Counted.{counted-append}
use Rattle.record_walk.proofs.Cursors.{cut-front, cut-joined, length-front, length-join, nested-renamed, nested-wider, rests-same, take-front, take-scope, take-whole}
use Rattle.record_walk.proofs.Listings.{room-back}
use Rattle.record_walk.proofs.Passing.{walk-parts}

-- the walk of parts is a row of them
pub parts-are : (here : Surrounding) (tag : ℤ) (i : ℕ) (c : Counts) (ps : List Proto) → AreParts ps → protos_walk here tag i c ps ≡ row (λ p. p) here tag i i ps
parts-are here tag i c [] are = refl
parts-are here tag i c (of_field f ∷ ps) are = ap (λ ds. shown here tag i i (of_field f) ∷ ds) (parts-are here tag (suc i) c ps are.1)
parts-are here tag i c (of_oneof o ∷ ps) are = ap (λ ds. shown here tag i i (of_oneof o) ∷ ds) (parts-are here tag (suc i) c ps are.1)
parts-are here tag i c (of_method m ∷ ps) are = ap (λ ds. shown here tag i i (of_method m) ∷ ds) (parts-are here tag (suc i) c ps are.1)
parts-are here tag i c (of_value v ∷ ps) are = ap (λ ds. shown here tag i i (of_value v) ∷ ds) (parts-are here tag (suc i) c ps are.1)
parts-are here tag i c (of_file f ∷ ps) are = absurd (cc)
parts-are here tag i c (of_message m ∷ ps) are = absurd (cc)
parts-are here tag i c (of_service s ∷ ps) are = absurd (cc)
parts-are here tag i c (of_enum e ∷ ps) are = absurd (cc)
parts-are here tag i c (of_extension x ∷ ps) are = absurd (cc)

-- the last of a list is another
pub set-last : {X : Type 0} (front : List X) (last next : X) → slice_set (front ++ last ∷ []) (length front) next ≡ front ++ next ∷ []
set-last [] last next = refl
set-last (x ∷ xs) last next = ap (λ ys. x ∷ ys) (set-last xs last next)

join-open : (scope name : List ℕ) → join scope [] ++ name ≡ join scope name
join-open [] name = refl
join-open (c ∷ cs) name = append_assoc (c ∷ cs) (46 ∷ []) name

-- a site stands in the list of a row that stands at another, where names begin behind so many bytes
pub record Inside (was now : Site) (r : Row) (start : ℕ) : Type 0 where
  pub file : now.file ≡ was.file
  pub path : (last : ℤ) × (now.path.items ≡ take r.at.depth.path was.path.items ++ r.at.tag ∷ last ∷ [])
  pub name : take start (string_bytes now.name) ≡ join (surrounding was r).scope []
  pub cut : IsSplitPoint (string_bytes now.name) start

-- it has gone to the record at a position there
pub record Entered (was now : Site) (r : Row) (i : ℕ) (name : List ℕ) : Type 0 where
  pub file : now.file ≡ was.file
  pub path : now.path.items ≡ entry_path (surrounding was r).path r.at.tag i
  pub full_name : string_bytes now.name ≡ join (surrounding was r).scope name

-- where it has gone to, of a record without a name, it stands in the list
pub inside : (was cut now : Site) (r : Row) (start : ℕ) → cut.file ≡ was.file → cut.path.items ≡ take r.at.depth.path was.path.items → string_bytes cut.name ≡ take r.at.depth.scope (string_bytes was.name)
    → now.file ≡ cut.file → now.path.items ≡ entry_path cut.path.items r.at.tag r.at.position → string_bytes now.name ≡ join (string_bytes cut.name) [] → start ≡ length (string_bytes now.name)
    → Inside was now r start
inside was cut now r start file path name file' path' name' start_is =
    let whole : take start (string_bytes now.name) ≡ string_bytes now.name = ap (λ k. take k (string_bytes now.name)) start_is ∙ take-whole (string_bytes now.name) in
    record {
      file = file' ∙ file;
      path = (pos r.at.position, path' ∙ ap (λ p. p ++ r.at.tag ∷ pos r.at.position ∷ []) path);
      name = whole ∙ name' ∙ ap (λ scope. join scope []) name;
      cut = (omega (arith, start_is), λ from inner high. absurd (omega (arith, start_is, inner)));
    }

pub has-path : (was now : Site) (r : Row) (start : ℕ) → Inside was now r start → 0 < length now.path.items
has-path was now r start at =
    let long = ap length at.path.1 ∙ length-append (take r.at.depth.path was.path.items) (r.at.tag ∷ at.path.0 ∷ []) in
    omega (arith, long)

pub entered : (was before now : Site) (r : Row) (start i : ℕ) (given name : List ℕ) → Inside was before r start → now.file ≡ before.file
    → ((front : List ℤ) (last : ℤ) → before.path.items ≡ front ++ last ∷ [] → now.path.items ≡ front ++ pos i ∷ [])
    → string_bytes now.name ≡ take start (string_bytes before.name) ++ given → given ≡ name → Entered was now r i name
entered was before now r start i given name at file path full_name names =
    let front = take r.at.depth.path was.path.items in
    let tag = r.at.tag in
    record {
      file = file ∙ at.file;
      path = path (front ++ tag ∷ []) at.path.0 (at.path.1 ∙ sym (append_assoc front (tag ∷ []) (at.path.0 ∷ []))) ∙ append_assoc front (tag ∷ []) (pos i ∷ []);
      full_name = full_name ∙ (λ j. at.name j ++ names j) ∙ join-open (surrounding was r).scope name;
    }

-- and stands in the list still
pub inside-next : (was before now : Site) (r : Row) (start i : ℕ) (given name : List ℕ) → IsUtf8 given → Inside was before r start → string_bytes now.name ≡ take start (string_bytes before.name) ++ given
    → Entered was now r i name → Inside was now r start
inside-next was before now r start i given name utf8 at full_name went =
    let front = take start (string_bytes before.name) in
    let long : length front ≡ start = length-front start (string_bytes before.name) at.cut.0 in
    let seam : IsCharBoundary (string_bytes now.name) start = subst (IsCharBoundary (string_bytes now.name)) long (IsCharBoundary-at_seam (string_bytes now.name) front given full_name utf8) in
    record {
      file = went.file;
      path = (pos i, went.path);
      name = ap (take start) full_name ∙ ap (λ k. take k (front ++ given)) (sym long) ∙ take-append_seam front given ∙ at.name;
      cut = (seam.0, λ from inner. seam.1 inner);
    }

-- it begins as before
pub keeps-inside : (was now : Site) (r : Row) (start : ℕ) → StandsAt was r → Inside was now r start → KeepsFront r.at.depth was now
keeps-inside was now r start stands at =
    let a = r.at.depth.path in
    let b = r.at.depth.scope in
    let path = was.path.items in
    let name = string_bytes was.name in
    let last = drop start (string_bytes now.name) in
    let full_name : string_bytes now.name ≡ join (take b name) last =
    sym (take-append-drop start (string_bytes now.name)) ∙ ap (λ front. front ++ last) at.name ∙ join-open (take b name) last in
    let path-long = length-front a path stands.path in
    let path-more = ap length at.path.1 ∙ length-append (take a path) (r.at.tag ∷ at.path.0 ∷ []) in
    let name-long = length-front b name stands.scope in
    let name-more = length-join (take b name) last in
    let name-is = ap length full_name in
    record {
      file = at.file;
      path = ap (take a) at.path.1 ∙ take-front a path (r.at.tag ∷ at.path.0 ∷ []) stands.path;
      name = ap (take b) full_name ∙ take-scope b name last stands.scope;
      long_path = omega (arith, path-long, path-more);
      long_name = omega (arith, name-long, name-more, name-is);
      cut = λ k less can. subst (λ t. IsSplitPoint t k) (sym full_name)
          (cut-joined (take b name) last k (omega (arith, name-long, less)) (cut-front name b k less stands.scope can));
    }

-- a site begins as it does
pub keeps-all : (s : Site) (r : Row) → StandsAt s r → KeepsFront r.at.depth s s
keeps-all s r stands = record { file = refl; path = refl; name = refl; long_path = stands.path; long_name = stands.scope; cut = λ k less at. at }

-- the first of a row is the record there
pub part-next : (was now : Site) (r : Row) (part : Part) (records-parent : Option ℕ) (i index : ℕ) (ps rest : List Proto) → Entered was now r i (name_of (proto_of part))
    → parent_of part ≡ records-parent → records-parent ≡ parent_in r.records → index ≡ i → ps ≡ proto_of part ∷ rest
    → row (λ p. p) (surrounding was r) r.at.tag i i ps ≡ located now (record { index = index; part = part }) ∷ row (λ p. p) (surrounding was r) r.at.tag (suc i) (suc i) rest
part-next was now r part records-parent i index ps rest went part-parent parents is split =
    let here = surrounding was r in
    let up = part-parent ∙ parents in
    ap (row (λ p. p) here r.at.tag i i) split
    ∙ (λ j. shown_as (sym went.path j) (sym went.full_name j) (sym went.file j) (sym up j) (sym is j) (proto_of part) ∷ row (λ p. p) here r.at.tag (suc i) (suc i) rest)

-- the first row of a cursor stands at its site
pub stands-first : (c : Cursor) (ls : List Line) (r : Row) → IsSound c → lines c.rows ≡ line_in r ∷ ls → StandsAt c.site r
stands-first c ls r sound rows =
    let name = string_bytes c.site.name in
    (subst (AreNested (depth_of c.site.path.items name) name) rows sound.nested).0

-- a cursor has gone over a list of declarations
pub record Over (old new : Cursor) (ds : List Shown) : Type 0 where
  pub left_is : left old ≡ ds ++ left new
  pub on : GoesOn old new

pub goes-further : (old mid new : Cursor) → GoesOn old mid → GoesOn mid new → GoesOn old new
goes-further old mid new first second = record { sound = second.sound; counts_are = second.counts_are ∙ first.counts_are; fewer = omega (arith, first.fewer, second.fewer) }

-- over a row of parts, which is taken off
pub over-row : (old new : Cursor) (r : Row) → IsSound old → lines old.rows ≡ line_in r ∷ lines new.rows → AreParts (protos_in r.records) → KeepsFront r.at.depth old.site new.site → new.counts ≡ old.counts
    → Over old new (row_parts old.site r)
over-row old new r sound rows are keeps counts =
    let index = old.site.file in
    let path = old.site.path.items in
    let name = string_bytes old.site.name in
    let path' = new.site.path.items in
    let name' = string_bytes new.site.name in
    let ls = lines new.rows in
    let here = surrounding old.site r in
    let ds = row_parts old.site r in
    let nested = subst (AreNested (depth_of path name) name) rows sound.nested in
    let those = walk-parts here r.at.tag r.at.position old.counts true (protos_in r.records) are refl in
    let walk-is = parts-are here r.at.tag r.at.position old.counts (protos_in r.records) are in
    let others : map (rest_at index path name) ls ≡ map (rest_at index path' name') ls =
    sym (rests-same index r.at.depth name path path' name name' ls keeps.path keeps.name nested.1) in
    let same : left_of old.counts (map (rest_at index path name) ls) ≡ left new =
    ap (left_of old.counts) others ∙ (λ j. left_of (sym counts j) (map (rest_at (sym keeps.file j) path' name') ls)) in
    let is : left old ≡ ds ++ left new =
    ap (λ ms. left_of old.counts (map (rest_at index path name) ms)) rows
    ∙ (λ j. walk-is j ++ left_of (those.uncounted j) (map (rest_at index path name) ls))
    ∙ ap (λ more. ds ++ more) same in
    let uncounted : counted old.counts ds ≡ old.counts = ap (counted old.counts) (sym walk-is) ∙ those.uncounted in
    let room = room-back ds (left new) (subst (Room old.counts) is sound.room) in
    let long = length-append ds (left new) in
    record {
      left_is = is;
      on = record {
        sound = record {
          nested = nested-wider r.at.depth (depth_of path' name') name' ls keeps.long_path keeps.long_name (nested-renamed r.at.depth name name' ls keeps.cut nested.1);
          room = subst (λ k. Room k (left new)) (uncounted ∙ sym counts) room;
        };
        counts_are = (λ j. counted ((counts ∙ sym uncounted) j) (left new)) ∙ sym (counted-append old.counts ds (left new)) ∙ ap (counted old.counts) (sym is);
        fewer = omega (arith, ap length is, long);
      };
    }

-- or over nothing
pub over-none : (old : Cursor) (rows : Rows) → IsSound old → lines rows ≡ lines old.rows → Over old (record old { rows = rows }) []
over-none old rows sound same =
    let path = old.site.path.items in
    let name = string_bytes old.site.name in
    let is : left (record old { rows = rows }) ≡ left old = ap (λ ls. left_of old.counts (map (rest_at old.site.file path name) ls)) same in
    record {
      left_is = sym is;
      on = record {
        sound = record { nested = subst (AreNested (depth_of path name) name) (sym same) sound.nested; room = subst (Room old.counts) (sym is) sound.room };
        counts_are = ap (counted old.counts) is;
        fewer = omega (arith, ap length is);
      };
    }

-- a row of parts that was taken off, or none
abbrev pub Took : List Line → List Line → Row → Type 0
Took old new r = (old ≡ line_in r ∷ new) × AreParts (protos_in r.records)

pub took-row : (old new : List Line) (popped : Option Row) (r : Row) → popped ≡ Some r → MatchOption popped (new ≡ old) (Took old new) → Took old new r
took-row old new popped r is took = MatchOption-at_some (new ≡ old) (Took old new) r is took

pub took-none : (old new : List Line) (popped : Option Row) → popped ≡ None → MatchOption popped (new ≡ old) (Took old new) → new ≡ old
took-none old new popped is took = MatchOption-at_none (new ≡ old) (Took old new) is took

pub pops-parts : (old new : List Line) (popped : Option Row) → ((l : Line) × (ls : List Line) × (old ≡ l ∷ ls) × AreParts l.protos)
    → MatchOption popped ((old ≡ []) × (new ≡ [])) (λ row. old ≡ line_in row ∷ new) → MatchOption popped (new ≡ old) (Took old new)
pops-parts old new None begins took = took.1 ∙ sym took.0
pops-parts old new (Some r) begins took =
    let both : begins.0 ∷ begins.1 ≡ line_in r ∷ new = sym begins.2 ∙ took in
    let same : begins.0 ≡ line_in r = cc in
    (took, subst (λ (m : Line). AreParts m.protos) same begins.3)
