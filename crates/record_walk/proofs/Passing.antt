-- How a cursor passes over lists of parts, which no count counts.
use Rattle.std.proofs.Common.{◌≡◌, ◌<◌, ◌-◌, ℕ, suc, ℤ, Bool, true, Option, None, Some, List, [], ◌∷◌, ◌++◌, length, map, reverse, string_bytes, refl, ap, sym, subst, ◌∙◌, append_assoc, arith}
use Rattle.std.proofs.lemmas.List.{reverse-append}
use Rattle.std.proofs.lemmas.Option.{none-some, same_Some}
use Rattle.std.specs.Option.{MatchOption}
use Rattle.std.specs.List.{AllByRecursion, slice_get}
use Rattle.record_walk.specs.declared.counts.Counts.{Counts}
use Rattle.record_walk.specs.declared.walking.cursor.Cursor.{Cursor}
use Rattle.record_walk.specs.declared.walking.row.Depth.{Depth}
use Rattle.record_walk.specs.declared.walking.row.Row.{Row}
use Rattle.record_walk.specs.declared.walking.records.Records.{Records}
use Rattle.record_walk.specs.declared.walking.records.Records.TheVariants as records
use Rattle.record_walk.specs.Counts.{counted}
use Rattle.record_walk.specs.Cursor.{AreNested, IsSound, Line, depth_of, left, left_of, line_in, lines, protos_walk, rest_at}
use Rattle.record_walk.specs.Parts.{AreParts, Passes, PassesLists, hold_parts, is_part}
use Rattle.record_walk.specs.Protos.{Proto, of_file, of_message, of_field, of_oneof, of_service, of_method, of_enum, of_value, of_extension}
use Rattle.record_walk.specs.Shown.{Shown, Surrounding}
use Rattle.record_walk.specs.Walking.{Room, protos_in}
use Rattle.record_walk.proofs.Counted.{counted-append}
use Rattle.record_walk.proofs.Cursors.{nested-wider}
use Rattle.record_walk.proofs.Listings.{room-back}

-- the walk of parts shows them alone, and counts none
pub record Parts (k : Counts) (wanted : Bool) (ds : List Shown) : Type 0 where
  pub are : AllByRecursion (λ d. (is_part d.proto ≡ true) × (wanted ≡ true)) ds
  pub uncounted : counted k ds ≡ k

no-parts : (k : Counts) (wanted : Bool) → Parts k wanted []
no-parts k wanted = record { are = tt; uncounted = refl }

all-both : (wanted : Bool) (ds es : List Shown) → AllByRecursion (λ d. (is_part d.proto ≡ true) × (wanted ≡ true)) ds → AllByRecursion (λ d. (is_part d.proto ≡ true) × (wanted ≡ true)) es
    → AllByRecursion (λ d. (is_part d.proto ≡ true) × (wanted ≡ true)) (ds ++ es)
all-both wanted [] es first second = second
all-both wanted (d ∷ ds) es first second = (first.0, all-both wanted ds es first.1 second)

both-parts : (k : Counts) (wanted : Bool) (ds es : List Shown) → Parts k wanted ds → Parts k wanted es → Parts k wanted (ds ++ es)
both-parts k wanted ds es first second = record {
  are = all-both wanted ds es first.are second.are;
  uncounted = counted-append k ds es ∙ ap (λ n. counted n es) first.uncounted ∙ second.uncounted;
}

pub walk-parts : (here : Surrounding) (tag : ℤ) (i : ℕ) (k : Counts) (wanted : Bool) (ps : List Proto) → AreParts ps → wanted ≡ true → Parts k wanted (protos_walk here tag i k ps)
walk-parts here tag i k wanted [] are want = no-parts k wanted
walk-parts here tag i k wanted (of_field f ∷ ps) are want =
    let rest = walk-parts here tag (suc i) k wanted ps are.1 want in record { are = ((refl, want), rest.are); uncounted = rest.uncounted }
walk-parts here tag i k wanted (of_oneof o ∷ ps) are want =
    let rest = walk-parts here tag (suc i) k wanted ps are.1 want in record { are = ((refl, want), rest.are); uncounted = rest.uncounted }
walk-parts here tag i k wanted (of_method m ∷ ps) are want =
    let rest = walk-parts here tag (suc i) k wanted ps are.1 want in record { are = ((refl, want), rest.are); uncounted = rest.uncounted }
walk-parts here tag i k wanted (of_value v ∷ ps) are want =
    let rest = walk-parts here tag (suc i) k wanted ps are.1 want in record { are = ((refl, want), rest.are); uncounted = rest.uncounted }
walk-parts here tag i k wanted (of_file f ∷ ps) are want = absurd (cc)
walk-parts here tag i k wanted (of_message m ∷ ps) are want = absurd (cc)
walk-parts here tag i k wanted (of_service s ∷ ps) are want = absurd (cc)
walk-parts here tag i k wanted (of_enum e ∷ ps) are want = absurd (cc)
walk-parts here tag i k wanted (of_extension x ∷ ps) are want = absurd (cc)

parts-row : {X : Type 0} (of : X → Proto) → ((x : X) → is_part (of x) ≡ true) → (xs : List X) → AreParts (map of xs)
parts-row of part [] = tt
parts-row of part (x ∷ xs) = (part x, parts-row of part xs)

-- the records of a list of parts
pub parts-in : (rs : Records) → hold_parts rs ≡ true → AreParts (protos_in rs)
parts-in (records.Fields fs _) want = parts-row of_field (λ _. refl) fs.now
parts-in (records.Oneofs os _) want = parts-row of_oneof (λ _. refl) os.now
parts-in (records.Methods ms _) want = parts-row of_method (λ _. refl) ms.now
parts-in (records.EnumValues vs _) want = parts-row of_value (λ _. refl) vs.now
parts-in (records.Messages ms _) want = absurd (cc)
parts-in (records.Services ss) want = absurd (cc)
parts-in (records.Enums es _) want = absurd (cc)
parts-in (records.Extensions xs _) want = absurd (cc)

-- lists that were taken off, and the others
module _ (index : ℕ) (path : List ℤ) (name : List ℕ) (k : Counts) (wanted : Bool) where
  abbrev left-in : List Line → List Shown
  left-in ls = left_of k (map (rest_at index path name) ls)

  pub record Passed (more ls : List Line) : Type 0 where
    pub shown-parts : List Shown
    pub is : left-in (more ++ ls) ≡ shown-parts ++ left-in ls
    pub parts : Parts k wanted shown-parts

  pub passed : (more ls : List Line) → AllByRecursion (λ l. AreParts l.protos × (wanted ≡ true)) more → Passed more ls
  passed [] ls all = record { shown-parts = []; is = refl; parts = no-parts k wanted }
  passed (l ∷ more) ls all =
      let r = rest_at index path name l in
      let first = protos_walk r.here r.tag r.position k r.protos in
      let those = walk-parts r.here r.tag r.position k wanted l.protos all.0.0 all.0.1 in
      let rest = passed more ls all.1 in
      record {
        shown-parts = first ++ rest.shown-parts;
        is = ap (λ n. first ++ left_of n (map (rest_at index path name) (more ++ ls))) those.uncounted ∙ ap (λ ds. first ++ ds) rest.is ∙ sym (append_assoc first rest.shown-parts (left-in ls));
        parts = both-parts k wanted first rest.shown-parts those rest.parts;
      }

nested-past : (a : Depth) (name : List ℕ) (more ls : List Line) → AreNested a name (more ++ ls) → AreNested a name ls
nested-past a name [] ls nested = nested
nested-past a name (l ∷ more) ls nested = nested-wider l.depth a name ls nested.0.path nested.0.scope (nested-past l.depth name more ls nested.1)

-- a cursor that has passed over them
pub passes : (wanted : Bool) (old new : Cursor) → IsSound old → new.site ≡ old.site → new.counts ≡ old.counts → PassesLists wanted (lines old.rows) (lines new.rows) → Passes wanted old new
passes wanted old new sound site counts lists =
    let index = old.site.file in
    let path = old.site.path.items in
    let name = string_bytes old.site.name in
    let ls = lines new.rows in
    let over = passed index path name old.counts wanted lists.0 ls lists.2 in
    let same : left-in index path name old.counts wanted ls ≡ left new =
    λ j. left_of (sym counts j) (map (rest_at (sym site j).file (sym site j).path.items (string_bytes (sym site j).name)) ls) in
    let is : left old ≡ over.shown-parts ++ left new =
    ap (λ ms. left_of old.counts (map (rest_at index path name) ms)) lists.1 ∙ over.is ∙ ap (λ ds. over.shown-parts ++ ds) same in
    let room = room-back over.shown-parts (left new) (subst (Room old.counts) is sound.room) in
    record {
      sound = record {
        nested = subst (λ (s : _). AreNested (depth_of s.path.items (string_bytes s.name)) (string_bytes s.name) ls) (sym site)
            (nested-past (depth_of path name) name lists.0 ls (subst (AreNested (depth_of path name) name) lists.1 sound.nested));
        room = subst (λ n. Room n (left new)) (over.parts.uncounted ∙ sym counts) room;
      };
      parts = over.shown-parts;
      left_is = is;
      are_parts = over.parts.are;
      counts_are = counts;
      uncounted = over.parts.uncounted;
    }

-- what is counted behind them
pub passes-counts : (wanted : Bool) (old new : Cursor) → (over : Passes wanted old new) → counted new.counts (left new) ≡ counted old.counts (left old)
passes-counts wanted old new over =
    (λ j. counted ((over.counts_are ∙ sym over.uncounted) j) (left new)) ∙ sym (counted-append old.counts over.parts (left new)) ∙ ap (counted old.counts) (sym over.left_is)

-- the last row of the code is the first line
last-split : (x : Row) (xs : List Row) (row : Row) → slice_get (x ∷ xs) (length xs) ≡ Some row → (front : List Row) × (x ∷ xs ≡ front ++ row ∷ [])
last-split x [] row is = ([], ap (λ y. y ∷ []) (same_Some x row is))
last-split x (y ∷ ys) row is = let rest = last-split y ys row is in (x ∷ rest.0, ap (λ zs. x ∷ zs) rest.1)

pub last-line : (items : List Row) (row : Row) → slice_get items (length items - 1) ≡ Some row → (ls : List Line) × (map line_in (reverse items) ≡ line_in row ∷ ls)
last-line [] row is = absurd (none-some row is)
last-line (x ∷ xs) row is =
    let last : length (x ∷ xs) - 1 ≡ length xs = omega arith in
    let split = last-split x xs row (subst (λ k. slice_get (x ∷ xs) k ≡ Some row) last is) in
    (map line_in (reverse split.0), ap (λ rows. map line_in (reverse rows)) split.1 ∙ ap (map line_in) (reverse-append split.0 (row ∷ [])))

-- one list more is taken off
pub passes-more : (wanted : Bool) (old mid new : List Line) (popped : Option Row) → PassesLists wanted old mid → (begins : (l : Line) × (ls : List Line) × (mid ≡ l ∷ ls) × AreParts l.protos)
    → wanted ≡ true → MatchOption popped ((mid ≡ []) × (new ≡ [])) (λ row. mid ≡ line_in row ∷ new) → PassesLists wanted old new
passes-more wanted old mid new None so_far begins want took = absurd (let none = sym begins.2 ∙ took.0 in cc)
passes-more wanted old mid new (Some row) so_far begins want took =
    let l = line_in row in
    let both : begins.0 ∷ begins.1 ≡ l ∷ new = sym begins.2 ∙ took in
    let same : begins.0 ≡ l = cc in
    (so_far.0 ++ l ∷ [], so_far.1 ∙ ap (λ ls. so_far.0 ++ ls) took ∙ sym (append_assoc so_far.0 (l ∷ []) new), all-more so_far.0 so_far.2 (subst (λ (m : Line). AreParts m.protos) same begins.3))
  where
    all-more : (more : List Line) → AllByRecursion (λ m. AreParts m.protos × (wanted ≡ true)) more → AreParts (line_in row).protos → AllByRecursion (λ m. AreParts m.protos × (wanted ≡ true)) (more ++ line_in row ∷ [])
    all-more [] all here = ((here, want), tt)
    all-more (m ∷ more) all here = (all.0, all-more more all.1 here)

pub fewer-left : (mid new : List Line) (popped : Option Row) → (begins : (l : Line) × (ls : List Line) × (mid ≡ l ∷ ls) × AreParts l.protos)
    → MatchOption popped ((mid ≡ []) × (new ≡ [])) (λ row. mid ≡ line_in row ∷ new) → length new < length mid
fewer-left mid new None begins took = absurd (let none = sym begins.2 ∙ took.0 in cc)
fewer-left mid new (Some row) begins took = let long = ap length took in omega (arith, long)
