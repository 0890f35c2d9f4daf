-- The parts of declarations: fields, oneofs, methods and values, which a walk may pass over.
use Rattle.std.specs.Prelude.{◌≡◌, ◌↔◌, ℕ, ◌≤◌, Bool, true, false, List, [], ◌∷◌, ◌++◌, length}
use Rattle.std.specs.Prelude.{take, string_bytes}
use Rattle.std.specs.String.Boundary.{IsSplitPoint}
use Rattle.std.specs.List.{AllByRecursion}
use Rattle.std.specs.declared.option.Option.{Option}
use Rattle.record_walk.specs.declared.walking.cursor.Cursor.{Cursor}
use Rattle.record_walk.specs.declared.walking.located.Located.{Located}
use Rattle.record_walk.specs.declared.walking.records.Records.{Records}
use Rattle.record_walk.specs.declared.walking.records.Records.TheVariants as records
use Rattle.record_walk.specs.declared.walking.row.Depth.{Depth}
use Rattle.record_walk.specs.declared.walking.row.Row.{Row}
use Rattle.record_walk.specs.declared.walking.site.Site.{Site}
use Rattle.record_walk.specs.Counts.{counted}
use Rattle.record_walk.specs.Cursor.{Advances, IsSound, Line, Stands, depth_of, left, line_in}
use Rattle.record_walk.specs.Cursor.{rest_at}
use Rattle.record_walk.specs.Protos.{Proto, of_field, of_oneof, of_method, of_value}
use Rattle.record_walk.specs.Shown.{Shown, Surrounding, row}
use Rattle.record_walk.specs.Visitor.{Progress}
use Rattle.record_walk.specs.Walking.{protos_in}

-- whether a record is a part of the one that it stands in
abbrev pub is_part : Proto → Bool
is_part (of_field _) = true
is_part (of_oneof _) = true
is_part (of_method _) = true
is_part (of_value _) = true
is_part _ = false

-- whether the records of a list are parts
abbrev pub hold_parts : Records → Bool
hold_parts (records.Fields _ _) = true
hold_parts (records.Oneofs _ _) = true
hold_parts (records.Methods _ _) = true
hold_parts (records.EnumValues _ _) = true
hold_parts _ = false

-- parts change nothing of what visitors show, nor, where they may be shown, of what else may be
abbrev pub PartsChangeNothing : {V : Type 0} → (V → List Shown → Progress)
    → (V → List Shown → Type 0) → Type 0
PartsChangeNothing {V} after ready =
    (v : V) (d : Shown) (rest : List Shown) → is_part d.proto ≡ true → ready v (d ∷ [])
    → (after v (d ∷ rest) ≡ after v rest) × (ready v (d ∷ rest) ↔ ready v rest)

-- all records are parts
abbrev pub AreParts : List Proto → Type 0
AreParts ps = AllByRecursion (λ p. is_part p ≡ true) ps

-- lists of parts stood before the others, and are taken off where that is wanted
abbrev pub PassesLists : Bool → List Line → List Line → Type 0
PassesLists wanted old new =
    (more : List Line) × (old ≡ more ++ new)
    × AllByRecursion (λ l. AreParts l.protos × (wanted ≡ true)) more

-- a cursor has passed over parts, where that is wanted
pub record Passes (wanted : Bool) (old new : Cursor) : Type 0 where
  pub sound : IsSound new
  pub parts : List Shown
  pub left_is : left old ≡ parts ++ left new
  pub are_parts : AllByRecursion (λ d. (is_part d.proto ≡ true) × (wanted ≡ true)) parts
  pub counts_are : new.counts ≡ old.counts
  pub uncounted : counted old.counts parts ≡ old.counts

-- it has passed over parts, where that is wanted, and gone on
abbrev pub AdvancesPast : Bool → Cursor → Cursor → Option Located → Type 0
AdvancesPast wanted old new next =
    (between : Cursor) × Passes wanted old between × Advances between new next

-- a cursor has gone on, and counted all that it went over
pub record GoesOn (old new : Cursor) : Type 0 where
  pub sound : IsSound new
  pub counts_are : counted new.counts (left new) ≡ counted old.counts (left old)
  pub fewer : length (left new) ≤ length (left old)

-- a row stands in the path and the full name of a site
abbrev pub StandsAt : Site → Row → Type 0
StandsAt s r = Stands (depth_of s.path.items (string_bytes s.name)) (string_bytes s.name)
    (line_in r)

-- what surrounds the records of a row that stands at a site
abbrev pub surrounding : Site → Row → Surrounding
surrounding s r = (rest_at s.file s.path.items (string_bytes s.name) (line_in r)).here

-- the parts of a row that stands at a site, each as the declaration that it is
abbrev pub row_parts : Site → Row → List Shown
row_parts s r =
    row (λ p. p) (surrounding s r) r.at.tag r.at.position r.at.position (protos_in r.records)

-- a site is in the same file as before, and begins as before up to a depth
pub record KeepsFront (depth : Depth) (old new : Site) : Type 0 where
  pub file : new.file ≡ old.file
  pub path : take depth.path new.path.items ≡ take depth.path old.path.items
  pub name : take depth.scope (string_bytes new.name) ≡ take depth.scope (string_bytes old.name)
  pub long_path : depth.path ≤ length new.path.items
  pub long_name : depth.scope ≤ length (string_bytes new.name)
  pub cut : (k : ℕ) → k ≤ depth.scope → IsSplitPoint (string_bytes old.name) k
      → IsSplitPoint (string_bytes new.name) k
