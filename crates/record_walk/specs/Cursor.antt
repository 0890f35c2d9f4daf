-- What is left of the declarations in a file, by the lists that are still to be gone through.
use Rattle.std.specs.Prelude.{◌≡◌, ℕ, suc, ◌+◌, ◌≤◌, ℤ, List, [], ◌∷◌, ◌++◌, length, map, reverse}
use Rattle.std.specs.Prelude.{take, string_bytes}
use Rattle.std.specs.String.Boundary.{IsSplitPoint}
use Rattle.std.specs.declared.option.Option.{Option}
use Rattle.std.specs.declared.option.Option.TheVariants.{None, Some}
use Rattle.proto_types.specs.declared.tag.file.TheConstants as file
use Rattle.proto_types.specs.declared.tag.message.TheConstants as message
use Rattle.proto_types.specs.declared.tag.enum_.TheConstants as enumeration
use Rattle.proto_types.specs.declared.tag.service.TheConstants as service
use Rattle.proto_types.specs.declared.file.FileDescriptorProto.{FileDescriptorProto}
use Rattle.proto_types.specs.declared.message.DescriptorProto.{DescriptorProto, out-DescriptorProto}
use Rattle.record_walk.specs.declared.counts.Counts.{Counts}
use Rattle.record_walk.specs.declared.walking.cursor.Cursor.{Cursor}
use Rattle.record_walk.specs.declared.walking.located.Located.{Located}
use Rattle.record_walk.specs.declared.walking.part.Part.{Part}
use Rattle.record_walk.specs.declared.walking.row.Depth.{Depth}
use Rattle.record_walk.specs.declared.walking.row.EntryPosition.{EntryPosition}
use Rattle.record_walk.specs.declared.walking.row.Row.{Row}
use Rattle.record_walk.specs.declared.walking.rows.Rows.{Rows}
use Rattle.record_walk.specs.Counts.{counted, counting, list_limit}
use Rattle.record_walk.specs.Protos.{Proto, of_message, of_field, of_oneof, of_service, of_method}
use Rattle.record_walk.specs.Protos.{of_enum, of_value, of_extension}
use Rattle.record_walk.specs.Shown.{Shown, Surrounding, shown, inside, parts}
use Rattle.record_walk.specs.Declarations.{enum_walk, message_walk}
use Rattle.record_walk.specs.Walking.{Room, index_at, located, parent_in, parent_of, proto_of}
use Rattle.record_walk.specs.Walking.{protos_in}

-- what is left of a list, and how long the path and the scope are in which it stands
pub record Line : Type 0 where
  pub depth : Depth
  pub parent : Option ℕ
  pub tag : ℤ
  pub position : ℕ
  pub protos : List Proto

-- the line of records that stand at a position
abbrev pub line : EntryPosition → Option ℕ → List Proto → Line
line at parent protos = record {
  depth = at.depth;
  parent = parent;
  tag = at.tag;
  position = at.position;
  protos = protos;
}

-- the line of a row that the code keeps
abbrev pub line_in : Row → Line
line_in r = line r.at (parent_in r.records) (protos_in r.records)

-- the lists that are left, the next one first
abbrev pub lines : Rows → List Line
lines rows = map line_in (reverse rows.list.items)

-- lines with one more before them, unless a list is empty
abbrev pub stacked_by : List Proto → Line → List Line → List Line
stacked_by [] l ls = ls
stacked_by (_ ∷ _) l ls = l ∷ ls

-- lines with one more before them, unless it has no records
abbrev pub stacked : Line → List Line → List Line
stacked l ls = stacked_by l.protos l ls

-- the first record of the first list is taken off, and what is left of that list comes next
abbrev pub Steps : Part → EntryPosition → List Line → List Line → Type 0
Steps part at old new =
    (rest : List Proto) × (ls : List Line)
    × (old ≡ line at (parent_of part) (proto_of part ∷ rest) ∷ ls)
    × (new ≡ stacked (line (record at { position = at.position + 1 }) (parent_of part) rest) ls)

-- lines with further ones before them, those without records left out
abbrev pub stacked_all : List Line → List Line → List Line
stacked_all [] ls = ls
stacked_all (l ∷ more) ls = stacked l (stacked_all more ls)

-- the line of a whole list that stands in a message, an enum or a service
abbrev pub whole : Depth → Option ℕ → ℤ → List Proto → Line
whole depth parent tag protos = record {
  depth = depth;
  parent = parent;
  tag = tag;
  position = 0;
  protos = protos;
}

-- the lists of a message, each within the scope of its full name
abbrev pub message_lines : Depth → ℕ → DescriptorProto → List Line
message_lines depth index m = let m = out-DescriptorProto m in
    whole depth (Some index) message.ONEOF_DECL (map of_oneof m.oneof_decl)
    ∷ whole depth (Some index) message.FIELD (map of_field m.field)
    ∷ whole depth (Some index) message.NESTED_TYPE (map of_message m.nested_type)
    ∷ whole depth (Some index) message.ENUM_TYPE (map of_enum m.enum_type)
    ∷ whole depth (Some index) message.EXTENSION (map of_extension m.extension) ∷ []

-- the lists of any record with an index, of which the scope around it has a length
abbrev pub inner_lines : Depth → ℕ → ℕ → Proto → List Line
inner_lines depth around index (of_message m) = message_lines depth index m
inner_lines depth around index (of_enum e) =
    whole (record depth { scope = around }) (Some index) enumeration.VALUE (map of_value e.value)
    ∷ []
inner_lines depth around index (of_service s) =
    whole depth (Some index) service.METHOD (map of_method s.method) ∷ []
inner_lines depth around index _ = []

-- the lists of a file
abbrev pub file_lines : Depth → FileDescriptorProto → List Line
file_lines depth f =
    whole depth None file.MESSAGE_TYPE (map of_message f.message_type)
    ∷ whole depth None file.ENUM_TYPE (map of_enum f.enum_type)
    ∷ whole depth None file.SERVICE (map of_service f.service)
    ∷ whole depth None file.EXTENSION (map of_extension f.extension) ∷ []

-- what is left of a list, and what it stands in
pub record Rest : Type 0 where
  pub here : Surrounding
  pub tag : ℤ
  pub position : ℕ
  pub protos : List Proto

-- what is left of a line, in the path and the full name that a cursor has, cut to its depth
abbrev pub rest_at : ℕ → List ℤ → List ℕ → Line → Rest
rest_at index path name l = record {
  here = record {
    file = index;
    path = take l.depth.path path;
    scope = take l.depth.scope name;
    parent = l.parent;
  };
  tag = l.tag;
  position = l.position;
  protos = l.protos;
}

-- a record with all that stands in it, numbered on from counts
abbrev pub proto_walk : Surrounding → ℤ → ℕ → Counts → Proto → List Shown
proto_walk here tag position base (of_message m) = message_walk here tag position base m
proto_walk here tag position base (of_enum e) = enum_walk here tag position base.enums e
proto_walk here tag position base (of_service s) =
    let d = shown here tag position base.services (of_service s) in d
    ∷ parts of_method (inside d) service.METHOD s.method
proto_walk here tag position base p = shown here tag position (index_at base position p) p ∷ []

-- the records of a list from a position on, each with all that stands in it, numbered on from
-- counts
abbrev pub protos_walk : Surrounding → ℤ → ℕ → Counts → List Proto → List Shown
protos_walk here tag position base [] = []
protos_walk here tag position base (p ∷ ps) =
    let first = proto_walk here tag position base p in
    first ++ protos_walk here tag (suc position) (counted base first) ps

-- the declarations of lists that are left, one list after another, numbered on from counts
abbrev pub left_of : Counts → List Rest → List Shown
left_of base [] = []
left_of base (r ∷ rs) =
    let first = protos_walk r.here r.tag r.position base r.protos in first
    ++ left_of (counted base first) rs

-- the declarations that are still to come of a cursor
abbrev pub left : Cursor → List Shown
left c = left_of c.counts
    (map (rest_at c.site.file c.site.path.items (string_bytes c.site.name)) (lines c.rows))

-- a list stands within a depth, where the full name can be cut, and is short enough
pub record Stands (around : Depth) (name : List ℕ) (l : Line) : Type 0 where
  pub path : l.depth.path ≤ around.path
  pub scope : l.depth.scope ≤ around.scope
  pub cut : IsSplitPoint name l.depth.scope
  pub short : l.position + length l.protos ≤ list_limit

-- each list stands within the depth of the one before it
abbrev pub AreNested : Depth → List ℕ → List Line → Type 0
AreNested around name [] = Unit {0}
AreNested around name (l ∷ ls) = Stands around name l × AreNested l.depth name ls

-- the lengths of a path and of a full name
abbrev pub depth_of : List ℤ → List ℕ → Depth
depth_of path name = record { path = length path; scope = length name }

-- what is true of each cursor: its path and its name begin with those of each list, and there is
-- room for what is left
pub record IsSound (c : Cursor) : Type 0 where
  pub nested : AreNested (depth_of c.site.path.items (string_bytes c.site.name))
      (string_bytes c.site.name) (lines c.rows)
  pub room : Room c.counts (left c)

-- a cursor stands before a list of declarations
pub record Begins (base : Counts) (all : List Shown) (c : Cursor) : Type 0 where
  pub sound : IsSound c
  pub left_is : left c ≡ all
  pub counts_are : c.counts ≡ base

-- the first of what was left has come, and the rest is left
pub record Comes (old new : Cursor) (d : Shown) : Type 0 where
  pub sound : IsSound new
  pub left_is : left old ≡ d ∷ left new
  pub counts_are : new.counts ≡ counting old.counts d.proto

-- a cursor has gone on: the first of what was left has come, or nothing was left, and it stays as
-- it was
abbrev pub Advances : Cursor → Cursor → Option Located → Type 0
Advances old new None = (left old ≡ []) × (new.counts ≡ old.counts)
Advances old new (Some d) = Comes old new (located new.site d)
