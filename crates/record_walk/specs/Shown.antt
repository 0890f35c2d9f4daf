-- A declaration with its record: what a file declares, where, and under which name.
use Rattle.std.specs.Prelude.{ℕ, suc, ◌-◌, ℤ, List, [], ◌∷◌, ◌++◌, length, take}
use Rattle.std.specs.List.{filter_map}
use Rattle.std.specs.Option.{option_map}
use Rattle.std.specs.declared.option.Option.{Option}
use Rattle.std.specs.declared.option.Option.TheVariants.{None, Some}
use Rattle.proto_types.specs.Names.{join}
use Rattle.proto_types.specs.Paths.{entry_path}
use Rattle.record_walk.specs.Protos.{Proto, of_file, name_of}
use Rattle.proto_types.specs.Readers.{text_of}
use Rattle.proto_types.specs.declared.file.FileDescriptorProto.{FileDescriptorProto}

-- a declaration with its record. A file, message, enum, service or extension has its index in the
-- pool, and any other its position in its list. The parent is the index of the innermost message,
-- enum or service around it
pub record Shown : Type 0 where
  pub file : ℕ
  pub parent : Option ℕ
  pub index : ℕ
  pub path : List ℤ
  pub full_name : List ℕ
  pub proto : Proto

-- what a declaration stands in: the file, the path there, the scope of names, and the index of it
-- where it has one
pub record Surrounding : Type 0 where
  pub file : ℕ
  pub path : List ℤ
  pub scope : List ℕ
  pub parent : Option ℕ

-- an entry of the list with a field number: its full name is its name joined to the scope around
-- it, and its path is that of the entry
abbrev pub shown : Surrounding → ℤ → ℕ → ℕ → Proto → Shown
shown here tag position index proto = record {
  file = here.file;
  parent = here.parent;
  index = index;
  path = entry_path here.path tag position;
  full_name = join here.scope (name_of proto);
  proto = proto;
}

-- what surrounds the parts of a declaration that are named inside it: its full name is their scope
abbrev pub inside : Shown → Surrounding
inside d = record { file = d.file; path = d.path; scope = d.full_name; parent = Some d.index }

-- the full name of a declaration with another name in place of its own: so the full name of a value
-- can be told by that of its enum
abbrev pub beside_name : Shown → List ℕ → List ℕ
beside_name d name = take (length d.full_name - length (name_of d.proto)) d.full_name ++ name

-- what surrounds the values of an enum: their scope is the one around the enum, so they are named
-- as if they stood beside it
abbrev pub beside : List ℕ → Shown → Surrounding
beside scope d = record { file = d.file; path = d.path; scope = scope; parent = Some d.index }

-- the entries of a list from a position on, indexed on from an index
abbrev pub row : {X : Type 0} → (X → Proto) → Surrounding → ℤ → ℕ → ℕ → List X → List Shown
row of here tag position index [] = []
row of here tag position index (x ∷ xs) =
    shown here tag position index (of x) ∷ row of here tag (suc position) (suc index) xs

-- the entries of a list, indexed by their positions
abbrev pub parts : {X : Type 0} → (X → Proto) → Surrounding → ℤ → List X → List Shown
parts of here tag xs = row of here tag 0 0 xs

-- the declarations of a list that have records of one kind, each with its record
abbrev pub of_kind : {X : Type 0} → (Proto → Option X) → List Shown → List (Shown × X)
of_kind pick ds = filter_map (λ d. option_map (λ x. (d, x)) (pick d.proto)) ds

-- a file as it is shown to a visitor: its full name is its file name, and its path is empty
abbrev pub file_shown : List ℤ → ℕ → FileDescriptorProto → Shown
file_shown path index f = record {
  file = index;
  parent = None;
  index = index;
  path = path;
  full_name = text_of f.name;
  proto = of_file f;
}

-- any other declaration as it is shown to a visitor
abbrev pub shown_as : List ℤ → List ℕ → ℕ → Option ℕ → ℕ → Proto → Shown
shown_as path full_name file parent index proto = record {
  file = file;
  parent = parent;
  index = index;
  path = path;
  full_name = full_name;
  proto = proto;
}
