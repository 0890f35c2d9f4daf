-- The faults of the first pass: of files by themselves, of names that are defined already, and of
-- messages and enums by themselves.
use Rattle.std.specs.Prelude.{ℕ, List, [], ◌∷◌, ◌++◌, ◌&&◌, is_some, if◌then◌else◌}
use Rattle.std.specs.FinMap as finite
use Rattle.std.specs.Option.{option_or}
use Rattle.std.specs.declared.option.Option.{Option}
use Rattle.std.specs.declared.option.Option.TheVariants.{None, Some}
use Rattle.pool_types.specs.Contents.{ByText, Contents}
use Rattle.pool_types.specs.declared.contents.definition.Definition.{Definition}
use Rattle.proto_types.specs.declared.file.FileDescriptorProto.{FileDescriptorProto}
use Rattle.pool_faults.specs.declared.fault.DescriptorErrorKind.{DescriptorErrorKind}
use Rattle.pool_faults.specs.declared.fault.DescriptorErrorKind.TheVariants as fault
use Rattle.pool_faults.specs.Labels.{label_in}
use Rattle.name_tables.specs.Entries.{Entry, first_of}
use Rattle.plain_data.specs.Lists.{after_each, flat_map_after, only_if}
use Rattle.proto_types.specs.Readers.{text_of}
use Rattle.record_walk.specs.Protos.{of_file, of_message, of_enum}
use Rattle.record_walk.specs.Shown.{Shown}
use Rattle.pool_types.specs.Definition.{is_package}
use Rattle.name_pass.specs.Syntax.{syntax_faults}
use Rattle.name_pass.specs.CamelCase.{message_own_faults}
use Rattle.name_pass.specs.Enumeration.{enum_faults}
use Rattle.name_pass.specs.Names.{entries_of, entries, file_entries}

-- what a name means already: what is known of it, else what the first entry before it says
abbrev pub holder : {X : Type 0} → ByText X → List (List ℕ × X) → List ℕ → Option X
holder known before name = option_or (finite.get known name) (first_of before name)

-- the fault of a new file whose name has a holder
abbrev pub file_name_faults : Option ℕ → List ℕ → List DescriptorErrorKind
file_name_faults held name = only_if (is_some held) (fault.DuplicateFileName name)

-- the fault of an entry whose name has a holder, which is told first; a package may be entered
-- again as a package
abbrev pub holder_faults : List FileDescriptorProto → Option Definition → Entry
    → List DescriptorErrorKind
holder_faults files None e = []
holder_faults files (Some held) e =
    if is_package held.kind && is_package e.1.kind then []
    else fault.DuplicateName e.0 (label_in files held.file held.path)
    (label_in files e.1.file e.1.path) ∷ []

-- the faults of entries in turn, behind known names and the entries before them
abbrev pub clashes : List FileDescriptorProto → ByText Definition → List Entry → List Entry
    → List DescriptorErrorKind
clashes files known before es =
    after_each (λ earlier e. holder_faults files (holder known earlier e.0) e) before es

-- what a file breaks before the clashes of its packages: that its syntax is unknown, and then that
-- its name is a duplicate
abbrev pub file_faults : List FileDescriptorProto → ByText ℕ → List (List ℕ × ℕ) → Shown
    → List DescriptorErrorKind
file_faults files known before d = elim d.proto [
  | of_file f ↦ syntax_faults files d.file f
      ++ file_name_faults (holder known before (text_of f.name)) (text_of f.name)
  | _ ↦ []
]

-- what a message or an enum breaks by itself, behind the clash of its name
abbrev pub shape_faults : List FileDescriptorProto → Shown → List DescriptorErrorKind
shape_faults files d = elim d.proto [
  | of_message m ↦ message_own_faults files d.file d.path m
  | of_enum e ↦ enum_faults files d.file d.path e
  | _ ↦ []
]

-- what a declaration breaks in the first pass, behind a pool and after earlier declarations
abbrev pub first_faults : List FileDescriptorProto → Contents → List Shown → Shown
    → List DescriptorErrorKind
first_faults files p earlier d =
    file_faults files p.file_names (file_entries earlier) d
    ++ clashes files p.names (entries earlier) (entries_of d)
    ++ shape_faults files d

-- the faults of the first pass over declarations behind a pool, in a row
abbrev pub first_pass : List FileDescriptorProto → Contents → List Shown → List DescriptorErrorKind
first_pass files p ds = flat_map_after (first_faults files p) ds
