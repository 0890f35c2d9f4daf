-- What the first pass makes of one more declaration: what its definition says of that one alone,
-- behind what is known by then.
use Rattle.std.specs.Prelude.{◌≡◌, ◌≤◌, ℕ, true, List, [], ◌∷◌, ◌++◌}
use Rattle.std.specs.List.{AllByRecursion}
use Rattle.pool_types.specs.Contents.{ByText, Contents, no_contents}
use Rattle.pool_types.specs.declared.contents.definition.Definition.{Definition}
use Rattle.proto_types.specs.declared.file.FileDescriptorProto.{FileDescriptorProto}
use Rattle.record_walk.specs.Visitor.{Progress}
use Rattle.record_walk.specs.Shown.{Shown}
use Rattle.record_walk.specs.Telling.{Telling, with_faults}
use Rattle.name_tables.specs.Entries.{Entry, names_with}
use Rattle.record_walk.specs.Counts.{lists_fit}
use Rattle.name_pass.specs.Names.{entries_of, file_entries_of}
use Rattle.name_pass.specs.FirstPass.{clashes, file_name_faults, first_faults, holder}

-- the state of the first pass: what names and names of files mean by now, and what is told so far
pub record NameState : Type 0 where
  pub names : ByText Definition
  pub file_names : ByText ℕ
  pub faults : Telling

-- the state of the first pass with these names, where this is told
abbrev pub state_at : ByText Definition → ByText ℕ → Telling → NameState
state_at names file_names faults = record {
  names = names;
  file_names = file_names;
  faults = faults;
}

-- the names that are known by now, as a pool would have them
abbrev pub known : NameState → Contents
known state = record no_contents { names = state.names; file_names = state.file_names }

-- the state after entries: their names are known, where they are new, and their clashes are faults
abbrev pub entered : List FileDescriptorProto → NameState → List Entry → NameState
entered files state es = record state {
  names = names_with state.names es;
  faults = with_faults state.faults (clashes files state.names [] es);
}

-- the state after the name of one more file
abbrev pub file_named : NameState → List ℕ → ℕ → NameState
file_named state name index = record state {
  file_names = names_with state.file_names ((name, index) ∷ []);
  faults = with_faults state.faults (file_name_faults (holder state.file_names [] name) name);
}

-- the state after one more declaration: the names that it enters are known, and what it breaks
-- behind what was known is a fault
abbrev pub name_step : List FileDescriptorProto → NameState → Shown → NameState
name_step files state d = record {
  names = names_with state.names (entries_of d);
  file_names = names_with state.file_names (file_entries_of d);
  faults = with_faults state.faults (first_faults files (known state) [] d);
}

-- declarations lie in files from an index on, and no list of these is too long; the first pass is
-- shown such lists
abbrev pub CanBeEntered : ℕ → List Shown → Type 0
CanBeEntered first ds = AllByRecursion (λ d. (first ≤ d.file) × (lists_fit d.proto ≡ true)) ds

-- law: the front of a list of declarations that can be entered is such a list too
pub front-entered : (first : ℕ) (ds es : List Shown) → CanBeEntered first (ds ++ es)
    → CanBeEntered first ds
front-entered first [] es all = tt
front-entered first (d ∷ ds) es all = (all.0, front-entered first ds es all.1)

-- what a visitor shows in a state of the first pass
abbrev pub name_progress : NameState → Progress
name_progress state = record { contents = known state; faults = state.faults; listed = [] }
