-- What the first pass holds, as its definitions have it.
use Rattle.std.specs.Prelude.{◌≡◌, ◌<◌, ℕ, suc, List, [], ◌∷◌, ◌++◌, get_or, length, map, take}
use Rattle.name_tables.specs.NameTables.{file_names_before, without_files_from}
use Rattle.pool_types.specs.Contents.{Contents, no_contents}
use Rattle.proto_types.specs.declared.file.FileDescriptorProto.{FileDescriptorProto}
use Rattle.proto_types.specs.Names.{join}
use Rattle.name_pass.specs.declared.names.NameInScope.{NameInScope}
use Rattle.name_pass.specs.declared.names.NameVisitor.{NameVisitor}
use Rattle.record_walk.specs.Faults.{told_in}
use Rattle.record_walk.specs.Shown.{Shown}
use Rattle.name_pass.specs.Scopes.{FollowScopes, front-follows}
use Rattle.name_pass.specs.Steps.{CanBeEntered, NameState, front-entered}

-- the state of the first pass that a visitor of the code has reached
abbrev pub state_of : NameVisitor → NameState
state_of v = record {
  names = v.names.now.0;
  file_names = v.file_names.now;
  faults = told_in v.faults.now;
}

-- the scopes that are open
abbrev pub scopes_of : NameVisitor → List (List ℕ)
scopes_of v = v.names.now.1

-- the scope with the level of a name is open, and the full name is the name in it
abbrev pub StandsIn : List (List ℕ) → NameInScope → Type 0
StandsIn scopes n = (n.level < length scopes)
    × (n.full_name.now ≡ join (get_or scopes n.level []) n.name.now)

-- the scopes that are open once a name has come: those up to its own, and that of the full name
abbrev pub opened : List (List ℕ) → NameInScope → List (List ℕ)
opened scopes n = take (suc n.level) scopes ++ n.full_name.now ∷ []

-- the records of the files that the labels of a visitor name
abbrev pub records_of : NameVisitor → List FileDescriptorProto
records_of v = map (λ f. f.raw) v.faults.now.labels

-- the index of the first new file
abbrev pub first_new : NameVisitor → ℕ
first_new v = length (take v.first v.faults.now.labels)

-- what a roll-back leaves of the files and the names that a visitor holds
abbrev pub kept_of : NameVisitor → Contents
kept_of v = record no_contents {
  files = take v.first v.faults.now.labels;
  names = without_files_from (first_new v) v.names.now.0;
  file_names = file_names_before (first_new v) v.file_names.now;
}

-- the names of what a visitor borrows
abbrev pub borrows_of : NameVisitor → List ℕ
borrows_of v = v.names.ghost_name ∷ v.file_names.ghost_name ∷ v.faults.ghost_name ∷ []

-- nothing of a visitor changes but names, scopes and faults, and what a roll-back leaves stays
pub record Stays (old new : NameVisitor) : Type 0 where
  pub files : new.faults.now.labels ≡ old.faults.now.labels
  pub kept : kept_of new ≡ kept_of old
  pub borrows : borrows_of new ≡ borrows_of old

-- a visitor may be shown declarations that can be entered and follow its open scopes
abbrev pub IsReady : NameVisitor → List Shown → Type 0
IsReady v ds = CanBeEntered (first_new v) ds × FollowScopes (scopes_of v) ds

-- law: and so the front of a list that it may be shown
pub front-ready : (v : NameVisitor) (ds es : List Shown) → IsReady v (ds ++ es) → IsReady v ds
front-ready v ds es all = (
  front-entered (first_new v) ds es all.0,
  front-follows (scopes_of v) ds es all.1,
)
