use Rattle.std.proofs.Common.{◌≡◌, ◌<◌, ◌≤◌, ℕ, List, Option, Result, Ok, Err, None, ap, length, sym, subst, ◌∙◌}
use Rattle.std.specs.FinMap as map
use Rattle.std.specs.Result.{OnOk, OnErr}
use Rattle.std.proofs.lemmas.Result.{err_from_is_err_and}
use Rattle.name_tables.specs.Tree.{Branch, InsertsChild, IsChild, with_root}
use Rattle.name_tables.proofs.Paths.{child-inside}
use Rattle.name_tables.proofs.TreeChanges.{keeps-inserted}
use Rattle.pool_types.specs.Contents.{ByText}
use Rattle.name_tables.specs.Entered.{Enters, value_at}
use Rattle.name_tables.specs.FileNames.{AreFileNames, files_of}
use Rattle.name_tables.proofs.NamedFiles.{file_names-entered, file_names-inserted, file_names-same, file_names-with_root, files-alike, files-entered, files-kept, files-with_root, get-file}
use Rattle.name_tables.proofs.file_names.FileNames.insert.Goals as goal

-- what comes of an attempt to enter a file
module _ {A E : Type 0} (r : Result A E) (tree : List Branch) (old new : List (Option ℕ)) (are : AreFileNames tree old) (at file : ℕ) (enters : OnOk r (Enters old new at file))
    (same : OnErr r ((k : ℕ) → value_at new k ≡ value_at old k)) (inside : length new ≤ length tree) where
  left : 0 < at → AreFileNames tree new
  left above = elim r as (λ r. OnOk r (Enters old new at file) → OnErr r ((k : ℕ) → value_at new k ≡ value_at old k) → AreFileNames tree new) [
    | Ok a ↦ λ enters same. file_names-entered tree old are new at file enters above inside
    | Err e ↦ λ enters same. file_names-same tree old are new same inside
  ] enters same

  entered : (name : List ℕ) (names : ByText ℕ) → IsChild tree 0 name at → value_at old at ≡ None → files_of tree old ≡ names → OnOk r (files_of tree new ≡ map.insert names name file)
  entered name names below none is = elim r as (λ r. OnOk r (Enters old new at file) → AreFileNames tree new → OnOk r (files_of tree new ≡ map.insert names name file)) [
    | Ok a ↦ λ enters after. files-entered tree old are new name at file enters after below none ∙ ap (λ names. map.insert names name file) is
    | Err e ↦ λ enters after. tt
  ] enters (left below.0)

  kept : (names : ByText ℕ) → files_of tree old ≡ names → OnErr r (files_of tree new ≡ names)
  kept names is = elim r as (λ r. OnErr r ((k : ℕ) → value_at new k ≡ value_at old k) → OnErr r (files_of tree new ≡ names)) [
    | Ok a ↦ λ same. tt
    | Err e ↦ λ same. files-alike tree old are new same ∙ is
  ] same

-- the names with a root
module _ (tree rooted : List Branch) (files : List (Option ℕ)) (is : rooted ≡ with_root tree) (are : AreFileNames tree files) where
  names-rooted : AreFileNames rooted files
  names-rooted = subst (λ tree. AreFileNames tree files) (sym is) (file_names-with_root tree files are)

  files-rooted : files_of rooted files ≡ files_of tree files
  files-rooted = ap (λ tree. files_of tree files) is ∙ files-with_root tree files are

  -- and with one more
  module _ (new : List Branch) (name : List ℕ) (at : ℕ) (inserts : InsertsChild rooted new 0 name at) where
    names-more : AreFileNames new files
    names-more = file_names-inserted rooted files names-rooted new name at inserts

    files-more : files_of new files ≡ files_of tree files
    files-more = files-kept rooted files names-rooted new (keeps-inserted rooted new 0 name at inserts) names-more ∙ files-rooted

    file-none : (names : ByText ℕ) → files_of tree files ≡ names → map.get names name ≡ None → value_at files at ≡ None
    file-none names shows none = sym (get-file new files names-more name at inserts.0) ∙ ap (λ names. map.get names name) (files-more ∙ shows) ∙ none

pub invariant_of-self-in_err-at : goal.invariant_of-self-in_err-at
invariant_of-self-in_err-at c =
    subst (λ tree. AreFileNames tree c.self.inside.files) (sym c.in_err-at.ensures.err)
    (names-rooted c.self.inside.tree c.insert_root.new.self c.self.inside.files c.in_ok-insert_root.ensures.ok c.self.invariant)

pub returns-in_err-at-clause-err : goal.returns-in_err-at-clause-err
returns-in_err-at-clause-err c =
    let error = err_from_is_err_and c.from_residual-in_err-at.result c.from_residual-in_err-at.ensures.1 in
    rw error.1 (
    ap (λ tree. files_of tree c.self.inside.files) c.in_err-at.ensures.err
    ∙ files-rooted c.self.inside.tree c.insert_root.new.self c.self.inside.files c.in_ok-insert_root.ensures.ok c.self.invariant
    ∙ c.self.view_is)

-- the branches with the name
more : (c : goal.After-insert-2) → AreFileNames c.insert.new.self c.self.inside.files
more c = names-more c.self.inside.tree c.insert_root.new.self c.self.inside.files c.in_ok-insert_root.ensures.ok c.self.invariant c.insert.new.self c.args.name.now c.in_ok-at.at c.in_ok-at.ensures.ok

more-files : (c : goal.After-insert-2) → files_of c.insert.new.self c.self.inside.files ≡ c.args.self.now
more-files c =
    files-more c.self.inside.tree c.insert_root.new.self c.self.inside.files c.in_ok-insert_root.ensures.ok c.self.invariant c.insert.new.self c.args.name.now c.in_ok-at.at c.in_ok-at.ensures.ok
    ∙ c.self.view_is

within : (c : goal.After-insert-2) → length c.insert-2.new.self ≤ length c.insert.new.self
within c = c.insert-2.ensures.len (length c.insert.new.self) (more c).inside (child-inside c.insert.new.self 0 c.args.name.now c.in_ok-at.at c.in_ok-at.ensures.ok.0)

pub invariant_of-self-2 : goal.invariant_of-self-2
invariant_of-self-2 c =
    left c.insert-2.result c.insert.new.self c.self.inside.files c.insert-2.new.self (more c) c.in_ok-at.at c.args.file c.insert-2.ensures.ok c.insert-2.ensures.err (within c) c.in_ok-at.ensures.ok.0.0

pub returns-clause-ok : goal.returns-clause-ok
returns-clause-ok c =
    entered c.insert-2.result c.insert.new.self c.self.inside.files c.insert-2.new.self (more c) c.in_ok-at.at c.args.file c.insert-2.ensures.ok c.insert-2.ensures.err (within c)
    c.args.name.now c.args.self.now c.in_ok-at.ensures.ok.0
    (file-none c.self.inside.tree c.insert_root.new.self c.self.inside.files c.in_ok-insert_root.ensures.ok c.self.invariant c.insert.new.self c.args.name.now c.in_ok-at.at c.in_ok-at.ensures.ok c.args.self.now c.self.view_is c.requires)
    (more-files c)

pub returns-clause-err : goal.returns-clause-err
returns-clause-err c =
    kept c.insert-2.result c.insert.new.self c.self.inside.files c.insert-2.new.self (more c) c.in_ok-at.at c.args.file c.insert-2.ensures.ok c.insert-2.ensures.err (within c) c.args.self.now (more-files c)
