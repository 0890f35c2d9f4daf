use Rattle.std.proofs.Common.{◌≡◌, ◌<◌, ℕ, List, length, sym, subst, ◌∙◌}
use Rattle.std.proofs.lemmas.Result.{err_from_is_err_and, on_err_weaker}
use Rattle.name_tables.specs.Parts.{name_of, parts}
use Rattle.name_tables.specs.Tree.{Branch, IsDescendant, IsTree, KeepsBranches, path, with_root}
use Rattle.name_tables.proofs.NameParts.{parts-some}
use Rattle.name_tables.proofs.Paths.{descendant-some, name-descendant}
use Rattle.name_tables.proofs.TreeChanges.{keeps-more, keeps-with_root, tree-with_root}
use Rattle.name_tables.specs.Branches.{names_of}
use Rattle.name_tables.proofs.BranchNames.{names-kept}
use Rattle.name_tables.proofs.Inserted.{inserted-alike}
use Rattle.name_tables.proofs.part_names.PartNamesNameTable.insert.Goals as goal

-- branches behind a root are kept with it
rooted : (old root new : List Branch) → root ≡ with_root old → KeepsBranches root new → KeepsBranches old new
rooted old root new is keeps = keeps-more old root new (subst (KeepsBranches old) (sym is) (keeps-with_root old)) keeps

-- the branch of a name is one, and not the root
named-inside : (bs : List Branch) (name : List ℕ) (k : ℕ) → IsDescendant bs 0 (parts name) k → (0 < k) × (k < length bs)
named-inside bs name k down = descendant-some bs (parts name) 0 k (parts-some name) down

pub insert_below-requires-clause-tree : goal.insert_below-requires-clause-tree
insert_below-requires-clause-tree c = subst IsTree (sym c.in_ok-insert_root.ensures.ok) (tree-with_root c.self.inside.branches.tree c.self.invariant.tree)

pub returns-in_err-branch-clause-err : goal.returns-in_err-branch-clause-err
returns-in_err-branch-clause-err c =
    let branches = c.self.inside.branches in
    let error = err_from_is_err_and c.from_residual-in_err-branch.result c.from_residual-in_err-branch.ensures.1 in
    rw error.1
    (names-kept branches.tree branches.definitions c.self.invariant c.insert_below.new.tree
    (rooted branches.tree c.insert_root.new.self c.insert_below.new.tree c.in_ok-insert_root.ensures.ok c.in_err-branch.ensures.keeps) c.in_err-branch.ensures.tree
    ∙ c.self.view_is)

pub define-requires-clause-below : goal.define-requires-clause-below
define-requires-clause-below c = (named-inside c.insert_below.new.tree c.args.name.now c.in_ok-branch.branch c.in_ok-branch.ensures.descendant).0

pub define-requires-clause-inside : goal.define-requires-clause-inside
define-requires-clause-inside c = (named-inside c.insert_below.new.tree c.args.name.now c.in_ok-branch.branch c.in_ok-branch.ensures.descendant).1

-- the names mean what they meant before the branches of the new one came
still : (c : goal.After-define) → names_of c.insert_below.new.tree c.self.inside.branches.definitions ≡ c.args.self.now
still c =
    let branches = c.self.inside.branches in
    names-kept branches.tree branches.definitions c.self.invariant c.insert_below.new.tree
    (rooted branches.tree c.insert_root.new.self c.insert_below.new.tree c.in_ok-insert_root.ensures.ok c.in_ok-branch.ensures.keeps) c.in_ok-branch.ensures.tree
    ∙ c.self.view_is

pub returns-clause-ok : goal.returns-clause-ok
returns-clause-ok c =
    let tree = c.insert_below.new.tree in
    inserted-alike c.define.result (names_of c.define.new.self.tree c.define.new.self.definitions) (names_of tree c.self.inside.branches.definitions) c.args.self.now
    (name_of (path tree c.in_ok-branch.branch)) c.args.name.now c.args.definition (still c)
    (sym (name-descendant tree c.in_ok-branch.ensures.tree c.args.name.now c.in_ok-branch.branch c.in_ok-branch.ensures.descendant)) c.define.ensures.ok

pub returns-clause-err : goal.returns-clause-err
returns-clause-err c = on_err_weaker c.define.result (λ same. same ∙ still c) c.define.ensures.err
