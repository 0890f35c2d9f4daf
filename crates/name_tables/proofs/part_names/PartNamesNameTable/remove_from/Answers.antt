use Rattle.std.proofs.Common.{ap, sym, subst, ◌∙◌}
use Rattle.name_tables.specs.Branches.{AreBranches, names_of}
use Rattle.name_tables.specs.NameTables.{without_files_from}
use Rattle.name_tables.proofs.BranchNames.{branches-first, branches-removed, names-first, names-left}
use Rattle.name_tables.proofs.part_names.PartNamesNameTable.remove_from.Goals as goal

-- the branches without later definitions
left : (c : goal.After-truncate) → AreBranches c.self.inside.branches.tree c.remove_from.new.self
left c =
    let branches = c.self.inside.branches in
    branches-removed branches.tree branches.definitions c.self.invariant c.remove_from.new.self c.args.file c.remove_from.ensures.values c.remove_from.ensures.len

pub invariant_of-self : goal.invariant_of-self
invariant_of-self c =
    subst (λ tree. AreBranches tree c.remove_from.new.self) (sym c.truncate.ensures)
    (branches-first c.self.inside.branches.tree c.remove_from.new.self c.len.result (left c) c.len.ensures)

pub returns : goal.returns
returns c =
    let branches = c.self.inside.branches in
    ap (λ tree. names_of tree c.remove_from.new.self) c.truncate.ensures
    ∙ names-first branches.tree c.remove_from.new.self c.len.result (left c) c.len.ensures
    ∙ names-left branches.tree branches.definitions c.self.invariant c.remove_from.new.self c.args.file c.remove_from.ensures.values c.remove_from.ensures.len
    ∙ ap (without_files_from c.args.file) c.self.view_is
