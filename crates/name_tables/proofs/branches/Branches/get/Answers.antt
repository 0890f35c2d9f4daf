use Rattle.std.proofs.Common.{ap, sym, refl, ◌∙◌}
use Rattle.std.specs.Option.{option_copied}
use Rattle.name_tables.proofs.BranchNames.{get-absent, get-descendant}
use Rattle.name_tables.proofs.branches.Branches.get.Goals as goal

pub returns-in_err-at : goal.returns-in_err-at
returns-in_err-at c =
    let branches = c.args.self.now in
    ap option_copied c.from_residual.ensures
    ∙ sym (get-absent branches.tree branches.definitions c.requires c.args.name.now (c.in_err-at.ensures.none refl))

pub returns : goal.returns
returns c =
    let branches = c.args.self.now in
    c.get.ensures
    ∙ sym (get-descendant branches.tree branches.definitions c.requires c.args.name.now c.in_ok-at.at c.in_ok-at.ensures.found)
