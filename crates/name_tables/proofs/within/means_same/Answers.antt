use Rattle.std.proofs.Common.{◌≡◌, Some, ap, sym, ◌∙◌}
use Rattle.std.specs.Option.{option_copied}
use Rattle.name_tables.specs.Tree.{path}
use Rattle.name_tables.specs.Entered.{value_at}
use Rattle.name_tables.proofs.Paths.{descendant-one}
use Rattle.name_tables.proofs.within.means_same.Goals as goal

pub returns-in-Some-counterpart-clause-same : goal.returns-in-Some-counterpart-clause-same
returns-in-Some-counterpart-clause-same c =
    let d = c.in-Some.definition.now in
    let branches = c.args.branches.now.tree in
    let others = c.args.others.now.tree in
    let other = c.in-Some-counterpart.other in
    let found = c.in-Some-counterpart.ensures.found in
    let defined : value_at c.args.branches.now.definitions c.args.at ≡ Some d = sym c.get.ensures ∙ ap option_copied c.in-Some.is in (
      λ yes f means. (other, found, c.means.ensures.0 yes ∙ sym defined ∙ means),
      λ within.
          let there = within d defined in
          c.means.ensures.1 (ap (value_at c.args.others.now.definitions) (descendant-one others c.requires.compared.others_are.tree (path branches c.args.at) 0 other there.0 found there.1) ∙ there.2),
    )
