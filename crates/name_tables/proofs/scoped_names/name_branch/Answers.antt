use Rattle.std.proofs.Common.{[], refl, arith}
use Rattle.std.proofs.lemmas.Bool.Decides.{nat_tests}
use Rattle.name_tables.proofs.TreeChanges.{keeps-all}
use Rattle.name_tables.proofs.BranchNames.{own-descendant}
use Rattle.name_tables.proofs.scoped_names.name_branch.Goals as goal

pub returns-clause-keeps : goal.returns-clause-keeps
returns-clause-keeps c = keeps-all c.args.tree.now

pub returns-clause-descendant : goal.returns-clause-descendant
returns-clause-descendant c =
    own-descendant c.args.tree.now [] (record { tree = c.requires.tree; root = refl; inside = omega arith }) c.args.scope (grind (arith, nat_tests)) c.requires.scope.0
