use Rattle.std.proofs.Common.{[], refl, sym, subst}
use Rattle.name_tables.specs.Tree.{IsDescendant}
use Rattle.name_tables.proofs.TreeChanges.{descendant-inserted, keeps-inserted, tree-inserted}
use Rattle.name_tables.proofs.branches.insert_part.Goals as goal

pub returns-clause-tree : goal.returns-clause-tree
returns-clause-tree c =
    tree-inserted c.args.tree.now c.insert.new.self c.args.from c.args.part.now c.in_ok-at.at c.in_ok-at.ensures.ok c.requires.tree c.requires.from c.requires.part

pub returns-clause-keeps : goal.returns-clause-keeps
returns-clause-keeps c = keeps-inserted c.args.tree.now c.insert.new.self c.args.from c.args.part.now c.in_ok-at.at c.in_ok-at.ensures.ok

pub returns-clause-descendant : goal.returns-clause-descendant
returns-clause-descendant c =
    subst (λ ps. IsDescendant c.insert.new.self c.args.from ps c.in_ok-at.at) (sym c.requires.part)
    (descendant-inserted c.args.tree.now c.insert.new.self c.args.from c.args.part.now c.in_ok-at.at c.in_ok-at.ensures.ok [] c.args.from refl)
