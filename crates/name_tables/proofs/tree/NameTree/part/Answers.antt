use Rattle.std.proofs.Common.{◌<◌, sym, subst, ◌∙◌}
use Rattle.name_tables.proofs.TreeBranches.{length-branches, part-read}
use Rattle.name_tables.proofs.tree.NameTree.part.Goals as goal

pub get-requires : goal.get-requires
get-requires c =
    subst (λ n. c.args.at < n) (length-branches c.self.inside.texts c.self.inside.nodes.items c.args.self.now c.self.view_is ∙ sym c.self.invariant.even) c.requires

pub returns : goal.returns
returns c = part-read c.self.inside.texts c.self.inside.nodes.items c.args.self.now c.self.view_is c.args.at c.get.result.now c.requires c.get.ensures
