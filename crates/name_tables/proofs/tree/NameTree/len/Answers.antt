use Rattle.std.proofs.Common.{sym, ◌∙◌}
use Rattle.name_tables.proofs.TreeBranches.{length-branches}
use Rattle.name_tables.proofs.tree.NameTree.len.Goals as goal

pub returns : goal.returns
returns c = c.len.ensures ∙ c.self.inside.nodes.ok.0 ∙ sym (length-branches c.self.inside.texts c.self.inside.nodes.items c.args.self.now c.self.view_is)
