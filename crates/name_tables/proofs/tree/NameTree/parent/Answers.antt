use Rattle.std.proofs.Common.{◌≡◌, ◌<◌, length, refl, arith}
use Rattle.name_tables.specs.Nodes.{row, branch_of}
use Rattle.name_tables.proofs.TreeBranches.{length-branches, branch-read}
use Rattle.name_tables.proofs.tree.NameTree.parent.Goals as goal

pub index-requires : goal.index-requires
index-requires c =
    let counted : length c.args.self.now ≡ length c.self.inside.nodes.items = length-branches c.self.inside.texts c.self.inside.nodes.items c.args.self.now c.self.view_is in
    let ok = c.self.inside.nodes.ok.0 in
    let inside : c.args.at < length c.args.self.now = c.requires in
    omega arith

pub returns : goal.returns
returns c =
    let node = c.index.result.now in
    let some = branch-read c.self.inside.texts c.self.inside.nodes.items c.args.self.now c.self.view_is c.args.at node c.requires c.index.ensures in
    (branch_of (row some.0 node), some.1, refl)
