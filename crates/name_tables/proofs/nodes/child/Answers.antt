use Rattle.std.proofs.Common.{ap, sym, arith, ◌∙◌}
use Rattle.name_tables.specs.Nodes.{child_of}
use Rattle.name_tables.proofs.Children.{child-some, child_at-row}
use Rattle.name_tables.proofs.Rows.{node_at, read-at}
use Rattle.name_tables.proofs.nodes.child.Goals as goal

pub returns-in-0 : goal.returns-in-0
returns-in-0 c = λ texts.
    let nodes = c.args.nodes.now in
    let at = c.args.slot.node in
    sym (child_at-row texts nodes c.args.slot (node_at nodes at) c.requires.inside (read-at nodes at c.requires.inside) ∙ ap child_of c.in-0.is)

pub returns-in_default : goal.returns-in_default
returns-in_default c = λ texts.
    let nodes = c.args.nodes.now in
    let at = c.args.slot.node in
    sym (child_at-row texts nodes c.args.slot (node_at nodes at) c.requires.inside (read-at nodes at c.requires.inside) ∙ child-some _ (omega arith))
