use Rattle.std.proofs.Common.{[], arith}
use Rattle.name_tables.proofs.Children.{row-with_child}
use Rattle.name_tables.proofs.nodes.set_child.Goals as goal

pub returns : goal.returns
returns c = λ texts. row-with_child texts c.args.nodes.now c.args.child (record { digest = 0; parent = 0; children = [] }) c.args.slot c.requires.inside c.requires.digit (omega arith)
