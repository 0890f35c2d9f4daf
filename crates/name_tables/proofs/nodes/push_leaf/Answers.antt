use Rattle.std.proofs.Common.{◌∙◌}
use Rattle.name_tables.specs.Nodes.{row, rows}
use Rattle.name_tables.proofs.Rows.{rows-push}
use Rattle.name_tables.proofs.nodes.push_leaf.Goals as goal

pub returns-clause-pushed : goal.returns-clause-pushed
returns-clause-pushed c =
    let part = c.args.key.part.now in
    let node = c.new-node.result in
    record {
      node = row part node;
      leaf = c.new-node.ensures part;
      behind = (λ i. rows (c.in_ok-push.ensures.ok i) (c.in_default.ensures.items i)) ∙ rows-push c.args.texts.now c.args.nodes.now.items part node c.requires;
    }
