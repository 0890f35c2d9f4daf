use Rattle.std.proofs.Common.{◌≡◌, ℕ, List, ap, sym, arith, ◌∙◌}
use Rattle.plain_data.specs.Digests.{digest_after}
use Rattle.name_tables.specs.Nodes.{front_digest, rows}
use Rattle.name_tables.proofs.Rows.{front-row, node_at, read-at}
use Rattle.name_tables.proofs.nodes.child_digest.Goals as goal
use Rattle.name_tables.proofs.nodes.child_digest.Goals.{in-0, in_default}

-- the digest up to the part
front : (c : goal.After-digest_after) (texts : List (List ℕ)) → c.match-parent.front ≡ front_digest (rows texts c.args.nodes.now) c.args.parent
front c texts = elim c.match-parent.branch [
  | in-0 w ↦ w.front-is ∙ ap (front_digest (rows texts c.args.nodes.now)) (sym w.in-0.is)
  | in_default w ↦ w.front-is ∙ sym (front-row texts c.args.nodes.now c.args.parent (node_at c.args.nodes.now c.args.parent) (omega arith) c.requires (read-at c.args.nodes.now c.args.parent c.requires))
]

pub returns : goal.returns
returns c = λ texts. c.digest_after.ensures ∙ ap (λ front. digest_after front c.args.part.now) (front c texts)
