use Rattle.std.proofs.Common.{◌∙◌, ◌-◌, ap, sym, arith}
use Rattle.plain_data.specs.TextRows.{text_order, text_at}
use Rattle.plain_data.proofs.Rows.{run-more}
use Rattle.plain_data.proofs.text_rows.ascends.Goals as goal

pub loop-at-preserved : goal.loop-at-preserved
loop-at-preserved c =
    run-more c.args.bytes.now c.args.rows.now c.args.from c.loop-at.at (grind (arith, c.saturating_add-at.ensures, c.loop-at.auto.at)) c.loop-at.invariant
    (ap (text_order (text_at c.args.bytes.now c.args.rows.now (c.loop-at.at - 1))) (sym c.text.ensures) ∙ sym c.order.ensures ∙ c.in-Less.is)
