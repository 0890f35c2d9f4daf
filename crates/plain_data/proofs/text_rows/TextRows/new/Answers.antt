use Rattle.plain_data.proofs.Rows.{sound-empty}
use Rattle.plain_data.proofs.text_rows.TextRows.new.Goals as goal

pub invariant_of-result : goal.invariant_of-result
invariant_of-result c = sound-empty c.new.result.items _ _ c.new-2.ensures.items c.new-3.ensures.items
