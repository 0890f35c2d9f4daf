use Rattle.message_values.proofs.Typed.{item-written}
use Rattle.message_values.proofs.laws.item_is_written.Goals as goal

pub returns : goal.returns
returns c = item-written
