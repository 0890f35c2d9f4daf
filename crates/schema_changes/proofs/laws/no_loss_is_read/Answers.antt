use Rattle.schema_changes.proofs.Named.{no-loss}
use Rattle.schema_changes.proofs.laws.no_loss_is_read.Goals as goal

pub returns : goal.returns
returns c = no-loss
