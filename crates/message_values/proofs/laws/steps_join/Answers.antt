use Rattle.message_values.proofs.Joined.{all-joined}
use Rattle.message_values.proofs.laws.steps_join.Goals as goal

pub returns : goal.returns
returns c = all-joined
