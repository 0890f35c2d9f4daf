use Rattle.std.proofs.Common.{rules}
use Rattle.plain_data.proofs.truth_values.parse_bool.Goals as goal

pub returns-in_default : goal.returns-in_default
returns-in_default c = search rules
