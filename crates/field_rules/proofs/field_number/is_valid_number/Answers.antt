use Rattle.std.proofs.Common.{rules}
use Rattle.field_rules.proofs.field_number.is_valid_number.Goals as goal

pub returns-else-contains : goal.returns-else-contains
returns-else-contains c = search rules

pub returns-then-contains : goal.returns-then-contains
returns-then-contains c = search rules
