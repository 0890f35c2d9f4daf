use Rattle.std.proofs.Common.{rules}
use Rattle.field_rules.proofs.maps.item_number.Goals as goal

pub returns : goal.returns
returns c = search rules
