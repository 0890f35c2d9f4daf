use Rattle.std.proofs.Common.{rules}
use Rattle.field_rules.proofs.enum_values.earlier_position.Goals as goal

pub returns-in-Occupied-clause-earlier : goal.returns-in-Occupied-clause-earlier
returns-in-Occupied-clause-earlier c = search rules

pub returns-in-Occupied-clause-positions : goal.returns-in-Occupied-clause-positions
returns-in-Occupied-clause-positions c = search rules

pub returns-in-Vacant-clause-earlier : goal.returns-in-Vacant-clause-earlier
returns-in-Vacant-clause-earlier c = search rules

pub returns-in-Vacant-clause-positions : goal.returns-in-Vacant-clause-positions
returns-in-Vacant-clause-positions c = search rules
