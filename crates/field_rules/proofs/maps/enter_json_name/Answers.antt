use Rattle.std.proofs.Common.{rules}
use Rattle.field_rules.proofs.maps.enter_json_name.Goals as goal

pub returns-clause-faults : goal.returns-clause-faults
returns-clause-faults c = search rules

pub returns-clause-map : goal.returns-clause-map
returns-clause-map c = search rules

pub returns-in_default-clause-faults : goal.returns-in_default-clause-faults
returns-in_default-clause-faults c = search rules

pub returns-in_default-clause-map : goal.returns-in_default-clause-map
returns-in_default-clause-map c = search rules
