use Rattle.std.proofs.Common.{rules}
use Rattle.record_lists.proofs.reference.extension_types.Goals as goal

pub returns-in-None-clause-extendee : goal.returns-in-None-clause-extendee
returns-in-None-clause-extendee c = search rules

pub returns-in-None-clause-type_name : goal.returns-in-None-clause-type_name
returns-in-None-clause-type_name c = search rules

pub returns-in-Some-clause-extendee : goal.returns-in-Some-clause-extendee
returns-in-Some-clause-extendee c = search rules

pub returns-in-Some-clause-type_name : goal.returns-in-Some-clause-type_name
returns-in-Some-clause-type_name c = search rules
