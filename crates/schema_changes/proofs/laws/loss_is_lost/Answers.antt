use Rattle.schema_changes.proofs.Unkept.{cardinality-lost, kind-lost, oneof-lost, required-lost}
use Rattle.schema_changes.proofs.laws.loss_is_lost.Goals as goal

pub returns-clause-kinds : goal.returns-clause-kinds
returns-clause-kinds c = kind-lost

pub returns-clause-cardinalities : goal.returns-clause-cardinalities
returns-clause-cardinalities c = cardinality-lost

pub returns-clause-required : goal.returns-clause-required
returns-clause-required c = required-lost

pub returns-clause-oneofs : goal.returns-clause-oneofs
returns-clause-oneofs c = oneof-lost
