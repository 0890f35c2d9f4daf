use Rattle.message_values.proofs.Otherwise.{other-kind, scalar-has}
use Rattle.message_values.proofs.Unkept.{joined, new-required, no-more-repeated, other-value}
use Rattle.message_values.proofs.laws.unkept_is_lost.Goals as goal

pub returns-clause-values : goal.returns-clause-values
returns-clause-values c = other-value

pub returns-clause-kinds : goal.returns-clause-kinds
returns-clause-kinds c = other-kind

pub returns-clause-required : goal.returns-clause-required
returns-clause-required c = new-required

pub returns-clause-repeated : goal.returns-clause-repeated
returns-clause-repeated c = no-more-repeated

pub returns-clause-joined : goal.returns-clause-joined
returns-clause-joined c = joined

pub returns-clause-scalars : goal.returns-clause-scalars
returns-clause-scalars c = scalar-has
