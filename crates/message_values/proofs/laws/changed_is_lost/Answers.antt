use Rattle.message_values.proofs.Lost.{all-lost, bytes-checked, numbers-lost, text-checked, used-again, widths-lost}
use Rattle.message_values.proofs.laws.changed_is_lost.Goals as goal

pub returns-clause-rows : goal.returns-clause-rows
returns-clause-rows c = all-lost

pub returns-clause-numbers : goal.returns-clause-numbers
returns-clause-numbers c = numbers-lost

pub returns-clause-widths : goal.returns-clause-widths
returns-clause-widths c = widths-lost

pub returns-clause-texts : goal.returns-clause-texts
returns-clause-texts c = λ bytes bad. (bytes-checked bytes bad, text-checked bytes bad)

pub returns-clause-together : goal.returns-clause-together
returns-clause-together c = used-again
