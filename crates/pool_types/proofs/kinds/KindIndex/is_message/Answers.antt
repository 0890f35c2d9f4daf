use Rattle.std.proofs.Common.{rules}
use Rattle.pool_types.proofs.kinds.KindIndex.is_message.Goals as goal

pub returns-in-Message : goal.returns-in-Message
returns-in-Message c = search rules

pub returns-in-Message-2 : goal.returns-in-Message-2
returns-in-Message-2 c = search rules

pub returns-in_default : goal.returns-in_default
returns-in_default c = search rules
