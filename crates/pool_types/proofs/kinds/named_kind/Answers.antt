use Rattle.std.proofs.Common.{rules}
use Rattle.pool_types.proofs.kinds.named_kind.Goals as goal

pub returns-in-Enum : goal.returns-in-Enum
returns-in-Enum c = search rules

pub returns-in-Group : goal.returns-in-Group
returns-in-Group c = search rules

pub returns-in_default : goal.returns-in_default
returns-in_default c = search rules

pub returns-in_default-written : goal.returns-in_default-written
returns-in_default-written c = search rules
