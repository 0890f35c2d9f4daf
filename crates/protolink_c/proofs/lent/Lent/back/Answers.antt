use Rattle.std.proofs.Common.{rules}
use Rattle.protolink_c.proofs.lent.Lent.back.Goals as goal

pub returns-in-Parted : goal.returns-in-Parted
returns-in-Parted c = search rules
