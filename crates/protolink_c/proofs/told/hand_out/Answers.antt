use Rattle.std.proofs.Common.{rules}
use Rattle.protolink_c.proofs.told.hand_out.Goals as goal

pub returns-then-text-buffer : goal.returns-then-text-buffer
returns-then-text-buffer g c = search rules
