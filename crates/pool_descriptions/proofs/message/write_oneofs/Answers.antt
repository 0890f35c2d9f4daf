use Rattle.std.proofs.Common.{arith}
use Rattle.std.proofs.lemmas.Grind.{common_steps}
use Rattle.pool_descriptions.proofs.message.write_oneofs.Goals as goal

pub loop-oneof-preserved : goal.loop-oneof-preserved
loop-oneof-preserved c = grind (arith, common_steps)
