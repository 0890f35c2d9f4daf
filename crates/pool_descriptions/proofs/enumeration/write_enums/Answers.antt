use Rattle.std.proofs.Common.{arith}
use Rattle.std.proofs.lemmas.Grind.{common_steps}
use Rattle.pool_descriptions.proofs.enumeration.write_enums.Goals as goal

pub loop-enumeration-preserved : goal.loop-enumeration-preserved
loop-enumeration-preserved c = grind (arith, common_steps)
