use Rattle.std.proofs.Common.{arith}
use Rattle.std.proofs.lemmas.Grind.{common_steps}
use Rattle.pool_descriptions.proofs.service.write_methods.Goals as goal

pub loop-method-preserved : goal.loop-method-preserved
loop-method-preserved c = grind (arith, common_steps)
