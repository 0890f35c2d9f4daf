use Rattle.std.proofs.Common.{arith}
use Rattle.std.proofs.lemmas.Grind.{common_steps}
use Rattle.pool_descriptions.proofs.service.write_services.Goals as goal

pub loop-service-preserved : goal.loop-service-preserved
loop-service-preserved c = grind (arith, common_steps)
