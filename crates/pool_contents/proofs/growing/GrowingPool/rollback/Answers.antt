use Rattle.std.proofs.lemmas.Grind.{common_steps}
use Rattle.std.proofs.Common.{arith}
use Rattle.pool_contents.proofs.growing.GrowingPool.rollback.Goals as goal

-- of each list what was there
pub returns : goal.returns
returns c =
    λ i. record {
      files = c.truncate.ensures.items i;
      messages = c.truncate-2.ensures.items i;
      enums = c.truncate-3.ensures.items i;
      services = c.truncate-4.ensures.items i;
      extensions = c.truncate-5.ensures.items i;
      names = c.remove_from.ensures i;
      file_names = c.remove_from-2.ensures i;
    }

pub invariant_of-self : goal.invariant_of-self
invariant_of-self c = grind (arith, common_steps)
