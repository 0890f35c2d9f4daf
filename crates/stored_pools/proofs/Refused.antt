-- What linking at once from nothing ends in, where it is refused.
use Rattle.std.proofs.Common.{◌≡◌, Err, subst}
use Rattle.pool_types.specs.Contents.{Contents, no_contents}
use Rattle.descriptor_pool.specs.declared.error.BuildError.{BuildError}
use Rattle.descriptor_pool.specs.declared.error.BuildError.TheVariants.{TooMany, Descriptor, OutOfMemory}
use Rattle.descriptor_pool.specs.Outcome.{Outcome}
use Rattle.descriptor_pool.specs.Pool.{Batch}
use Rattle.stored_pools.specs.Loaded.{AreLinked}

from-nothing : (U : Type 0) (files : Batch) (e : BuildError) (new : Contents) → Outcome {U = U} no_contents files (Err e) new → AreLinked files (Err e)
from-nothing U files (TooMany kind) new outcome = outcome.first
from-nothing U files (Descriptor error) new outcome = (outcome.fits, outcome.all)
from-nothing U files OutOfMemory new outcome = tt

pub refused : (U : Type 0) (old : Contents) (batch files : Batch) (e : BuildError) (new : Contents) → old ≡ no_contents → batch ≡ files → Outcome {U = U} old batch (Err e) new → AreLinked files (Err e)
refused U old batch files e new is same outcome =
    from-nothing U files e new (subst (λ p. Outcome {U = U} p files (Err e) new) is (subst (λ b. Outcome {U = U} old b (Err e) new) same outcome))
