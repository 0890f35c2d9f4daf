-- What linking a batch into a pool may end in.
use Rattle.std.specs.Prelude.{◌≡◌}
use Rattle.std.specs.declared.result.Result.{Result}
use Rattle.std.specs.declared.result.Result.TheVariants.{Ok, Err}
use Rattle.record_walk.specs.declared.counts.CountKind.{CountKind}
use Rattle.pool_types.specs.Contents.{Contents}
use Rattle.pool_faults.specs.declared.error.DescriptorError.{DescriptorError}
use Rattle.descriptor_pool.specs.declared.error.BuildError.{BuildError}
use Rattle.descriptor_pool.specs.declared.error.BuildError.TheVariants.{TooMany, Descriptor}
use Rattle.descriptor_pool.specs.declared.error.BuildError.TheVariants.{OutOfMemory}
use Rattle.descriptor_pool.specs.Pool.{Batch, faults, counts_after, Accepts, Fits, link}

-- the batch fits and breaks no rule, and the pool is the one that the definitions give
pub record IsLinked (old : Contents) (batch : Batch) (new : Contents) : Type 0 where
  pub fits : Fits old batch
  pub accepted : Accepts old batch
  pub is : new ≡ link old batch

-- there is too much of a kind, the first that is past its limit, and the pool is as it was
pub record IsTooMany (old : Contents) (batch : Batch) (kind : CountKind)
    (new : Contents) : Type 0 where
  pub first : counts_after old batch ≡ Err kind
  pub unchanged : new ≡ old

-- the batch fits, the error tells all faults of the first pass that finds any, in order, and no
-- further ones, and the pool is as it was
pub record IsRefused (old : Contents) (batch : Batch) (error : DescriptorError)
    (new : Contents) : Type 0 where
  pub fits : Fits old batch
  pub all : error.errors ≡ faults old batch
  pub no_more : error.rest ≡ 0
  pub unchanged : new ≡ old

-- the batch fits, memory was refused, and the pool is as it was
pub record IsOutOfMemory (old : Contents) (batch : Batch) (new : Contents) : Type 0 where
  pub fits : Fits old batch
  pub unchanged : new ≡ old

-- what linking a batch into a pool ends in, by the answer: one of the four, so that too much is
-- told exactly where the batch does not fit, and a batch that is accepted is never refused with
-- faults
abbrev pub Outcome : {U : Type 0} → Contents → Batch → Result U BuildError → Contents → Type 0
Outcome old batch (Ok _) new = IsLinked old batch new
Outcome old batch (Err (TooMany kind)) new = IsTooMany old batch kind new
Outcome old batch (Err (Descriptor error)) new = IsRefused old batch error new
Outcome old batch (Err OutOfMemory) new = IsOutOfMemory old batch new
