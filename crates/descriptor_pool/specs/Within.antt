-- What linking a batch into a pool may end in, where only the first of its faults are asked for.
use Rattle.std.specs.Prelude.{◌≡◌, ℕ}
use Rattle.std.specs.declared.option.Option.{Option}
use Rattle.std.specs.declared.result.Result.{Result}
use Rattle.std.specs.declared.result.Result.TheVariants.{Ok, Err}
use Rattle.pool_types.specs.Contents.{Contents}
use Rattle.pool_faults.specs.declared.error.DescriptorError.{DescriptorError}
use Rattle.record_walk.specs.Telling.{first_of, rest_of}
use Rattle.descriptor_pool.specs.declared.error.BuildError.{BuildError}
use Rattle.descriptor_pool.specs.declared.error.BuildError.TheVariants.{TooMany, Descriptor}
use Rattle.descriptor_pool.specs.declared.error.BuildError.TheVariants.{OutOfMemory}
use Rattle.descriptor_pool.specs.Outcome.{IsLinked, IsOutOfMemory, IsTooMany}
use Rattle.descriptor_pool.specs.Pool.{Batch, faults, Fits}

-- the batch fits, the error tells the first faults of the first pass that finds any, in order, and
-- how many more this finds, and the pool is as it was
pub record IsRefusedWithin (most : Option ℕ) (old : Contents) (batch : Batch)
    (error : DescriptorError) (new : Contents) : Type 0 where
  pub fits : Fits old batch
  pub first : error.errors ≡ first_of most (faults old batch)
  pub rest : error.rest ≡ rest_of most (faults old batch)
  pub unchanged : new ≡ old

-- what linking a batch into a pool ends in, as in `Outcome`, where so many faults are asked for at
-- most, or all
abbrev pub OutcomeWithin : {U : Type 0} → Option ℕ → Contents → Batch → Result U BuildError
    → Contents → Type 0
OutcomeWithin most old batch (Ok _) new = IsLinked old batch new
OutcomeWithin most old batch (Err (TooMany kind)) new = IsTooMany old batch kind new
OutcomeWithin most old batch (Err (Descriptor error)) new = IsRefusedWithin most old batch error new
OutcomeWithin most old batch (Err OutOfMemory) new = IsOutOfMemory old batch new
