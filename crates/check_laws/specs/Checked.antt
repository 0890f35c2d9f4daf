-- Sets that are checked, and the pool that the set of their linked files makes.
use Rattle.std.specs.Prelude.{◌≡◌, MatchOption, List, Ok}
use Rattle.std.specs.declared.option.Option.TheVariants.{None, Some}
use Rattle.pool_types.specs.Contents.{Contents}
use Rattle.joined_files.specs.declared.joining.JoinedFiles.{JoinedFiles}
use Rattle.stored_pools.specs.Stored.{MakesPool}
use Rattle.descriptor_check.specs.Answers.{answer}
use Rattle.descriptor_check.specs.Batches.{batch_of}
use Rattle.descriptor_check.specs.Strict.{verdict_wanted}
use Rattle.descriptor_check.specs.declared.answer.Answer.{Answer}
use Rattle.descriptor_check.specs.declared.answer.LinkedSet.{LinkedSet}
use Rattle.descriptor_check.specs.declared.answer.Status.TheVariants as status
use Rattle.descriptor_check.specs.declared.answer.Wanted.{Wanted}
use Rattle.descriptor_check.specs.declared.inputs.Input.{Input}
use Rattle.descriptor_check.specs.declared.verdicts.Verdict.TheVariants.{Accepted}

-- the verdict that is wanted on the files of some inputs is that they are accepted, with a pool
pub record AcceptedAs (w : Wanted) (inputs : List Input) (p : Contents) : Type 0 where
  pub joined : JoinedFiles
  pub read : batch_of inputs ≡ Ok joined
  pub accepted : verdict_wanted w joined ≡ Accepted p

-- a set is for the file that is wanted, and its files, read from its bytes and linked at once from
-- nothing, make a pool equal to the one with which some inputs are accepted
pub record IsLoadedAs (w : Wanted) (inputs : List Input) (set : LinkedSet) : Type 0 where
  pub named : w.linked ≡ Some set.name
  pub pool : Contents
  pub accepted : AcceptedAs w inputs pool
  pub makes : MakesPool set.bytes pool

-- law: the set of the linked files that a check answers makes the pool with which the check
-- accepts; and an answer that accepts has a set where one is wanted
abbrev pub CheckedIsLoaded : Wanted → List Input → Answer → Type 0
CheckedIsLoaded w inputs a = a ≡ answer w inputs
    → MatchOption a.linked (a.status ≡ status.Accepted → w.linked ≡ None) (IsLoadedAs w inputs)
