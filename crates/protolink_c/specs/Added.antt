-- What a call that adds files answers.
use Rattle.std.specs.Prelude.{◌≡◌, ℕ}
use Rattle.numbered_pool.specs.Added.{AddedAs}
use Rattle.numbered_pool.specs.Reading.{Read}
use Rattle.numbered_pool.specs.Statuses.{status_number}
use Rattle.numbered_pool.specs.declared.answers.Answers.{Answers}
use Rattle.numbered_pool.specs.declared.status.Status.{Status}

-- it ended as its number says, by what its bytes say
pub record IsAdded (read : Read) (old new : Answers) (number : ℕ) : Type 0 where
  pub status : Status
  pub numbered : number ≡ status_number status
  pub added : AddedAs read old new status
