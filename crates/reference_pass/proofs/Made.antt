-- What holds of what is made, where nothing is made.
use Rattle.std.proofs.Common.{Result, Ok, Err, OnErr}

-- what is known holds where nothing is made
pub known-err : {X E P : Type 0} (r : Result X E) → P → OnErr r P
known-err (Ok x) p = tt
known-err (Err e) p = p
