use Rattle.std.proofs.Common.{inl, inr, refl}
use Rattle.descriptor_check.proofs.runs.run.Goals as goal

-- memory was refused before anything was written
pub returns-in-Err : goal.returns-in-Err
returns-in-Err g c = inr (inl (refl, refl))
