use Rattle.name_resolution.proofs.Chains.{sees-is_tested}
use Rattle.name_resolution.proofs.visibility_laws.sees_is_tested.Goals as goal

pub returns : goal.returns
returns c = sees-is_tested
