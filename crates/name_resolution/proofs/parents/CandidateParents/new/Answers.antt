use Rattle.std.proofs.Common.{rules}
use Rattle.name_resolution.proofs.parents.CandidateParents.new.Goals as goal

pub returns : goal.returns
returns c = search rules
