use Rattle.name_resolution.proofs.Fronts.{count_parents}
use Rattle.name_resolution.proofs.parents.parents_count.Goals as goal

pub returns : goal.returns
returns c = count_parents
