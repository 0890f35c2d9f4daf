use Rattle.joined_files.proofs.Exactness.{differences-exact}
use Rattle.joined_files.proofs.laws.differences_are_exact.Goals as goal

-- there is no difference exactly where files are equal apart from their places
pub returns : goal.returns
returns c = differences-exact
