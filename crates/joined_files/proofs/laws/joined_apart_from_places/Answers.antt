use Rattle.joined_files.proofs.Apart.{joined-apart}
use Rattle.joined_files.proofs.laws.joined_apart_from_places.Goals as goal

-- which files have places changes nothing but places
pub returns : goal.returns
returns c = joined-apart
