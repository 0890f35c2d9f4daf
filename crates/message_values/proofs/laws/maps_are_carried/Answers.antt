use Rattle.message_values.proofs.Maps.{maps-carried}
use Rattle.message_values.proofs.laws.maps_are_carried.Goals as goal

pub returns : goal.returns
returns c = maps-carried
