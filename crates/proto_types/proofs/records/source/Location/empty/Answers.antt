use Rattle.std.proofs.Common.{rules}
use Rattle.proto_types.proofs.records.source.Location.empty.Goals as goal

pub returns : goal.returns
returns c = search rules
