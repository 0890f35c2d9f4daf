use Rattle.std.proofs.Common.{rules}
use Rattle.proto_types.proofs.records.options.EnumOptions.allow_alias.Goals as goal

pub returns : goal.returns
returns c = search rules
