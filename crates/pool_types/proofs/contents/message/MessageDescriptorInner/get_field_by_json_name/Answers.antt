use Rattle.std.proofs.Common.{rules}
use Rattle.pool_types.proofs.contents.message.MessageDescriptorInner.get_field_by_json_name.Goals as goal

pub returns : goal.returns
returns c = search rules
