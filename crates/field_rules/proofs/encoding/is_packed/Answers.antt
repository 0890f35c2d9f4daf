use Rattle.std.proofs.Common.{rules}
use Rattle.field_rules.proofs.encoding.is_packed.Goals as goal

pub returns-else-is_packable : goal.returns-else-is_packable
returns-else-is_packable c = search rules

pub returns-then-is_packable : goal.returns-then-is_packable
returns-then-is_packable c = search rules
