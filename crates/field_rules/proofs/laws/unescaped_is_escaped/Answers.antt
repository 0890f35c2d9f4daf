use Rattle.field_rules.proofs.Unescaped.{unescaped-is-escaped}
use Rattle.field_rules.proofs.laws.unescaped_is_escaped.Goals as goal

pub returns : goal.returns
returns c = unescaped-is-escaped
