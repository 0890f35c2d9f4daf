use Rattle.field_rules.proofs.Unescaped.{escaped-is-one}
use Rattle.field_rules.proofs.laws.escaped_is_one.Goals as goal

pub returns : goal.returns
returns c = escaped-is-one
