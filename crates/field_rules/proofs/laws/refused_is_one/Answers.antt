use Rattle.field_rules.proofs.Unescaped.{refused-is-one}
use Rattle.field_rules.proofs.laws.refused_is_one.Goals as goal

pub returns : goal.returns
returns c = refused-is-one
