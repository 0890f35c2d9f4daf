use Rattle.std.proofs.Common.{arith}
use Rattle.std.proofs.lemmas.Grind.{common_steps}
use Rattle.protoc_rules.specs.Types.{field_type_faults}
use Rattle.protoc_rules.proofs.Told.{told_next}
use Rattle.protoc_rules.proofs.types.tell_field_types.Goals as goal

pub loop-position-preserved : goal.loop-position-preserved
loop-position-preserved c =
    let tell = field_type_faults c.args.types.now in
    let i = c.loop-position.position in
    let next = told_next tell c.args.fields.now i c.index-fields-position.result c.loop-position-test.true c.index-fields-position.is in
    grind (arith, common_steps, next)
