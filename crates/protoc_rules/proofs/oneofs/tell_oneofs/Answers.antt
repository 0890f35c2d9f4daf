use Rattle.std.proofs.Common.{arith}
use Rattle.std.proofs.lemmas.Grind.{common_steps}
use Rattle.protoc_rules.specs.Oneofs.{placed_faults}
use Rattle.protoc_rules.proofs.Told.{told_next}
use Rattle.protoc_rules.proofs.oneofs.tell_oneofs.Goals as goal

pub loop-position-preserved : goal.loop-position-preserved
loop-position-preserved c =
    let tell = placed_faults c.args.fields.now c.first_synthetic-first.result in
    let i = c.loop-position.position in
    let next = told_next tell c.args.oneofs.now i c.index-oneofs-position.result c.loop-position-test.true c.index-oneofs-position.is in
    grind (arith, common_steps, next)
