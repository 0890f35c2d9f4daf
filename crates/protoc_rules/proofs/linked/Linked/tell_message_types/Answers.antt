use Rattle.std.proofs.Common.{arith}
use Rattle.std.proofs.lemmas.Grind.{common_steps}
use Rattle.protoc_rules.specs.Strict.{message_type_faults}
use Rattle.protoc_rules.proofs.Told.{told_next}
use Rattle.protoc_rules.proofs.linked.Linked.tell_message_types.Goals as goal

pub loop-index-preserved : goal.loop-index-preserved
loop-index-preserved c =
    let tell = message_type_faults c.args.types.now in
    let i = c.loop-index.index in
    let next = told_next tell c.args.self.messages.now i c.index-messages-index.result c.loop-index-test.true c.index-messages-index.is in
    grind (arith, common_steps, next)
