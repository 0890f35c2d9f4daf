use Rattle.std.proofs.Common.{arith}
use Rattle.std.proofs.lemmas.Grind.{common_steps}
use Rattle.std.proofs.lemmas.List.{take_all}
use Rattle.protoc_rules.proofs.Nested.{fields_open}
use Rattle.protoc_rules.proofs.written.+add_fields.Goals as goal

pub returns : goal.returns
returns t c =
    let whole = fields_open c.args.message.now in
    let all = take_all c.loop-nested.nested-index c.as_slice-messages.result.now c.loop-nested-test.false in
    grind (arith, common_steps, whole, all)
