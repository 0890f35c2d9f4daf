use Rattle.std.proofs.Common.{arith}
use Rattle.std.proofs.lemmas.Grind.{common_steps}
use Rattle.protoc_rules.specs.Spans.{reserved_overlap}
use Rattle.protoc_rules.proofs.Told.{told_further}
use Rattle.protoc_rules.proofs.spans.tell_pairs_across.Goals as goal

pub loop-position-preserved : goal.loop-position-preserved
loop-position-preserved c =
    let next = told_further (reserved_overlap c.args.id.now c.args.ranges.reserved.now) c.args.ranges.extensions.now c.loop-position.position c.loop-position-test.true in
    grind (arith, common_steps, next)
