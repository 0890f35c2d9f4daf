use Rattle.std.proofs.Common.{arith}
use Rattle.std.proofs.lemmas.Grind.{common_steps}
use Rattle.protoc_rules.specs.Ranges.{extension_range_faults}
use Rattle.protoc_rules.proofs.Told.{told_further}
use Rattle.protoc_rules.proofs.ranges.tell_extension_ranges.Goals as goal

pub loop-position-preserved : goal.loop-position-preserved
loop-position-preserved c =
    let next = told_further (extension_range_faults c.args.extensions.is_set c.args.id.now) c.args.extensions.spans.now c.loop-position.position c.loop-position-test.true in
    grind (arith, common_steps, next)
