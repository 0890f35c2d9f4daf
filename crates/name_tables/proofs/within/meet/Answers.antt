use Rattle.std.proofs.Common.{◌<◌, ◌≢◌, arith}
use Rattle.name_tables.proofs.Counterparts.{parent-before}
use Rattle.name_tables.proofs.within.meet.Goals as goal

pub loop-pair-smaller : goal.loop-pair-smaller
loop-pair-smaller c =
    let some : c.loop-pair.at ≢ 0 = omega arith in
    parent-before c.args.branches.now c.requires.paired.tree c.loop-pair.at c.parent-at.result some c.parent-at.ensures

pub loop-pair-preserved : goal.loop-pair-preserved
loop-pair-preserved c =
    let some : c.loop-pair.at ≢ 0 = omega arith in
    let before : c.parent-at.result < c.loop-pair.at = parent-before c.args.branches.now c.requires.paired.tree c.loop-pair.at c.parent-at.result some c.parent-at.ensures in
    (c.climb-pair-in-loop-pair.ensures.pair, c.climb-pair-in-loop-pair.ensures.before, omega arith)
