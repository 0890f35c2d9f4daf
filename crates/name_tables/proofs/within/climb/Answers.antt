use Rattle.std.proofs.Common.{◌≢◌, ◌<◌, arith}
use Rattle.name_tables.proofs.Counterparts.{parent-before, pair-inside, pair-parents}
use Rattle.name_tables.proofs.within.climb.Goals as goal

pub parent-requires-in-loop-pair : goal.parent-requires-in-loop-pair
parent-requires-in-loop-pair c =
    let pair = c.loop-pair.pair in
    let some : pair.branch ≢ 0 = omega arith in
    pair-inside c.args.branches.now c.args.others.now c.requires.paired.tree pair.branch pair.other some c.loop-pair.invariant.0 c.parent.result c.parent.ensures

pub loop-pair-preserved : goal.loop-pair-preserved
loop-pair-preserved c =
    let pair = c.loop-pair.pair in
    let above = c.parent-in-loop-pair in
    let some : pair.branch ≢ 0 = omega arith in
    let before : c.parent.result < pair.branch = parent-before c.args.branches.now c.requires.paired.tree pair.branch c.parent.result some c.parent.ensures in (
      pair-parents c.args.branches.now c.args.others.now c.requires.paired.tree pair.branch pair.other some c.loop-pair.invariant.0 c.parent.result above.result c.parent.ensures above.ensures,
      omega arith,
    )
