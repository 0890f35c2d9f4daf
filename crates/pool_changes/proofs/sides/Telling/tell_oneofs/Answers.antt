use Rattle.pool_changes.specs.Removed.{oneof_changes}
use Rattle.pool_changes.specs.Sides.{versions}
use Rattle.pool_changes.proofs.Steps.{told-next}
use Rattle.pool_changes.proofs.sides.Telling.tell_oneofs.Goals as goal

-- the list has what one more oneof changes
pub loop-position-preserved : goal.loop-position-preserved
loop-position-preserved c =
    let x = c.index-oneofs-position.result in
    let pair = c.args.pair in
    told-next (oneof_changes (versions c.args.self) pair.before.now pair.after.now) c.as_slice-oneofs.result.now pair.before.now.oneofs c.loop-position.position x x c.args.told.now c.loop-position.told c.tell_oneof.new.told
    c.as_slice-oneofs.ensures c.loop-position-test.true c.index-oneofs-position.is c.loop-position.invariant c.in_ok-tell_oneof.ensures
