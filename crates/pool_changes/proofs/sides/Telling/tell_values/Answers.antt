use Rattle.pool_changes.specs.Removed.{value_changes}
use Rattle.pool_changes.specs.Sides.{versions}
use Rattle.pool_changes.proofs.Steps.{told-next}
use Rattle.pool_changes.proofs.sides.Telling.tell_values.Goals as goal

-- the list has what one more value changes
pub loop-position-preserved : goal.loop-position-preserved
loop-position-preserved c =
    let x = c.index-values-position.result in
    told-next (value_changes (versions c.args.self) c.args.after.now) c.as_slice-values.result.now c.args.before.now.values c.loop-position.position x x c.args.told.now c.loop-position.told c.tell_value.new.told
    c.as_slice-values.ensures c.loop-position-test.true c.index-values-position.is c.loop-position.invariant c.in_ok-tell_value.ensures
