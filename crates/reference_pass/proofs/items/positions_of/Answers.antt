use Rattle.reference_pass.proofs.Numbered.{leads-next}
use Rattle.reference_pass.proofs.items.positions_of.Goals as goal

-- one more extension is entered, unless an earlier one has its message and its number
pub loop-position-preserved : goal.loop-position-preserved
loop-position-preserved c =
    leads-next c.args.extensions.now c.loop-position.position c.index-extensions-position.result c.loop-position.positions c.enter.new.positions c.loop-position-test.true
    c.index-extensions-position.is c.loop-position.invariant c.in_ok-enter.ensures.ok
