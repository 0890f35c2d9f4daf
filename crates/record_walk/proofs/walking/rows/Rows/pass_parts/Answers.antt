use Rattle.std.proofs.Common.{[], refl}
use Rattle.record_walk.specs.Cursor.{lines}
use Rattle.record_walk.proofs.Passing.{fewer-left, passes-more}
use Rattle.record_walk.proofs.walking.rows.Rows.pass_parts.Goals as goal

pub loop-self-init : goal.loop-self-init
loop-self-init c = ([], refl, tt)

pub loop-self-preserved : goal.loop-self-preserved
loop-self-preserved c =
    passes-more c.args.wanted (lines c.args.self.now) (lines c.loop-self.self) (lines c.pop.new.self) c.pop.result c.loop-self.invariant (c.if-begins_with_parts.ensures refl) c.loop-self-test.true c.pop.ensures

pub loop-self-smaller : goal.loop-self-smaller
loop-self-smaller c = fewer-left (lines c.loop-self.self) (lines c.pop.new.self) c.pop.result (c.if-begins_with_parts.ensures refl) c.pop.ensures
