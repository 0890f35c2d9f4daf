use Rattle.std.proofs.Common.{length}
use Rattle.record_walk.specs.Cursor.{lines}
use Rattle.record_walk.specs.Parts.{PassesLists}
use Rattle.record_walk.proofs.walking.rows.Rows.pass_parts.Given as goal

abbrev pub invariant-loop-self : goal.invariant-loop-self
invariant-loop-self l = PassesLists l.wanted (lines l.fn.self) (lines l.self)

abbrev pub decreases-loop-self : goal.decreases-loop-self
decreases-loop-self l = length (lines l.self)
