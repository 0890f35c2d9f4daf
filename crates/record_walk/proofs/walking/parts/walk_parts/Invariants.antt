use Rattle.std.proofs.Common.{◌≡◌, length}
use Rattle.record_walk.specs.Cursor.{left, lines}
use Rattle.record_walk.specs.Parts.{GoesOn}
use Rattle.record_walk.specs.Visitor.{Remains}
use Rattle.record_walk.proofs.walking.parts.walk_parts.Given as goal

-- what the cursor has before it is left to be shown
abbrev pub invariant-loop-row : goal.invariant-loop-row
invariant-loop-row g l =
    let v = l.visitor in
    let w = l.fn.visitor in
    let V = g.V.Visitor in
    record {
      on : GoesOn l.fn.cursor l.cursor;
      remains : Remains (V.after w) (V.ready w) (V.after v) (V.ready v) (left l.fn.cursor) (left l.cursor);
      kept : V.kept v ≡ V.kept w;
      borrows : V.borrows v ≡ V.borrows w;
    }

abbrev pub decreases-loop-row : goal.decreases-loop-row
decreases-loop-row g l = length (lines l.cursor.rows)
