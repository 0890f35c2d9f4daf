use Rattle.std.proofs.Common.{◌≡◌, length}
use Rattle.record_walk.specs.Counts.{counted}
use Rattle.record_walk.specs.Cursor.{IsSound, left}
use Rattle.record_walk.specs.Visitor.{Remains}
use Rattle.record_walk.proofs.walking.walk_left.Given as goal

-- what the cursor has before it is left to be shown
abbrev pub invariant-loop-declaration : goal.invariant-loop-declaration
invariant-loop-declaration g l =
    let v = l.visitor in
    let w = l.fn.visitor in
    let V = g.V.Visitor in
    record {
      sound : IsSound l.cursor;
      remains : Remains (V.after w) (V.ready w) (V.after v) (V.ready v) (left l.fn.cursor) (left l.cursor);
      counts : counted l.cursor.counts (left l.cursor) ≡ counted l.fn.cursor.counts (left l.fn.cursor);
      kept : V.kept v ≡ V.kept w;
      borrows : V.borrows v ≡ V.borrows w;
    }

abbrev pub decreases-loop-declaration : goal.decreases-loop-declaration
decreases-loop-declaration g l = length (left l.cursor)
