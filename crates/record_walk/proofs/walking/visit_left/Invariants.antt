use Rattle.std.proofs.Common.{◌≡◌, length}
use Rattle.record_walk.specs.Counts.{counted}
use Rattle.record_walk.specs.Cursor.{IsSound, left}
use Rattle.record_walk.specs.Visitor.{Remains}
use Rattle.record_walk.proofs.walking.visit_left.Given as goal

-- what the cursor has before it is left to be shown
abbrev pub invariant-loop-declaration : goal.invariant-loop-declaration
invariant-loop-declaration g l =
    let v = l.visitor.now in
    let w = l.fn.visitor.now in
    let now = goal.Visitor-dyn g v in
    let was = goal.Visitor-dyn g w in
    record {
      sound : IsSound l.cursor;
      remains : Remains (was.after w.1) (was.ready w.1) (now.after v.1) (now.ready v.1) (left l.fn.cursor) (left l.cursor);
      counts : counted l.cursor.counts (left l.cursor) ≡ counted l.fn.cursor.counts (left l.fn.cursor);
      kept : now.kept v.1 ≡ was.kept w.1;
    }

abbrev pub decreases-loop-declaration : goal.decreases-loop-declaration
decreases-loop-declaration g l = length (left l.cursor)
