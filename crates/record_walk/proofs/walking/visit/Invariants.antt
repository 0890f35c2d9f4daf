use Rattle.std.proofs.Common.{◌≡◌, drop}
use Rattle.record_walk.specs.Declarations.{declarations}
use Rattle.record_walk.specs.Walking.{Room}
use Rattle.record_walk.specs.Visitor.{Remains}
use Rattle.record_walk.proofs.walking.visit.Given as goal

-- the files from this position on are left to be shown, and there is room for them
abbrev pub invariant-loop-file : goal.invariant-loop-file
invariant-loop-file g l =
    let v = l.visitor.now in
    let w = l.fn.visitor.now in
    let now = goal.Visitor-dyn g v in
    let was = goal.Visitor-dyn g w in
    let rest = declarations l.cursor.counts (drop l.file-index l.files) in
    record {
      left : Remains (was.after w.1) (was.ready w.1) (now.after v.1) (now.ready v.1) (declarations l.fn.base l.files) rest;
      room : Room l.cursor.counts rest;
      kept : now.kept v.1 ≡ was.kept w.1;
    }
