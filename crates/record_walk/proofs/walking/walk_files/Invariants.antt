use Rattle.std.proofs.Common.{◌≡◌, drop}
use Rattle.record_walk.specs.Declarations.{declarations}
use Rattle.record_walk.specs.Walking.{Room}
use Rattle.record_walk.specs.Visitor.{Remains}
use Rattle.record_walk.proofs.walking.walk_files.Given as goal

-- the files from this position on are left to be shown, and there is room for them
abbrev pub invariant-loop-file : goal.invariant-loop-file
invariant-loop-file g l =
    let v = l.visitor in
    let w = l.fn.visitor in
    let V = g.V.Visitor in
    let rest = declarations l.cursor.counts (drop l.file-index l.files) in
    record {
      left : Remains (V.after w) (V.ready w) (V.after v) (V.ready v) (declarations l.fn.base l.files) rest;
      room : Room l.cursor.counts rest;
      kept : V.kept v ≡ V.kept w;
      borrows : V.borrows v ≡ V.borrows w;
    }
