use Rattle.std.proofs.Common.{◌≡◌, ◌+◌, ◌<◌, ◌≤◌, ◌^◌, length}
use Rattle.record_walk.specs.Counts.{list_limit}
use Rattle.record_walk.specs.Parts.{row_parts, surrounding}
use Rattle.record_walk.specs.Shown.{row}
use Rattle.record_walk.specs.Visitor.{Remains}
use Rattle.record_walk.specs.Walking.{parent_in, protos_in}
use Rattle.record_walk.proofs.InPlace.{Inside}
use Rattle.record_walk.proofs.walking.parts.walk_row.Given as goal

-- the records from this position on are left to be shown, and the site stands in their list
abbrev pub invariant-loop-part : goal.invariant-loop-part
invariant-loop-part g l =
    let v = l.visitor in
    let w = l.fn.visitor in
    let V = g.V.Visitor in
    let first = l.fn.row.at in
    record {
      inside : Inside l.fn.site l.site l.fn.row l.start;
      parent : parent_in l.records ≡ parent_in l.fn.row.records;
      short : l.position + length (protos_in l.records) ≤ list_limit;
      within : l.position < 2 ^ 31;
      remains : Remains (V.after w) (V.ready w) (V.after v) (V.ready v) (row_parts l.fn.site l.fn.row)
          (row (λ p. p) (surrounding l.fn.site l.fn.row) first.tag l.position l.position (protos_in l.records));
      kept : V.kept v ≡ V.kept w;
      borrows : V.borrows v ≡ V.borrows w;
    }

abbrev pub decreases-loop-part : goal.decreases-loop-part
decreases-loop-part g l = length (protos_in l.records)
