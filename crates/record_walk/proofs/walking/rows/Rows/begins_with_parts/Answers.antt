use Rattle.std.proofs.Common.{◌≡◌, ◌-◌, Some, length, sym, subst, ◌∙◌}
use Rattle.std.specs.List.{slice_get}
use Rattle.record_walk.specs.Cursor.{line_in}
use Rattle.record_walk.proofs.Passing.{last-line, parts-in}
use Rattle.record_walk.proofs.walking.rows.Rows.begins_with_parts.Goals as goal

-- the last row is the next list
pub returns-in-Some : goal.returns-in-Some
returns-in-Some c = λ want.
    let row = c.in-Some.row.now in
    let last = subst (λ xs. slice_get xs (length xs - 1) ≡ Some row) c.deref.ensures.value (sym c.in-Some.ensures.value) in
    let next = last-line c.args.self.now.list.items row last in
    (line_in row, next.0, next.1, parts-in row.records (sym c.hold_parts.ensures ∙ want))
