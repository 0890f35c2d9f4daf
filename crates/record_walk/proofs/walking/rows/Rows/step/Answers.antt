use Rattle.std.proofs.Common.{◌≡◌, ◌+◌, ◌++◌, List, [], ◌∷◌, map, reverse, ap, sym, ◌∙◌}
use Rattle.std.proofs.lemmas.List.{reverse-append}
use Rattle.record_walk.specs.declared.walking.row.Row.{Row}
use Rattle.record_walk.specs.Cursor.{line, line_in}
use Rattle.record_walk.specs.Walking.{parent_of, protos_in}
use Rattle.record_walk.proofs.Cursors.{stacked-filled, stacked-none}
use Rattle.record_walk.proofs.walking.rows.Rows.step.Goals as goal
use Rattle.record_walk.proofs.walking.rows.Rows.step.Goals.{then-not-is_empty, else-not-is_empty}

-- the last row of the code is the first line
first-line : (rows front : List Row) (row : Row) → rows ≡ front ++ row ∷ [] → map line_in (reverse rows) ≡ line_in row ∷ map line_in (reverse front)
first-line rows front row is = ap (λ rs. map line_in (reverse rs)) is ∙ ap (map line_in) (reverse-append front (row ∷ []))

pub next-requires : goal.next-requires
next-requires c =
    let row = c.in_ok-records.field-0 in
    let front = c.pop.new.self.items in
    c.requires (line_in row) (map line_in (reverse front)) (first-line c.args.self.now.list.items front row c.in_ok-records.ensures.items)

pub returns : goal.returns
returns c =
    let row = c.in_ok-records.field-0 in
    let front = c.pop.new.self.items in
    let ls = map line_in (reverse front) in
    let split = c.in_ok-part.ensures in
    let rest = protos_in c.in_ok-part.rest in
    let parent = parent_of c.in_ok-part.part in
    let was = first-line c.args.self.now.list.items front row c.in_ok-records.ensures.items ∙ (λ j. line row.at (sym split.first j) (split.records j) ∷ ls) in
    let behind = line (record row.at { position = row.at.position + 1 }) parent rest in
    elim c.if-not-is_empty.branch [
      | then-not-is_empty w ↦
          rw w.self-is (
            rest,
            ls,
            was,
            first-line w.push_reserved.new.self.items front _ w.push_reserved.ensures.items
                ∙ (λ j. line (w.next.ensures j) ((split.rest ∙ sym split.first) j) rest ∷ ls)
                ∙ sym (stacked-filled rest behind ls (c.is_empty.ensures.filled w.if-not-is_empty.true)),
          )
      | else-not-is_empty w ↦ rw w.self-is (rest, ls, was, sym (stacked-none rest behind ls (c.is_empty.ensures.empty w.if-not-is_empty.false)))
    ]
