use Rattle.std.proofs.Common.{ap, ◌∙◌, ◌∷◌, [], ◌++◌}
use Rattle.plain_data.proofs.Rows.{entries-push, row-push, on_ok, either_way}
use Rattle.plain_data.proofs.text_rows.RowList.push.Goals as goal

pub invariant_of-self : goal.invariant_of-self
invariant_of-self c =
    let m = c.self.inside in
    either_way c.push.result c.push.ensures.bytes c.push.ensures.rows c.push.ensures.bytes_stay c.push.ensures.rows_stay
    (λ bytes rows. rw (bytes, rows, c.as_bytes.ensures.value) (λ at below. row-push m.bytes.items c.args.key.now c.args.number m.rows.items at c.self.invariant below))
    (λ bytes rows. rw (bytes, rows) c.self.invariant)

pub returns-clause-ok : goal.returns-clause-ok
returns-clause-ok c =
    let m = c.self.inside in
    on_ok c.push.result c.push.ensures.bytes c.push.ensures.rows (λ bytes rows.
    rw (bytes, rows, c.as_bytes.ensures.value) (entries-push m.bytes.items c.args.key.now c.args.number m.rows.items c.self.invariant)
    ∙ ap (λ es. es ++ (c.args.key.now, c.args.number) ∷ []) c.self.view_is)
