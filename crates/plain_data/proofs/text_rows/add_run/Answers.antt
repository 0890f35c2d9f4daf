use Rattle.std.proofs.Common.{ℕ, List, Bool, true, false, subst, sym, ◌∙◌, ap, length, is_ok, if◌then◌else◌}
use Rattle.plain_data.specs.TextRows.{bound, IsRun, IsSound}
use Rattle.plain_data.proofs.Rows.{sound-add}
use Rattle.plain_data.proofs.text_rows.add_run.Goals as goal

either : (P : List ℕ → Type 0) (b : Bool) (xs ys : List ℕ) → P xs → P ys → P (if b then xs else ys)
either P true xs ys p q = p
either P false xs ys p q = q

pub returns-then-ascends : goal.returns-then-ascends
returns-then-ascends c =
    let bytes = c.args.bytes.now in
    let rows = c.args.rows.now in
    let runs = c.args.runs.now.items in
    let run : IsRun bytes rows (bound runs (length runs)) (length rows) =
    subst (λ from. IsRun bytes rows from (length rows))
    (c.start_of-from.ensures ∙ ap (λ ends. bound ends (length ends)) c.as_slice-ends.ensures.value)
    (c.ascends.ensures c.if-ascends.true) in
    subst (IsSound bytes rows) (sym c.push.ensures.items)
    (either (IsSound bytes rows) (is_ok c.push.result) _ _ (sound-add bytes rows runs c.requires.sound run c.requires.digested) c.requires.sound)
