use Rattle.std.proofs.Common.{◌≡◌, ◌∙◌, ap, drop, length, subst, rules}
use Rattle.std.proofs.lemmas.List.{take_rest}
use Rattle.std.specs.List.Sorted.{IsPermutation}
use Rattle.plain_data.proofs.Rows.{put-back}
use Rattle.plain_data.proofs.text_rows.sort_behind.Goals as goal

pub returns-clause-moved : goal.returns-clause-moved
returns-clause-moved c =
    let len : c.args.rows.now.len ≡ length c.args.rows.now.items = search rules in
    let moved : IsPermutation (drop c.args.from c.args.rows.now.items) c.sort_rows.new.rows =
    subst (λ rows. IsPermutation rows c.sort_rows.new.rows)
    (take_rest c.deref_mut.result.now c.args.from ∙ ap (drop c.args.from) c.deref_mut.ensures.value) c.sort_rows.ensures in
    rw c.deref_mut.ensures.value (put-back c.args.rows.now.items c.sort_rows.new.rows _ _ c.args.from _ len c.requires moved)
