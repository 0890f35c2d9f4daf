use Rattle.std.proofs.Common.{◌≡◌, IfOk, string_bytes, ap, subst, ◌∙◌}
use Rattle.pool_changes.specs.Texts.{with_changes}
use Rattle.record_walk.specs.Counts.{counts_in}
use Rattle.verdict_texts.specs.Objects.{accepted_json}
use Rattle.numbered_pool.specs.Changes.{changes_told, json_at}
use Rattle.numbered_pool.proofs.changes.json_at.Goals as goal

-- the object of the changes and of the counts that are told
pub returns : goal.returns
unfolding json_at
returns c =
    let all : c.as_slice.result.now ≡ changes_told c.args.new.now c.args.older.now c.args.terms =
    c.as_slice.ensures.value ∙ c.in_ok-told.ensures in
    let object : c.as_str.result.now ≡ accepted_json (counts_in c.args.new.now.pool) =
    c.as_str.ensures.value ∙ c.in_ok-object.ensures ∙ ap accepted_json c.counts.ensures in
    subst (λ text. IfOk c.with_changes.result (λ s. string_bytes s ≡ text)) (λ i. with_changes (all i) (object i)) c.with_changes.ensures
