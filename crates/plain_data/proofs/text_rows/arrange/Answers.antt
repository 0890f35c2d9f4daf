use Rattle.std.proofs.Common.{◌≡◌, ◌≤◌, subst, ◌∙◌, ap, arith, length, take}
use Rattle.std.specs.FinMap as map
use Rattle.plain_data.specs.TextRows.{bound, IsSound}
use Rattle.plain_data.proofs.Rows.{digested-moved, made-moved, sound-digested, sound-moved}
use Rattle.plain_data.proofs.text_rows.arrange.Goals as goal
use Rattle.plain_data.proofs.text_rows.arrange.Goals.{After-add_run}

pub digest_behind-requires-clause-before : goal.digest_behind-requires-clause-before
digest_behind-requires-clause-before c =
    let runs = c.args.runs.now.items in
    let kept = c.kept_runs-kept.result in
    let within : kept ≤ length runs = subst (λ ends. kept ≤ length ends) c.as_slice-ends.ensures.value c.kept_runs-kept.ensures in
    let from : c.start_of-from.result ≡ bound runs kept = c.start_of-from.ensures ∙ ap (λ ends. bound ends kept) c.as_slice-ends.ensures.value in
    let up = c.requires.sorted.rising kept (length runs) within (omega arith) in
    λ at below. c.requires.sorted.digested at (omega arith)

pub add_run-requires-clause-sound : goal.add_run-requires-clause-sound
add_run-requires-clause-sound c =
    let bytes = c.args.bytes.now in
    let rows = c.args.rows.now.items in
    let digested = c.digest_behind.new.rows.items in
    let runs = c.args.runs.now.items in
    let moved = c.sort_behind.new.rows.items in
    let kept = c.kept_runs-kept.result in
    let within : kept ≤ length runs = subst (λ ends. kept ≤ length ends) c.as_slice-ends.ensures.value c.kept_runs-kept.ensures in
    let from : c.start_of-from.result ≡ bound runs kept = c.start_of-from.ensures ∙ ap (λ ends. bound ends kept) c.as_slice-ends.ensures.value in
    let sound : IsSound bytes digested runs = sound-digested bytes rows digested c.digest_behind.ensures.same runs c.digest_behind.ensures.within c.digest_behind.ensures.digested c.requires in
    rw (c.as_slice.ensures.value, c.truncate.ensures.items)
    (sound-moved bytes digested moved c.sort_behind.ensures.moved runs kept within sound c.digest_behind.ensures.digested
    (subst (λ at. take at moved ≡ take at digested) from c.sort_behind.ensures.before))

pub add_run-requires-clause-digested : goal.add_run-requires-clause-digested
add_run-requires-clause-digested c =
    rw c.as_slice.ensures.value (digested-moved c.args.bytes.now c.digest_behind.new.rows.items c.sort_behind.new.rows.items c.sort_behind.ensures.moved c.digest_behind.ensures.digested)

pub returns-clause-same : goal.returns-clause-same
returns-clause-same c =
    let bytes = c.args.bytes.now in
    let digested = c.digest_behind.new.rows.items in
    let sound : IsSound bytes digested c.args.runs.now.items = sound-digested bytes c.args.rows.now.items digested c.digest_behind.ensures.same c.args.runs.now.items c.digest_behind.ensures.within c.digest_behind.ensures.digested c.requires in
    made-moved bytes digested c.sort_behind.new.rows.items c.sort_behind.ensures.moved sound.distinct
    ∙ ap map.from_entries c.digest_behind.ensures.same
