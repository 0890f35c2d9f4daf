use Rattle.std.proofs.Common.{◌≡◌, ◌+◌, ◌<◌, sym, ◌∙◌, subst, arith, rules, slice_index_or, slice_set, take, length}
use Rattle.std.proofs.lemmas.List.{get_or_read, take-set-le}
use Rattle.plain_data.specs.Digests.{digest_of}
use Rattle.plain_data.specs.TextRows.{AreDigested, AreWithin, entries_of, no_row, text_at}
use Rattle.plain_data.proofs.Rows.{as-many, digested-more, entries-digest, hashed, within-digest}
use Rattle.plain_data.proofs.text_rows.digest_behind.Goals as goal

pub loop-at-preserved : goal.loop-at-preserved
loop-at-preserved c =
    let bytes = c.args.bytes.now in
    let rows = c.loop-at.rows.items in
    let at = c.loop-at.at in
    let was = c.loop-at.invariant in
    let many : length rows ≡ length c.args.rows.now.items = as-many bytes c.args.rows.now.items rows was.2 in
    let there : at < length rows = omega (arith, many) in
    let row : c.index_mut.result.now ≡ slice_index_or rows at no_row = get_or_read rows at c.index_mut.result.now there c.index_mut.ensures.value no_row in
    let also : c.index.result.now ≡ slice_index_or rows at no_row = get_or_read rows at c.index.result.now there c.index.ensures no_row in
    let hash : c.digest.result ≡ digest_of (text_at bytes rows at) = search rules in
    let is : slice_set rows at (hashed c.index_mut.result.now c.digest.result) ≡ slice_set rows at (hashed (slice_index_or rows at no_row) (digest_of (text_at bytes rows at))) =
    λ i. slice_set rows at (hashed (row i) (hash i)) in
    subst (λ rs. AreWithin bytes rs × AreDigested bytes rs (at + 1) × (entries_of bytes rs ≡ entries_of bytes c.args.rows.now.items) × (take c.args.from rs ≡ take c.args.from c.args.rows.now.items))
    (sym is) (
      within-digest bytes rows at was.0,
      digested-more bytes rows at there was.1,
      entries-digest bytes rows at ∙ was.2,
      take-set-le c.args.from rows at _ (omega arith) ∙ was.3,
    )
