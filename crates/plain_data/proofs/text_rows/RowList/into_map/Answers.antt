use Rattle.std.proofs.Common.{◌≡◌, ap, ◌∙◌, subst, length, rules}
use Rattle.plain_data.specs.Maps.{inserted}
use Rattle.plain_data.specs.TextRows.{IsRun, IsSound, entries_of, made_of}
use Rattle.plain_data.proofs.Rows.{sound-run, made-sorted, digested-moved, within-moved}
use Rattle.plain_data.proofs.text_rows.RowList.into_map.Goals as goal

pub ascends-requires-clause-within : goal.ascends-requires-clause-within
ascends-requires-clause-within c =
    rw c.as_slice.ensures.value
    (within-moved c.as_slice-bytes.result.now c.digest_behind.new.rows.items c.sort_behind.new.rows.items c.sort_behind.ensures.moved c.digest_behind.ensures.within)

pub ascends-requires-clause-digested : goal.ascends-requires-clause-digested
ascends-requires-clause-digested c =
    rw c.as_slice.ensures.value
    (digested-moved c.as_slice-bytes.result.now c.digest_behind.new.rows.items c.sort_behind.new.rows.items c.sort_behind.ensures.moved c.digest_behind.ensures.digested)

pub invariant_of-result : goal.invariant_of-result
invariant_of-result c =
    let bytes = c.as_slice-bytes.result.now in
    let digested = c.digest_behind.new.rows.items in
    let sorted = c.sort_behind.new.rows.items in
    let moved = c.sort_behind.ensures.moved in
    let run : IsRun bytes sorted 0 (length sorted) = rw (← c.as_slice.ensures.value) (c.ascends.ensures (search rules)) in
    subst (λ bs. IsSound bs sorted c.push.new.self.items) c.as_slice-bytes.ensures.value
    (sound-run bytes sorted _ (within-moved bytes digested sorted moved c.digest_behind.ensures.within) run
    (digested-moved bytes digested sorted moved c.digest_behind.ensures.digested) (search rules))

pub returns : goal.returns
returns c =
    let m = c.self.inside in
    let bytes = c.as_slice-bytes.result.now in
    let sorted = c.sort_behind.new.rows.items in
    let run : IsRun bytes sorted 0 (length sorted) = rw (← c.as_slice.ensures.value) (c.ascends.ensures (search rules)) in
    let made : made_of bytes sorted ≡ inserted (entries_of bytes m.rows.items) =
    made-sorted bytes c.digest_behind.new.rows.items sorted c.sort_behind.ensures.moved run
    ∙ ap inserted (c.digest_behind.ensures.same ∙ ap (entries_of bytes) (c.in_ok-sorted.ensures.items ∙ c.as_slice-rows.ensures.value)) in
    subst (λ bs. made_of bs sorted ≡ inserted (entries_of bs m.rows.items)) c.as_slice-bytes.ensures.value made
    ∙ ap inserted c.self.view_is
