use Rattle.std.proofs.Common.{◌≡◌, ap, sym, subst, ◌∙◌, [], slice_index_or, slice_set}
use Rattle.std.proofs.lemmas.List.{get_or_read}
use Rattle.std.specs.FinMap as map
use Rattle.std.specs.List.{IsDistinct}
use Rattle.std.specs.Map.{keys_of}
use Rattle.std.specs.Str.{bytes_eq}
use Rattle.plain_data.specs.Maps.{inserted}
use Rattle.plain_data.specs.TextEntries.{Holds, Lacks}
use Rattle.plain_data.specs.TextMaps.{AreSound, map_of}
use Rattle.plain_data.proofs.Rows.{on_ok, either_way}
use Rattle.plain_data.proofs.TextEntries.{distinct-push, distinct-set, entries-inserted, entries-push, entries-set}
use Rattle.plain_data.proofs.text_map.TextMap.insert.Goals as goal

pub invariant_of-self : goal.invariant_of-self
invariant_of-self c =
    let entries = c.in-Few.entries.items in
    let at = c.in-Some.at in
    let holds : Holds entries c.args.key.now at = rw (← c.as_slice.ensures.value, ← c.as_bytes.ensures.value) c.in-Some.ensures in
    let read : c.index_mut.result.now ≡ slice_index_or entries at ([], 0) = get_or_read entries at c.index_mut.result.now holds.0 c.index_mut.ensures.value ([], 0) in
    subst (λ e. IsDistinct bytes_eq (keys_of (slice_set entries at (e.0, c.args.number)))) (sym read)
    (distinct-set entries c.args.key.now c.args.number at (subst AreSound c.in-Few.is c.self.invariant) holds)

pub returns-in-Some-clause-ok : goal.returns-in-Some-clause-ok
returns-in-Some-clause-ok c =
    let entries = c.in-Few.entries.items in
    let at = c.in-Some.at in
    let holds : Holds entries c.args.key.now at = rw (← c.as_slice.ensures.value, ← c.as_bytes.ensures.value) c.in-Some.ensures in
    let read : c.index_mut.result.now ≡ slice_index_or entries at ([], 0) = get_or_read entries at c.index_mut.result.now holds.0 c.index_mut.ensures.value ([], 0) in
    ap (λ e. map.from_entries (slice_set entries at (e.0, c.args.number))) read
    ∙ entries-set entries c.args.key.now c.args.number at (subst AreSound c.in-Few.is c.self.invariant) holds
    ∙ ap (λ made. map.insert made c.args.key.now c.args.number) (ap map_of (sym c.in-Few.is) ∙ c.self.view_is)

pub invariant_of-self-then-len-lt-FEW : goal.invariant_of-self-then-len-lt-FEW
invariant_of-self-then-len-lt-FEW c =
    let entries = c.in-Few.entries.items in
    let lacks : Lacks entries c.args.key.now = rw (← c.as_slice.ensures.value, ← c.as_bytes.ensures.value) c.in-None.ensures in
    let distinct = subst AreSound c.in-Few.is c.self.invariant in
    either_way c.push.result c.push.ensures.ok c.push.ensures.ok c.push.ensures.err c.push.ensures.err
    (λ is also. subst (λ es. IsDistinct bytes_eq (keys_of es)) (sym is) (distinct-push entries c.args.key.now c.args.number lacks distinct))
    (λ is also. subst (λ es. IsDistinct bytes_eq (keys_of es)) (sym is) distinct)

pub returns-then-len-lt-FEW-clause-ok : goal.returns-then-len-lt-FEW-clause-ok
returns-then-len-lt-FEW-clause-ok c =
    let entries = c.in-Few.entries.items in
    let lacks : Lacks entries c.args.key.now = rw (← c.as_slice.ensures.value, ← c.as_bytes.ensures.value) c.in-None.ensures in
    on_ok c.push.result c.push.ensures.ok c.push.ensures.ok
    (λ is also. ap map.from_entries is
    ∙ entries-push entries c.args.key.now c.args.number lacks
    ∙ ap (λ made. map.insert made c.args.key.now c.args.number) (ap map_of (sym c.in-Few.is) ∙ c.self.view_is))

pub returns-in_ok-insert-in-None-clause-ok : goal.returns-in_ok-insert-in-None-clause-ok
returns-in_ok-insert-in-None-clause-ok c =
    let entries = c.in-Few.entries.items in
    c.in_ok-insert-in-None.ensures.ok
    ∙ ap (λ made. map.insert made c.args.key.now c.args.number)
    (c.in_ok-rows-in-None.ensures
    ∙ ap inserted c.as_slice-in-None.ensures.value
    ∙ sym (entries-inserted entries (subst AreSound c.in-Few.is c.self.invariant))
    ∙ ap map_of (sym c.in-Few.is) ∙ c.self.view_is)
