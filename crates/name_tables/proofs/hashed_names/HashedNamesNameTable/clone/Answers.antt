use Rattle.std.proofs.Common.{[], ◌∷◌, ap, sym, ◌∙◌, map as each}
use Rattle.std.specs.FinMap as map
use Rattle.std.specs.FinMap.{from_entries}
use Rattle.std.specs.Map.Iter.{deref_pair}
use Rattle.std.proofs.lemmas.List.{map-append}
use Rattle.std.proofs.lemmas.Map.Iter.{iter_end}
use Rattle.plain_data.specs.Maps.{texts}
use Rattle.plain_data.proofs.Texts.{entries_at_turn, get-before, from_entries-next}
use Rattle.name_tables.proofs.hashed_names.HashedNamesNameTable.clone.Goals as goal

pub add-requires : goal.add-requires
add-requires c =
    let start = c.into_iter-name-iterator.ensures.into_iter_gives ∙ c.iter-name-items.ensures.rest in
    let entries = entries_at_turn deref_pair c.self.inside.table.entries c.loop-name.yielded c.into_iter-name-iterator.result c.loop-name.name-iterator c.next.new.self c.next.result (c.in-Some.name, c.in-Some.definition) start c.loop-name.yielded_by c.in-Some.is c.next.ensures.steps in
    (λ i. map.get (c.loop-name.invariant i) (c.as_str.ensures.value i))
    ∙ get-before c.self.inside.table c.iter-name-items.ensures.unique (each deref_pair c.loop-name.yielded) c.next.new.self (c.in-Some.name.now, c.in-Some.definition.now) entries

pub loop-name-preserved : goal.loop-name-preserved
loop-name-preserved c =
    let start = c.into_iter-name-iterator.ensures.into_iter_gives ∙ c.iter-name-items.ensures.rest in
    let entries = entries_at_turn deref_pair c.self.inside.table.entries c.loop-name.yielded c.into_iter-name-iterator.result c.loop-name.name-iterator c.next.new.self c.next.result (c.in-Some.name, c.in-Some.definition) start c.loop-name.yielded_by c.in-Some.is c.next.ensures.steps in
    c.in_ok-add.ensures.ok
    ∙ (λ i. map.insert (c.loop-name.invariant i) (c.as_str.ensures.value i) (c.in_ok-clone.ensures i))
    ∙ sym (from_entries-next c.self.inside.table c.iter-name-items.ensures.unique (each deref_pair c.loop-name.yielded) c.next.new.self (c.in-Some.name.now, c.in-Some.definition.now) entries)
    ∙ ap (λ es. from_entries (texts es)) (sym (map-append deref_pair c.loop-name.yielded ((c.in-Some.name, c.in-Some.definition) ∷ [])))

pub returns : goal.returns
returns c =
    let start = c.into_iter-name-iterator.ensures.into_iter_gives ∙ c.iter-name-items.ensures.rest in
    c.loop-name.invariant
    ∙ ap (λ es. from_entries (texts es)) (iter_end deref_pair c.self.inside.table.entries c.loop-name.yielded c.into_iter-name-iterator.result c.loop-name.name-iterator c.next.new.self c.next.result start c.loop-name.yielded_by c.in-None.is c.next.ensures.steps).0
    ∙ c.self.view_is
