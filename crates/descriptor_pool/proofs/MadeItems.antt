-- New items that are put behind those of a pool, and new files that are linked by them, are the items of what the new files declare.
use Rattle.std.proofs.Common.{◌≡◌, List, ◌++◌, map, take, drop, ap, sym, subst, ◌∙◌}
use Rattle.std.proofs.lemmas.List.{length-take-le, take-append-drop}
use Rattle.std.specs.List.{AllByRecursion}
use Rattle.pool_types.specs.Contents.{Contents}
use Rattle.plain_data.specs.Each.{map_enumerated}
use Rattle.record_walk.specs.Declarations.{declarations}
use Rattle.record_walk.specs.Shown.{Shown}
use Rattle.reference_pass.specs.Items.{file_item}
use Rattle.reference_pass.specs.Setting.{Setting}
use Rattle.descriptor_pool.specs.Against.{setting_against}
use Rattle.reference_pass.specs.Linking.{ItemLists, ItemsAre, linked_item, lists_in}
use Rattle.reference_pass.specs.declared.items.NewItems.{NewItems}
use Rattle.pool_contents.specs.Inner.{contents_in}
use Rattle.pool_contents.specs.declared.growing.GrowingPool.{GrowingPool}
use Rattle.pool_contents.specs.Growing.{before_items, rolled_back, new_records, records_from}
use Rattle.descriptor_pool.specs.Build.{with_items}
use Rattle.descriptor_pool.specs.Items.{HasImports, HasItems, LinksNew, with_linked, with_new_items}
use Rattle.descriptor_pool.proofs.Bases.{same-base}
use Rattle.descriptor_pool.proofs.Declared.{items-of-files}
use Rattle.descriptor_pool.proofs.LinkedFiles.{links-are}

module _ (p : GrowingPool) where
  abbrev s : Setting
  s = setting_against p.inner

  abbrev ds : List Shown
  ds = declarations p.base (new_records p)

  -- once the new items are there, and all else is as it was
  with-items : (items : NewItems) → HasItems items s ds → with_new_items (contents_in p.inner) items ≡ record (with_items (before_items p) s ds) { files = p.inner.files.items }
  with-items items has = λ i. record (contents_in p.inner) {
    messages = p.inner.messages.items ++ has.messages i;
    enums = p.inner.enums.items ++ has.enums i;
    services = p.inner.services.items ++ has.services i;
    extensions = p.inner.extensions.items ++ has.extensions i;
  }

  -- the linked files are those of the definition
  files-linked : AllByRecursion (HasImports s) (drop p.base.files p.inner.files.items) → with_linked s p ≡ (with_items (before_items p) s ds).files
  files-linked ready =
      let fs = p.inner.files.items in
      let front = take p.base.files fs in
      let rest = drop p.base.files fs in
      let first = length-take-le p.base.files fs p.files_within in
      let seen = ap (map (λ f. f.transitive_dependencies)) (sym (take-append-drop p.base.files fs)) in
      ap (λ xs. front ++ xs)
      (ap (λ n. map_enumerated (linked_item s) n rest) (sym first) ∙ links-are s front rest seen ready ∙ ap (λ n. map_enumerated (file_item s) n (map (λ f. f.raw) rest)) first
      ∙ sym (items-of-files (file_item s) p.base (new_records p)))

  module _ (q r : GrowingPool) (items : NewItems) (has : HasItems items s ds) (put : contents_in q.inner ≡ with_new_items (contents_in p.inner) items) (kept : rolled_back q ≡ rolled_back p)
      (ready : AllByRecursion (HasImports s) (drop p.base.files p.inner.files.items)) (are : ItemsAre s (lists_in (with_items (before_items p) s ds)) ds) where
    base : q.base ≡ p.base
    base = same-base p q kept

    is : contents_in q.inner ≡ record (with_items (before_items p) s ds) { files = p.inner.files.items }
    is = put ∙ with-items items has

    files : q.inner.files.items ≡ p.inner.files.items
    files = ap (λ (c : Contents). c.files) is

    same : declarations q.base (new_records q) ≡ ds
    same = λ i. declarations (base i) (records_from (base i).files (files i))

    linked : with_linked s q ≡ with_linked s p
    linked = λ i. take (base i).files (files i) ++ map_enumerated (linked_item s) (base i).files (drop (base i).files (files i))

    -- the pool has the items of the definition
    pub made-is : LinksNew q r → contents_in r.inner ≡ with_items (before_items p) s ds
    made-is links =
        let Are : ItemLists → Type 0 = λ lists. ItemsAre s lists ds in
        let here = subst (ItemsAre s (lists_in (contents_in q.inner))) (sym same) (subst Are (sym (ap lists_in is)) are) in
        links.by s here ∙ (λ i. record (is i) { files = (linked ∙ files-linked ready) i })
