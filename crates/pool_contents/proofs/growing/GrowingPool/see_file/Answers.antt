use Rattle.std.proofs.lemmas.Grind.{common_steps}
use Rattle.std.proofs.Common.{◌≡◌, ◌+◌, ap, ◌∙◌, arith, map, set, get_or}
use Rattle.std.proofs.lemmas.List.{get_or_default}
use Rattle.std.specs.FinMap as finite
use Rattle.std.specs.List.{filter_map}
use Rattle.name_resolution.specs.Visibility.{seen_from}
use Rattle.plain_data.specs.Each.{map_enumerated}
use Rattle.pool_types.specs.declared.contents.file.FileDescriptorInner.{FileDescriptorInner}
use Rattle.pool_contents.specs.Growing.{file_seeing, seeing}
use Rattle.pool_contents.specs.Inner.{contents_in}
use Rattle.pool_contents.proofs.Each.{one, set-each}
use Rattle.pool_contents.proofs.growing.GrowingPool.see_file.Goals as goal

-- the file has those that it imports and those that it sees
pub returns-clause-ok : goal.returns-clause-ok
returns-clause-ok c =
    let old = c.args.self.now in
    let fs = old.inner.files.items in
    let n = c.args.file in
    let was = c.index_mut-item.result.now in
    let is = c.index_mut-item.ensures.value in
    let imports = c.in_ok-dependencies.ensures
    ∙ ap (filter_map (finite.get old.inner.file_names)) (c.as_slice-imports.ensures ∙ ap (λ (f : FileDescriptorInner). f.raw.dependency) (c.index.ensures ∙ get_or_default fs n c.index.result.now was c.requires.here)) in
    let sees = c.in_ok-seen.ensures.keys ∙ ap (λ xs. seen_from (map (λ f. f.raw) xs) (finite.get old.inner.file_names) n) c.deref.ensures.value in
    let made : FileDescriptorInner = record was { dependencies = c.in_ok-dependencies.dependencies; transitive_dependencies = c.in_ok-seen.seen } in
    let item : made ≡ seeing old n (get_or fs n was) =
    λ i. record (is i) { dependencies = imports i; transitive_dependencies = record { keys = sees i } } in
    let first : 0 + n ≡ n = omega arith in
    let files : set fs n made ≡ file_seeing old n =
    ap (set fs n) item ∙ set-each (seeing old n) 0 n fs was c.requires.here ∙ ap (λ m. map_enumerated (one (seeing old n) m) 0 fs) first in
    λ i. record (contents_in old.inner) { files = files i }

pub returns-clause-kept : goal.returns-clause-kept
returns-clause-kept c = grind (arith, common_steps)
