use Rattle.std.proofs.Common.{◌≡◌, ℤ, true, false, cond, Some, List, [], refl, ap, sym, ◌∙◌, subst, length, get_or, eqb}
use Rattle.std.specs.BTreeMap.{get}
use Rattle.std.specs.Cmp.{unsigned_tied}
use Rattle.std.specs.FinMap as finite
use Rattle.std.specs.List.{filter_map}
use Rattle.std.specs.Option.{IfSome}
use Rattle.std.specs.Ordering.{nat_cmp}
use Rattle.std.proofs.lemmas.Bool.{eqb-true}
use Rattle.std.proofs.lemmas.List.{nil_from_length}
use Rattle.proto_types.specs.File.{file_at}
use Rattle.plain_data.specs.Lists.{at}
use Rattle.name_resolution.specs.Seen.{SeesEach}
use Rattle.name_resolution.specs.Visibility.{public_imports_of}
use Rattle.name_resolution.proofs.Linked.{file_at-raws, raws}
use Rattle.name_resolution.proofs.Seeing.{SeesEach-none}
use Rattle.name_resolution.proofs.visibility.Sight.see_public_imports.Goals as goal

-- a file without public imports
pub returns-then-is_empty-clause-sees : goal.returns-then-is_empty-clause-sees
returns-then-is_empty-clause-sees c =
    let numbers = finite.get c.args.file_names.now in
    let raw = (get_or c.args.files.now c.args.file c.index-files-file.result).raw in
    let here : file_at (raws c.args.files.now) c.args.file ≡ raw =
    file_at-raws c.args.files.now c.args.file c.index-files-file.result c.requires.here in
    let none : raw.public_dependency ≡ [] =
    nil_from_length raw.public_dependency (sym (ap (λ (xs : List ℤ). length xs) c.as_slice.ensures) ∙ eqb-true (length c.as_slice.result.now) 0 (sym c.is_empty.ensures ∙ c.if-is_empty.true)) in
    subst (λ xs. SeesEach xs c.args.self.now.seen c.args.self.now.seen)
    (sym (ap (public_imports_of numbers) here ∙ ap (λ ps. filter_map numbers (filter_map (at raw.dependency) ps)) none))
    (SeesEach-none c.args.self.now.seen)

-- one of which they were not looked up yet
pub returns-clause-sees : goal.returns-clause-sees
returns-clause-sees c =
    let numbers = finite.get c.args.file_names.now in
    let here : file_at (raws c.args.files.now) c.args.file ≡ (get_or c.args.files.now c.args.file c.index-files-file.result).raw =
    file_at-raws c.args.files.now c.args.file c.index-files-file.result c.requires.here in
    subst (λ xs. SeesEach xs c.args.self.now.seen c.see_each-2.new.self)
    (c.as_slice-2.ensures ∙ c.in_ok-found.ensures ∙ ap (public_imports_of numbers) (sym here)) c.in_ok-see_each.ensures

pub returns-clause-publics : goal.returns-clause-publics
returns-clause-publics c = λ n.
    let numbers = finite.get c.args.file_names.now in
    let file = c.args.file in
    let here : file_at (raws c.args.files.now) file ≡ (get_or c.args.files.now file c.index-files-file.result).raw =
    file_at-raws c.args.files.now file c.index-files-file.result c.requires.here in
    let found = c.in_ok-found.ensures ∙ ap (public_imports_of numbers) (sym here) in
    let entry : get nat_cmp c.insert.new.self n ≡ cond (eqb file n) (Some c.in_ok-found.found) (get nat_cmp c.args.self.now.publics n) =
    c.in_ok-insert.ensures.updates.0 n ∙ ap (λ b. cond b (Some c.in_ok-found.found) (get nat_cmp c.args.self.now.publics n)) (unsigned_tied file n) in
    subst (λ o. IfSome o (λ list. list ≡ public_imports_of numbers (file_at (raws c.args.files.now) n))) (sym entry)
    (elim (eqb file n) as (λ b. eqb file n ≡ b → IfSome (cond b (Some c.in_ok-found.found) (get nat_cmp c.args.self.now.publics n)) (λ list. list ≡ public_imports_of numbers (file_at (raws c.args.files.now) n))) [
      | true ↦ λ same. found ∙ ap (λ m. public_imports_of numbers (file_at (raws c.args.files.now) m)) (eqb-true file n same)
      | false ↦ λ other. c.requires.publics n
    ] refl)
