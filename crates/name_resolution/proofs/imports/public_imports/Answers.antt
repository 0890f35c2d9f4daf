use Rattle.std.proofs.Common.{◌≡◌, ◌<◌, ◌++◌, take, length, get_or, ap, sym, ◌∙◌, subst, List, ℤ, pos, w32, FitsSigned, to_z, of_z, to_z-of_z, rules}
use Rattle.std.proofs.lemmas.List.{append-nil, get_or_default}
use Rattle.std.specs.FinMap as finite
use Rattle.std.specs.List.{filter_map}
use Rattle.std.specs.Option.{option_and_then}
use Rattle.plain_data.specs.Lists.{listed, at}
use Rattle.name_resolution.proofs.Publics.{placed_more}
use Rattle.name_resolution.proofs.imports.public_imports.Goals as goal
use Rattle.name_resolution.proofs.imports.public_imports.Goals.{in-Some+in_ok-push, in_default}

-- one place more is looked at
pub loop-place-preserved : goal.loop-place-preserved
loop-place-preserved c =
    let numbers = finite.get c.args.file_names.now in
    let names = c.args.file.now.dependency in
    let places = c.args.file.now.public_dependency in
    let index = c.loop-place.place-index in
    let within : index < length places = subst (λ (xs : List ℤ). index < length xs) c.as_slice-place-items.ensures c.loop-place-test.true in
    let place = get_or places index (pos 0) in
    let fits : FitsSigned w32 (get_or c.as_slice-place-items.result.now index (pos 0)) = search rules in
    let same = to_z-of_z fits ∙ ap (λ (xs : List ℤ). get_or xs index (pos 0)) c.as_slice-place-items.ensures in
    let is : at c.as_slice-names.result.now (to_z w32 (of_z w32 (get_or c.as_slice-place-items.result.now index (pos 0)))) ≡ at names place = λ i. at (c.as_slice-names.ensures i) (same i) in
    let more = placed_more (at names) numbers places index place within (get_or_default places index (pos 0) place within) in
    let found = ap (option_and_then numbers) is in
    elim c.match-import_at.branch [
      | in-Some+in_ok-push w ↦
          w.files-is ∙ w.in_ok-push.ensures.ok
          ∙ (λ i. c.loop-place.invariant i ++ listed ((w.in-Some.ensures ∙ found) i))
          ∙ sym more
      | in_default w ↦
          w.files-is ∙ c.loop-place.invariant
          ∙ sym (more ∙ ap (λ o. filter_map numbers (filter_map (at names) (take index places)) ++ listed o) (sym (w.in_default.ensures ∙ found)) ∙ append-nil (filter_map numbers (filter_map (at names) (take index places))))
    ]
