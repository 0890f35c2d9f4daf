use Rattle.std.proofs.Common.{◌≡◌, ◌++◌, [], ℤ, ℕ, List, pos, to_z, of_z, w32, get_or, ap, ◌∙◌, arith}
use Rattle.std.proofs.lemmas.Int.{to_z-of_z}
use Rattle.std.proofs.lemmas.List.{get_or_default}
use Rattle.plain_data.specs.Lists.{only_if}
use Rattle.proto_types.specs.Paths.{entry_path}
use Rattle.verdict_texts.specs.Places.{is_outside}
use Rattle.verdict_texts.proofs.Looking.{looked-next}
use Rattle.verdict_texts.proofs.places.add_imports.Goals as goal

-- one more index is looked at
pub loop-position-preserved : goal.loop-position-preserved
loop-position-preserved c =
    let imports : List (List ℕ) = c.args.imports.now in
    let tag : ℤ = to_z w32 (of_z w32 c.args.tag) in
    let xs : List ℤ = c.args.indexes.now in
    let i = c.loop-position.position in
    let x : ℤ = get_or xs i (pos 0) in
    let paths : List (List ℤ) = c.loop-position.paths.items in
    let gives : (ℕ × ℤ) → List (List ℤ) = λ e. only_if (is_outside imports e.1) (entry_path [] tag e.0) in
    let number : to_z w32 (of_z w32 x) ≡ x = grind (arith, to_z-of_z) in
    let wanted : c.is_outside-is_wanted.result ≡ is_outside imports x = c.is_outside-is_wanted.ensures ∙ ap (is_outside imports) number in
    let told : c.add_if.new.paths.items ≡ paths ++ gives (i, x) =
    c.in_ok-add_if.ensures ∙ ap (λ b. paths ++ only_if b (entry_path [] tag i)) wanted in
    told ∙ looked-next gives c.args.paths.now.items paths xs i x c.loop-position-test.true (get_or_default xs i (pos 0) x c.loop-position-test.true) c.loop-position.invariant
