-- The references of the first file with a name, by the file that has them.
use Rattle.std.proofs.Common.{◌≡◌, ℕ, Bool, true, false, cond, Option, Some, List, [], ◌∷◌, map, refl, ap, ◌∙◌}
use Rattle.std.specs.List.{find}
use Rattle.std.specs.Option.{option_map, option_map_or}
use Rattle.std.specs.Str.{bytes_eq}
use Rattle.proto_types.specs.Readers.{text_of}
use Rattle.pool_types.specs.declared.contents.file.FileDescriptorInner.{FileDescriptorInner}
use Rattle.record_lists.specs.Reference.{references}
use Rattle.descriptor_linker.specs.Report.Lines.{none_line, reference_lines, refs_answer}

-- the first of some values, by what they are mapped to
pub find-mapped : {X Y : Type 0} (h : X → Y) (test : Y → Bool) (xs : List X) → option_map h (find (λ x. test (h x)) xs) ≡ find test (map h xs)
find-mapped h test [] = refl
find-mapped h test (x ∷ xs) = elim (test (h x)) as (λ b. option_map h (cond b (Some x) (find (λ y. test (h y)) xs)) ≡ cond b (Some (h x)) (find test (map h xs))) [
  | true ↦ refl
  | false ↦ find-mapped h test xs
]

pub found-named : (files : List FileDescriptorInner) (name : List ℕ) (found : Option FileDescriptorInner) → found ≡ find (λ f. bytes_eq (text_of f.raw.name) name) files
    → option_map (λ f. f.raw) found ≡ find (λ f. bytes_eq (text_of f.name) name) (map (λ f. f.raw) files)
found-named files name found is = ap (option_map (λ f. f.raw)) is ∙ find-mapped (λ f. f.raw) (λ f. bytes_eq (text_of f.name) name) files

pub refs-named : (files : List FileDescriptorInner) (name : List ℕ) (found : Option FileDescriptorInner) → found ≡ find (λ f. bytes_eq (text_of f.raw.name) name) files
    → option_map_or (λ f. reference_lines (references (f ∷ []))) (option_map (λ f. f.raw) found) none_line ≡ refs_answer (map (λ f. f.raw) files) name
refs-named files name found is = ap (λ o. option_map_or (λ f. reference_lines (references (f ∷ []))) o none_line) (found-named files name found is)
