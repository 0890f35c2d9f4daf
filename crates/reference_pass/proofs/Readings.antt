-- What is read, one after another.
use Rattle.std.proofs.Common.{◌≡◌, ◌<◌, ◌+◌, ℕ, List, [], ◌++◌, length, map, take, get_or, refl, ap, subst, sym, ◌∙◌}
use Rattle.std.specs.List.{flat_map}
use Rattle.record_walk.specs.declared.faults.Faults.{Faults as PassFaults}
use Rattle.plain_data.specs.Each.{map_enumerated}
use Rattle.record_walk.specs.Faults.{Tells}
use Rattle.field_rules.proofs.Each.{all-next}
use Rattle.record_walk.proofs.Tells.{tells-none, tells-two}
use Rattle.reference_pass.specs.Setting.{Setting}
use Rattle.reference_pass.specs.declared.reading.Reading.{Reading}
use Rattle.reference_pass.specs.SecondPass.{Faults}
use Rattle.reference_pass.specs.Reading.{ReadingTells, setting_of}

-- no fault
pub reads-none : (r : Reading) → ReadingTells r r []
reads-none r = record { told = tells-none r.faults; names = refl; file_names = refl }

-- the same faults, as they are said otherwise
pub reads-as : {a b : Reading} {fs gs : Faults} → fs ≡ gs → ReadingTells a b fs → ReadingTells a b gs
reads-as {a} {b} is reads = subst (ReadingTells a b) is reads

-- what a check of the faults alone appends
pub reads-told : {r : Reading} {found : PassFaults} {fs : Faults} → Tells r.faults found fs → ReadingTells r (record r { faults = found }) fs
reads-told told = record { told = told; names = refl; file_names = refl }

-- declarations are read against the same
pub same-setting : {a b : Reading} {fs : Faults} → ReadingTells a b fs → setting_of b ≡ setting_of a
same-setting reads = λ j. record {
  files = map (λ f. f.raw) (reads.told.files j);
  names = reads.names j;
  file_names = (reads.file_names j).now;
  seen = map (λ f. f.transitive_dependencies) (reads.told.files j);
}

-- two readings
pub reads-two : {a b c : Reading} {fs gs : Faults} → ReadingTells a b fs → ReadingTells b c gs → ReadingTells a c (fs ++ gs)
reads-two first second = record {
  told = tells-two first.told second.told;
  names = second.names ∙ first.names;
  file_names = second.file_names ∙ first.file_names;
}

-- the entries of a list up to a position, and the one there
pub reads-next : {X : Type 0} {a b c : Reading} {fs : Faults} (make : Setting → ℕ → X → Faults) (xs : List X) (i : ℕ) (x : X) → i < length xs → x ≡ get_or xs i x
    → ReadingTells a b (flat_map (λ ys. ys) (map_enumerated (make (setting_of a)) 0 (take i xs))) → fs ≡ make (setting_of b) i x → ReadingTells b c fs
    → ReadingTells a c (flat_map (λ ys. ys) (map_enumerated (make (setting_of a)) 0 (take (i + 1) xs)))
reads-next {X} {a} make xs i x below is so_far told next =
    reads-as (sym (all-next (make (setting_of a)) xs i x below is))
    (reads-two so_far (reads-as (told ∙ ap (λ s. make s i x) (same-setting so_far)) next))
