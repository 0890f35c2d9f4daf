-- What is found of the entries of a list, one after another.
use Rattle.std.proofs.Common.{◌≡◌, ◌<◌, ◌+◌, ℕ, List, length, take, get_or, ap, sym, ◌∙◌}
use Rattle.std.specs.List.{flat_map}
use Rattle.proto_types.specs.declared.file.FileDescriptorProto.{FileDescriptorProto}
use Rattle.pool_faults.specs.declared.fault.DescriptorErrorKind.{DescriptorErrorKind}
use Rattle.plain_data.specs.Each.{map_enumerated}
use Rattle.record_walk.specs.declared.faults.Faults.{Faults}
use Rattle.record_walk.specs.Faults.{Tells, named_files}
use Rattle.record_walk.proofs.Tells.{same-files, tells-as, tells-two}
use Rattle.field_rules.proofs.Each.{all-next}

-- the entries of a list up to a position, and the one there
pub tells-next : {X : Type 0} {a b c : Faults} {fs : List DescriptorErrorKind} (make : List FileDescriptorProto → ℕ → X → List DescriptorErrorKind) (xs : List X) (i : ℕ) (x : X) → i < length xs → x ≡ get_or xs i x
    → Tells a b (flat_map (λ ys. ys) (map_enumerated (make (named_files a)) 0 (take i xs))) → fs ≡ make (named_files b) i x → Tells b c fs
    → Tells a c (flat_map (λ ys. ys) (map_enumerated (make (named_files a)) 0 (take (i + 1) xs)))
tells-next {X} {a} make xs i x below is so_far told next =
    tells-as (sym (all-next (make (named_files a)) xs i x below is))
    (tells-two so_far (tells-as (told ∙ ap (λ files. make files i x) (same-files so_far)) next))
