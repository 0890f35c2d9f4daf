-- The field of a message that is read next.
use Rattle.std.proofs.Common.{◌≡◌, ℕ, ◌+◌, ◌<◌, List, ◌∷◌, length, drop, get_or, ap, sym, ◌∙◌, add-one}
use Rattle.std.proofs.Math.Seq.{drop-cons}
use Rattle.proto_types.specs.Field.{no_field}
use Rattle.proto_types.specs.declared.records.field.FieldDescriptorProto.{FieldDescriptorProto}

-- it comes next, before those behind it
pub came : (fs : List FieldDescriptorProto) (i : ℕ) (g : FieldDescriptorProto) → i < length fs → g ≡ get_or fs i no_field → drop i fs ≡ g ∷ drop (i + 1) fs
came fs i g there own =
    let next : drop i fs ≡ get_or fs i no_field ∷ drop (i + 1) fs = rw add-one (drop-cons fs i no_field there) in
    next ∙ ap (λ h. h ∷ drop (i + 1) fs) (sym own)
