-- What linking leaves of a field: all but its type name and its type.
use Rattle.std.proofs.Common.{◌≡◌, ℕ, List, [], ◌∷◌, refl}
use Rattle.proto_types.specs.Readers.{text_of}
use Rattle.proto_types.specs.declared.records.field.FieldDescriptorProto.{FieldDescriptorProto}
use Rattle.name_resolution.specs.declared.filter.ResolveNameFilter.TheVariants.{FieldType as AnyType}
use Rattle.name_resolution.specs.Resolution.{Resolution}
use Rattle.reference_pass.specs.Linked.{linked_field, typed}
use Rattle.reference_pass.specs.Setting.{Setting, resolve}

-- a field with the type name and the type of another
abbrev pub retyped : FieldDescriptorProto → FieldDescriptorProto → FieldDescriptorProto
retyped f g = record f { type_name = g.type_name; type_ = g.type_ }

kept-by : (r : Resolution) (f : FieldDescriptorProto) (name : List ℕ)
    → let g : FieldDescriptorProto = elim name [ [] ↦ f | _ ∷ _ ↦ typed r f ] in g ≡ retyped f g
kept-by r f [] = refl
kept-by r f (c ∷ cs) = refl

pub field-kept : (s : Setting) (file : ℕ) (full_name : List ℕ) (f : FieldDescriptorProto) → linked_field s file full_name f ≡ retyped f (linked_field s file full_name f)
field-kept s file full_name f = kept-by (resolve s file full_name AnyType (text_of f.type_name)) f (text_of f.type_name)
