-- The type of a field.
use Rattle.std.specs.Prelude.{not, List, [], ◌∷◌, ◌++◌, is_some}
use Rattle.std.specs.Option.{option_and_then}
use Rattle.std.specs.declared.option.Option.{Option}
use Rattle.proto_types.specs.declared.tag.field.TheConstants as field
use Rattle.proto_types.specs.declared.records.field.FieldDescriptorProto.{FieldDescriptorProto}
use Rattle.pool_types.specs.declared.kinds.KindIndex.{KindIndex}
use Rattle.pool_faults.specs.declared.fault.DescriptorErrorKind.{DescriptorErrorKind}
use Rattle.pool_faults.specs.declared.fault.DescriptorErrorKind.TheVariants.{MissingRequiredField}
use Rattle.pool_faults.specs.Labels.{label_in}
use Rattle.plain_data.specs.Lists.{listed, only_if}
use Rattle.proto_types.specs.Readers.{text_of, type_of}
use Rattle.record_walk.specs.Shown.{Shown}
use Rattle.name_resolution.specs.declared.filter.ResolveNameFilter.TheVariants.{FieldType}
use Rattle.pool_types.specs.Kinds.{simple_kind, named_kind}
use Rattle.name_resolution.specs.References.{reference_fault}
use Rattle.name_resolution.specs.Resolution.{Resolution, kind_found}
use Rattle.reference_pass.specs.Setting.{Setting, resolve}

-- what the type name of a field means; the scope is the full name of the field itself
abbrev pub resolve_type : Setting → Shown → FieldDescriptorProto → Resolution
resolve_type s d f = resolve s d.file d.full_name FieldType (text_of f.type_name)

-- the kind of a field: of the definition that its type name means, else of the type as it is
-- written; none where there is a fault
abbrev pub field_kind : Setting → Shown → FieldDescriptorProto → Option KindIndex
field_kind s d f = elim (text_of f.type_name) [
  | [] ↦ simple_kind (type_of f.type_)
  | _ ∷ _ ↦ option_and_then (named_kind (type_of f.type_)) (kind_found (resolve_type s d f))
]

-- the fault of the type of a field, at its path followed by 6: of the reference, where there is a
-- type name; else that the written type has no kind of its own
abbrev pub type_faults : Setting → Shown → FieldDescriptorProto → List DescriptorErrorKind
type_faults s d f = elim (text_of f.type_name) [
  | [] ↦ only_if (not (is_some (simple_kind (type_of f.type_))))
      (MissingRequiredField (label_in s.files d.file (d.path ++ field.TYPE_NAME ∷ [])))
  | _ ∷ _ ↦ listed (reference_fault s.files (text_of f.type_name) d.file
      (d.path ++ field.TYPE_NAME ∷ []) (resolve_type s d f))
]
