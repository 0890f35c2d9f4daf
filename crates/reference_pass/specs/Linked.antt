-- Records with each reference resolved: a dot and the full name that was found.
use Rattle.std.specs.Prelude.{ℕ, ℤ, pos, List, [], ◌∷◌}
use Rattle.std.specs.Option.{option_map, option_map_or, option_or}
use Rattle.std.specs.declared.option.Option.{Option}
use Rattle.std.specs.declared.option.Option.TheVariants.{Some}
use Rattle.proto_types.specs.declared.file.FileDescriptorProto.{FileDescriptorProto}
use Rattle.proto_types.specs.declared.records.field.FieldDescriptorProto.{FieldDescriptorProto}
use Rattle.proto_types.specs.declared.records.field.FieldType.{FieldType}
use Rattle.proto_types.specs.declared.records.field.FieldType.TheVariants as written
use Rattle.proto_types.specs.declared.records.service.MethodDescriptorProto.{MethodDescriptorProto}
use Rattle.pool_types.specs.declared.contents.definition.DefinitionKind.{DefinitionKind}
use Rattle.pool_types.specs.declared.contents.definition.DefinitionKind.TheVariants as definition
use Rattle.proto_types.specs.Readers.{text_of, type_of}
use Rattle.record_walk.specs.Changed.{Changes, changed_file}
use Rattle.name_resolution.specs.declared.filter.ResolveNameFilter.TheVariants.{Message}
use Rattle.name_resolution.specs.declared.filter.ResolveNameFilter.TheVariants.{FieldType as AnyType}
use Rattle.name_resolution.specs.Resolution.{Resolution, name_found, kind_found}
use Rattle.reference_pass.specs.Setting.{Setting, resolve}

-- a reference with a dot and the full name that was found, or as it was where nothing was found
abbrev pub resolved : Resolution → Option (List ℕ) → Option (List ℕ)
resolved r given = option_or (option_map (λ name. 46 ∷ name) (name_found r)) given

-- the number of the type that a definition is: 11 of a message and 14 of an enum; of any other the
-- number that was given
abbrev pub definition_number : DefinitionKind → Option ℤ → Option ℤ
definition_number (definition.Message _) given = Some (pos 11)
definition_number (definition.Enum _) given = Some (pos 14)
definition_number _ given = given

-- the number of the type that a type name means; a group keeps its own
abbrev pub type_number : FieldType → DefinitionKind → Option ℤ → Option ℤ
type_number written.Group kind given = given
type_number _ kind given = definition_number kind given

-- a field whose type name is a dot and the full name that was found, with the number of its type
abbrev pub typed : Resolution → FieldDescriptorProto → FieldDescriptorProto
typed r f = record f {
  type_name = resolved r f.type_name;
  type_ = option_map_or (λ kind. type_number (type_of f.type_) kind f.type_) (kind_found r) f.type_;
}

-- a linked field, by the file with an index and by its full name; one with an empty type name stays
-- as it is
abbrev pub linked_field : Setting → ℕ → List ℕ → FieldDescriptorProto → FieldDescriptorProto
linked_field s index full_name f = elim (text_of f.type_name) [
  | [] ↦ f
  | _ ∷ _ ↦ typed (resolve s index full_name AnyType (text_of f.type_name)) f
]

-- a linked extension, by the file with an index and by its full name: its type is as that of a
-- field, and its extendee is resolved
abbrev pub linked_extension : Setting → ℕ → List ℕ → FieldDescriptorProto → FieldDescriptorProto
linked_extension s index full_name x = record (linked_field s index full_name x) {
  extendee = resolved (resolve s index full_name Message (text_of x.extendee)) x.extendee;
}

-- a linked method, by the file with an index and by its full name: its input and its output are
-- resolved
abbrev pub linked_method : Setting → ℕ → List ℕ → MethodDescriptorProto → MethodDescriptorProto
linked_method s index full_name m = record m {
  input_type = resolved (resolve s index full_name Message (text_of m.input_type)) m.input_type;
  output_type = resolved (resolve s index full_name Message (text_of m.output_type)) m.output_type;
}

-- what linking changes in a file: its fields, its extensions and its methods
abbrev pub linking : Setting → Changes
linking s = record {
  field = linked_field s;
  extension = linked_extension s;
  method = linked_method s;
}

-- the linked record of the file with an index: all but fields, extensions and methods stays as it
-- was given
abbrev pub linked : Setting → ℕ → FileDescriptorProto → FileDescriptorProto
linked s index f = changed_file (linking s) index f
