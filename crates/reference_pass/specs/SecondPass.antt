-- What a declaration breaks in the second pass: rules of imports, of fields, of extensions, of
-- values and of methods.
use Rattle.std.specs.Prelude.{List, [], ◌∷◌, ◌++◌, take, unwrap_or}
use Rattle.std.specs.List.{flat_map}
use Rattle.std.specs.declared.option.Option.{Option}
use Rattle.std.specs.declared.option.Option.TheVariants.{None, Some}
use Rattle.proto_types.specs.declared.tag.method.TheConstants as method
use Rattle.proto_types.specs.declared.records.enumeration.EnumDescriptorProto.{EnumDescriptorProto}
use Rattle.proto_types.specs.declared.records.field.FieldDescriptorProto.{FieldDescriptorProto}
use Rattle.proto_types.specs.declared.records.service.MethodDescriptorProto.{MethodDescriptorProto}
use Rattle.proto_types.specs.declared.records.service.ServiceDescriptorProto.{ServiceDescriptorProto}
use Rattle.proto_types.specs.declared.message.DescriptorProto.{DescriptorProto, out-DescriptorProto}
use Rattle.proto_types.specs.Message.{no_message}
use Rattle.pool_types.specs.declared.contents.extension.ExtensionDescriptorInner.{ExtensionDescriptorInner}
use Rattle.pool_faults.specs.declared.fault.DescriptorErrorKind.{DescriptorErrorKind}
use Rattle.proto_types.specs.Enumeration.{no_enum}
use Rattle.plain_data.specs.Lists.{flat_map_after, listed}
use Rattle.proto_types.specs.Readers.{text_of}
use Rattle.record_walk.specs.Protos.{of_file, of_message, of_field, of_service, of_method, of_enum}
use Rattle.record_walk.specs.Protos.{of_value, of_extension, as_message, as_enum}
use Rattle.record_walk.specs.Shown.{Shown, Surrounding, inside, of_kind}
use Rattle.name_resolution.specs.References.{reference_fault}
use Rattle.field_rules.specs.Numbers.{field_number_faults}
use Rattle.field_rules.specs.Duplicates.{duplicate_faults}
use Rattle.field_rules.specs.Oneofs.{oneof_faults}
use Rattle.field_rules.specs.EnumValues.{value_faults, values_faults}
use Rattle.plain_data.specs.Each.{map_enumerated}
use Rattle.reference_pass.specs.Defaults.{field_default_faults}
use Rattle.reference_pass.specs.Extension.{extendee_faults, number_faults}
use Rattle.reference_pass.specs.Extension.{duplicate_extension_faults}
use Rattle.reference_pass.specs.Types.{type_faults}
use Rattle.reference_pass.specs.Imports.{import_faults}
use Rattle.reference_pass.specs.Items.{extension_items}
use Rattle.reference_pass.specs.References.{method_at, resolve_message}
use Rattle.record_walk.specs.Place.{field_at}
use Rattle.reference_pass.specs.Setting.{Setting}

-- faults in a row
abbrev pub Faults : Type 0
Faults = List DescriptorErrorKind

-- a message as it is declared, and its record
abbrev pub Owner : Type 0
Owner = Shown × DescriptorProto

-- what a field of a message breaks by itself: its number, its type, its default value, its oneof
abbrev pub field_record_faults : Setting → Owner → Shown → FieldDescriptorProto → Faults
field_record_faults s owner d f =
    field_number_faults s.files owner.0 owner.1 d f ++ type_faults s d f
    ++ field_default_faults s d f
    ++ oneof_faults (out-DescriptorProto owner.1).oneof_decl f

-- what a field of a message breaks by itself, and then that a field before it has its number or its
-- JSON name
abbrev pub field_faults : Setting → Owner → Shown → FieldDescriptorProto → Faults
field_faults s owner d f =
    field_record_faults s owner d f
    ++ duplicate_faults s.files owner.0.file owner.0.path
    (take d.index (out-DescriptorProto owner.1).field) d.index f

-- what an extension behind earlier ones breaks: its extendee; where that is found, its number, and
-- that an earlier extension has it; its type; its default value
abbrev pub extension_faults : Setting → List ExtensionDescriptorInner → Shown
    → FieldDescriptorProto → Faults
extension_faults s earlier d x =
    let extendee = resolve_message s d x.extendee in
    extendee_faults s d x ++ number_faults s d x extendee
    ++ duplicate_extension_faults s earlier d x extendee
    ++ type_faults s d x ++ field_default_faults s d x

-- the fault of a method's input that isn't found, at its path followed by 2, and then that of its
-- output, followed by 3
abbrev pub method_faults : Setting → Shown → MethodDescriptorProto → Faults
method_faults s d m =
    listed (reference_fault s.files (text_of m.input_type) d.file (d.path ++ method.INPUT_TYPE ∷ [])
    (resolve_message s d m.input_type))
    ++ listed (reference_fault s.files (text_of m.output_type) d.file
    (d.path ++ method.OUTPUT_TYPE ∷ []) (resolve_message s d m.output_type))

-- the last of a list
abbrev pub last : {X : Type 0} → List X → Option X
last [] = None
last (x ∷ []) = Some x
last (x ∷ y ∷ ys) = last (y ∷ ys)

-- the message of a field: the last that was declared before it
abbrev pub message_of : List Shown → Shown → Owner
message_of earlier d = unwrap_or (last (of_kind as_message earlier)) (d, no_message)

-- the enum of a value: the last that was declared before it
abbrev pub enum_of : List Shown → Shown → Shown × EnumDescriptorProto
enum_of earlier d = unwrap_or (last (of_kind as_enum earlier)) (d, no_enum)

-- what a declaration breaks in the second pass behind the extensions of a pool and earlier
-- declarations: a file, a field, a value, a method or an extension; any other breaks nothing
abbrev pub second_faults : Setting → List ExtensionDescriptorInner → List Shown → Shown → Faults
second_faults s old earlier d = elim d.proto [
  | of_file f ↦ import_faults s d.index f
  | of_field f ↦ field_faults s (message_of earlier d) d f
  | of_value v ↦ let owner = enum_of earlier d in value_faults s.files owner.0 owner.1 d.index v
  | of_method m ↦ method_faults s d m
  | of_extension x ↦ extension_faults s (old ++ extension_items s earlier) d x
  | _ ↦ []
]

-- the faults of the second pass over declarations, behind the extensions of a pool, in a row
abbrev pub second_pass : Setting → List ExtensionDescriptorInner → List Shown → Faults
second_pass s old ds = flat_map_after (second_faults s old) ds

-- what the fields of a message break, one field after another
abbrev pub faults_of_fields : Setting → Owner → List FieldDescriptorProto → Faults
faults_of_fields s owner fs =
    flat_map (λ faults. faults)
    (map_enumerated (λ i f. field_faults s owner (field_at (inside owner.0) i f) f) 0 fs)

-- what all fields of a message break, told of the message
abbrev pub message_faults : Setting → Shown → DescriptorProto → Faults
message_faults s d m = faults_of_fields s (d, m) (out-DescriptorProto m).field

-- what methods that stand in surroundings break, one method after another
abbrev pub faults_of_methods : Setting → Surrounding → List MethodDescriptorProto → Faults
faults_of_methods s here ms =
    flat_map (λ faults. faults)
    (map_enumerated (λ i m. method_faults s (method_at here i m) m) 0 ms)

-- what the methods of a service break, told of the service
abbrev pub service_faults : Setting → Shown → ServiceDescriptorProto → Faults
service_faults s d v = faults_of_methods s (inside d) v.method

-- what a declaration breaks behind earlier extensions by itself and by its parts: a message, an
-- enum, a service, a file or an extension; any other breaks nothing
abbrev pub owner_faults : Setting → List ExtensionDescriptorInner → Shown → Faults
owner_faults s earlier d = elim d.proto [
  | of_file f ↦ import_faults s d.index f
  | of_message m ↦ message_faults s d m
  | of_service v ↦ service_faults s d v
  | of_enum e ↦ values_faults s.files d e
  | of_extension x ↦ extension_faults s earlier d x
  | _ ↦ []
]

-- what declarations break by themselves and by their parts, each behind the extensions of those
-- before it
abbrev pub owners_faults : Setting → List ExtensionDescriptorInner → List Shown → Faults
owners_faults s earlier [] = []
owners_faults s earlier (d ∷ ds) =
    owner_faults s earlier d ++ owners_faults s (earlier ++ extension_items s (d ∷ [])) ds
