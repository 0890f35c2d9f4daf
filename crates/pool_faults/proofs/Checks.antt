-- The text of each kind of fault, computed.
use Rattle.std.specs.Prelude.{◌≡◌, ℕ, pos, negsuc, List, [], ◌∷◌, refl, codes}
use Rattle.std.specs.Fmt.{digits}
use Rattle.std.specs.declared.option.Option.TheVariants.{None}
use Rattle.pool_faults.specs.declared.label.Label.{Label}
use Rattle.pool_faults.specs.declared.fault.DescriptorErrorKind.TheVariants as fault
use Rattle.pool_faults.specs.Fault.{fault_text, labelled_text}

abbrev at : List ℕ → Label
at file = record { file = file; path = pos 4 ∷ pos 0 ∷ pos 2 ∷ []; span = None }

abbrev here : Label
here = at (codes "a")

pub missing_required_field : fault_text (fault.MissingRequiredField here) ≡ codes "missing required field at [4, 0, 2]"
unfolding digits
missing_required_field = refl

pub unknown_syntax : labelled_text (fault.UnknownSyntax (codes "s") here) ≡ codes "a: unknown syntax 's'"
unknown_syntax = refl

pub duplicate_file_name : labelled_text (fault.DuplicateFileName (codes "n")) ≡ codes "a different file named 'n' has already been added"
duplicate_file_name = refl

pub file_not_found : fault_text (fault.FileNotFound (codes "n") here) ≡ codes "imported file 'n' has not been added"
file_not_found = refl

pub invalid_import_index : fault_text fault.InvalidImportIndex ≡ codes "invalid import index"
invalid_import_index = refl

pub invalid_oneof_index : fault_text fault.InvalidOneofIndex ≡ codes "invalid oneof index"
invalid_oneof_index = refl

pub name_twice : fault_text (fault.DuplicateName (codes "n") here here) ≡ codes "name 'n' is defined twice"
name_twice = refl

pub name_in_two_files : fault_text (fault.DuplicateName (codes "n") here (at (codes "b"))) ≡ codes "name 'n' is already defined in file 'a'"
name_in_two_files = refl

pub duplicate_field_number : fault_text (fault.DuplicateFieldNumber (pos 7) here here) ≡ codes "field number '7' is already used"
unfolding digits
duplicate_field_number = refl

pub duplicate_field_json_name : fault_text (fault.DuplicateFieldJsonName (codes "n") here here) ≡ codes "a field with JSON name 'n' is already defined"
duplicate_field_json_name = refl

pub duplicate_field_camel_case_name : fault_text (fault.DuplicateFieldCamelCaseName (codes "n_m") (codes "nM") here here)
    ≡ codes "camel-case name of field 'n_m' conflicts with field 'nM'"
duplicate_field_camel_case_name = refl

pub invalid_field_number : fault_text (fault.InvalidFieldNumber (negsuc 6) here) ≡ codes "invalid field number '-7'"
unfolding digits
invalid_field_number = refl

pub field_number_in_reserved_range : fault_text (fault.FieldNumberInReservedRange (pos 7) (pos 1) (negsuc 2147483647) here here)
    ≡ codes "field number '7' conflicts with reserved range '1 to -2147483649'"
unfolding digits
field_number_in_reserved_range = refl

pub field_number_in_extension_range : fault_text (fault.FieldNumberInExtensionRange (pos 7) (pos 1) (pos 8) here here)
    ≡ codes "field number '7' conflicts with extension range '1 to 7'"
unfolding digits
field_number_in_extension_range = refl

pub extension_number_out_of_range : fault_text (fault.ExtensionNumberOutOfRange (pos 7) (codes "p.M") here) ≡ codes "message 'p.M' does not define '7' as an extension number"
unfolding digits
extension_number_out_of_range = refl

pub duplicate_extension_number : fault_text (fault.DuplicateExtensionNumber (pos 7) (codes "p.M") here here) ≡ codes "extension number '7' of message 'p.M' is already used"
unfolding digits
duplicate_extension_number = refl

pub name_not_found : fault_text (fault.NameNotFound (codes "n") here) ≡ codes "name 'n' is not defined"
name_not_found = refl

pub name_shadowed : fault_text (fault.NameShadowed (codes "n.m") (codes "p.n.m") here) ≡ codes "'n.m' resolves to 'p.n.m', which is not defined"
name_shadowed = refl

pub invalid_type : fault_text (fault.InvalidType (codes "n") (codes "a message type") here here) ≡ codes "'n' is not a message type"
invalid_type = refl

pub invalid_field_default : fault_text (fault.InvalidFieldDefault (codes "v") (codes "Int32") here) ≡ codes "invalid default value 'v' for type 'Int32'"
invalid_field_default = refl

pub empty_enum : fault_text (fault.EmptyEnum here) ≡ codes "enums must have at least one value"
empty_enum = refl

pub invalid_proto3_enum_default : fault_text (fault.InvalidProto3EnumDefault here) ≡ codes "the first value for proto3 enums must be 0"
invalid_proto3_enum_default = refl

pub duplicate_enum_number : fault_text (fault.DuplicateEnumNumber (pos 7) here here) ≡ codes "enum number '7' has already been used"
unfolding digits
duplicate_enum_number = refl

pub enum_number_in_reserved_range : fault_text (fault.EnumNumberInReservedRange (pos 7) (pos 1) (pos 8) here here)
    ≡ codes "enum number '7' conflicts with reserved range '1 to 8'"
unfolding digits
enum_number_in_reserved_range = refl
