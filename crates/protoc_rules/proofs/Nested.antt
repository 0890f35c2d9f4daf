-- The written types in nested messages, from a row of them to the list.
use Rattle.std.proofs.Common.{◌≡◌, ◌∷◌, ◌++◌, map, refl, ap, sym, ◌∙◌}
use Rattle.std.specs.List.{flat_map}
use Rattle.proto_types.specs.Computed.{literals}
use Rattle.proto_types.specs.declared.message.DescriptorProto.{DescriptorProto, DescriptorProto', out-DescriptorProto, Row_of-DescriptorProto, end_of-DescriptorProto, more_of-DescriptorProto, items-the_row-DescriptorProto, items_shown-the_row-DescriptorProto-0}
use Rattle.protoc_rules.specs.Written.{written_type, field_types, nested_field_types, extension_types, nested_extension_types}

row-fields : {n : _} (nested : Row_of-DescriptorProto n) → nested_field_types nested ≡ flat_map field_types (items-the_row-DescriptorProto n nested)
row-fields end_of-DescriptorProto = refl
row-fields (more_of-DescriptorProto m rest) = ap (λ types. field_types m ++ types) (row-fields rest)

row-extensions : {n : _} (nested : Row_of-DescriptorProto n) → nested_extension_types nested ≡ flat_map extension_types (items-the_row-DescriptorProto n nested)
row-extensions end_of-DescriptorProto = refl
row-extensions (more_of-DescriptorProto m rest) = ap (λ types. extension_types m ++ types) (row-extensions rest)

-- the types of the fields of a message, and then of those that are nested in it
pub fields_open : (m : DescriptorProto) → field_types m ≡ map written_type (out-DescriptorProto m).field ∷ flat_map field_types (out-DescriptorProto m).nested_type
unfolding literals
fields_open (DescriptorProto' name fields n nested enums ranges extensions options oneofs reserved reserved_names) =
    ap (λ types. map written_type fields ∷ types) (row-fields nested ∙ ap (flat_map field_types) (sym (items_shown-the_row-DescriptorProto-0 n nested)))

-- the types of the extensions that are nested in a message, and then of its own
pub extensions_open : (m : DescriptorProto) → extension_types m ≡ flat_map extension_types (out-DescriptorProto m).nested_type ++ map written_type (out-DescriptorProto m).extension
unfolding literals
extensions_open (DescriptorProto' name fields n nested enums ranges extensions options oneofs reserved reserved_names) =
    ap (λ types. types ++ map written_type extensions) (row-extensions nested ∙ ap (flat_map extension_types) (sym (items_shown-the_row-DescriptorProto-0 n nested)))
