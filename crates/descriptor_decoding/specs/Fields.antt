-- Fields of fields.
use Rattle.std.specs.Prelude.{ℕ, [], ◌∷◌, Ok}
use Rattle.descriptor_decoding.specs.Merging.{Merge, within, by_number, row}
use Rattle.descriptor_decoding.specs.Parts.{bool_merged, int32_merged, text_merged}
use Rattle.proto_types.specs.declared.records.field.FieldDescriptorProto.{FieldDescriptorProto}
use Rattle.descriptor_decoding.specs.Options.{options_merged, no_field_options}
use Rattle.descriptor_decoding.specs.Options.{field_options_merged}

-- what a field makes of a field
unfoldable pub field_merged : ℕ → Merge FieldDescriptorProto
field_merged levels n v m = by_number n m (
    row 1 (text_merged v m.name) (λ x. record m { name = x }) ∷
    row 2 (text_merged v m.extendee) (λ x. record m { extendee = x }) ∷
    row 3 (Ok (int32_merged v m.number)) (λ x. record m { number = x }) ∷
    row 4 (Ok (int32_merged v m.label)) (λ x. record m { label = x }) ∷
    row 5 (Ok (int32_merged v m.type_)) (λ x. record m { type_ = x }) ∷
    row 6 (text_merged v m.type_name) (λ x. record m { type_name = x }) ∷
    row 7 (text_merged v m.default_value) (λ x. record m { default_value = x }) ∷
    row 8 (options_merged no_field_options (within levels field_options_merged) v m.options)
    (λ x. record m { options = x }) ∷
    row 9 (Ok (int32_merged v m.oneof_index)) (λ x. record m { oneof_index = x }) ∷
    row 10 (text_merged v m.json_name) (λ x. record m { json_name = x }) ∷
    row 17 (Ok (bool_merged v m.proto3_optional)) (λ x. record m { proto3_optional = x }) ∷ [])
