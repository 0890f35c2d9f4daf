-- Fields of enums.
use Rattle.std.specs.Prelude.{ℕ, [], ◌∷◌, Ok}
use Rattle.descriptor_decoding.specs.Merging.{Merge, within, by_number, row}
use Rattle.descriptor_decoding.specs.Parts.{int32_merged, messages_merged, text_merged}
use Rattle.descriptor_decoding.specs.Parts.{texts_merged}
use Rattle.proto_types.specs.Enumeration.{no_enum_range, no_value}
use Rattle.proto_types.specs.declared.records.enumeration.EnumValueDescriptorProto.{EnumValueDescriptorProto}
use Rattle.proto_types.specs.declared.records.enumeration.EnumReservedRange.{EnumReservedRange}
use Rattle.proto_types.specs.declared.records.enumeration.EnumDescriptorProto.{EnumDescriptorProto}
use Rattle.descriptor_decoding.specs.Options.{options_merged, no_enum_options, enum_options_merged}
use Rattle.descriptor_decoding.specs.Options.{unread, unread_merged}

-- what a field makes of a value of an enum
unfoldable pub value_merged : ℕ → Merge EnumValueDescriptorProto
value_merged levels n v m = by_number n m (
    row 1 (text_merged v m.name) (λ x. record m { name = x }) ∷
    row 2 (Ok (int32_merged v m.number)) (λ x. record m { number = x }) ∷
    row 3 (options_merged unread (within levels unread_merged) v m.options)
    (λ x. record m { options = x }) ∷ [])

-- what a field makes of a reserved range of an enum
unfoldable pub enum_range_merged : ℕ → Merge EnumReservedRange
enum_range_merged levels n v m = by_number n m (
    row 1 (Ok (int32_merged v m.start)) (λ x. record m { start = x }) ∷
    row 2 (Ok (int32_merged v m.«end»)) (λ x. record m { «end» = x }) ∷ [])

-- what a field makes of an enum
unfoldable pub enum_merged : ℕ → Merge EnumDescriptorProto
enum_merged levels n v m = by_number n m (
    row 1 (text_merged v m.name) (λ x. record m { name = x }) ∷
    row 2 (messages_merged no_value (within levels value_merged) v m.value)
    (λ x. record m { value = x }) ∷
    row 3 (options_merged no_enum_options (within levels enum_options_merged) v m.options)
    (λ x. record m { options = x }) ∷
    row 4 (messages_merged no_enum_range (within levels enum_range_merged) v m.reserved_range)
    (λ x. record m { reserved_range = x }) ∷
    row 5 (texts_merged v m.reserved_name) (λ x. record m { reserved_name = x }) ∷ [])
