-- The maps of a message: from number, name and given JSON name of each field to its position.
use Rattle.std.specs.Prelude.{ℕ, suc, ◌-◌, ◌^◌, ℤ, pos, negsuc, List}
use Rattle.std.specs.List.{filter_map, enumerate_from}
use Rattle.std.specs.Option.{option_map}
use Rattle.std.specs.declared.option.Option.{Option}
use Rattle.std.specs.declared.option.Option.TheVariants.{Some}
use Rattle.plain_data.specs.Maps.{ByNumber, ByText, inserted}
use Rattle.proto_types.specs.declared.records.field.FieldDescriptorProto.{FieldDescriptorProto}
use Rattle.proto_types.specs.Readers.{number_of, text_of}

-- the number of a field as an item has it; a negative one, which is a fault, stands there as itself
-- plus 2 ^ 32
abbrev pub item_number : ℤ → ℕ
item_number (pos n) = n
item_number (negsuc n) = 2 ^ 32 - suc n

-- the key of each field, where it has one, with the position of the field
abbrev pub keyed : {K : Type 0} → (FieldDescriptorProto → Option K) → List FieldDescriptorProto
    → List (K × ℕ)
keyed key fields = filter_map (λ e. option_map (λ k. (k, e.0)) (key e.1)) (enumerate_from 0 fields)

-- the positions of fields by their numbers; of two fields with one number the later one stands
abbrev pub by_number : List FieldDescriptorProto → ByNumber ℕ
by_number fields = inserted (keyed (λ f. Some (item_number (number_of f.number))) fields)

-- the positions of fields by their names; of two fields with one name the later one stands
abbrev pub by_name : List FieldDescriptorProto → ByText ℕ
by_name fields = inserted (keyed (λ f. Some (text_of f.name)) fields)

-- the positions of fields by their given JSON names; of two fields with one such name the later one
-- stands
abbrev pub by_json_name : List FieldDescriptorProto → ByText ℕ
by_json_name fields = inserted (keyed (λ f. f.json_name) fields)
