-- The records that a pool holds of enums: their values, the tables of these, and whether aliases
-- are allowed (descriptor.proto on `allow_alias`).
use Rattle.std.specs.Prelude.{ℕ, ℤ, Bool, false, List, [], ◌∷◌, map, if◌then◌else◌}
use Rattle.std.specs.List.{enumerate_from}
use Rattle.std.specs.Option.{option_map_or}
use Rattle.std.specs.Ordering.{int_cmp, nat_cmp, is_le, ordering_then}
use Rattle.std.specs.declared.option.Option.{Option}
use Rattle.plain_data.specs.Maps.{inserted}
use Rattle.proto_types.specs.declared.tag.enum_.TheConstants as enumeration
use Rattle.proto_types.specs.declared.records.enumeration.EnumDescriptorProto.{EnumDescriptorProto}
use Rattle.proto_types.specs.declared.records.enumeration.EnumValueDescriptorProto.{EnumValueDescriptorProto}
use Rattle.proto_types.specs.declared.records.options.EnumOptions.{EnumOptions}
use Rattle.proto_types.specs.declared.records.options.Options.{Options}
use Rattle.proto_types.specs.Readers.{flag_of, number_of, text_of}
use Rattle.pool_types.specs.declared.contents.enumeration.EnumDescriptorInner.{EnumDescriptorInner}
use Rattle.pool_types.specs.declared.contents.enumeration.EnumValueDescriptorInner.{EnumValueDescriptorInner}
use Rattle.record_walk.specs.Protos.{of_value}
use Rattle.record_walk.specs.Shown.{Shown}
use Rattle.plain_data.specs.Each.{map_enumerated}
use Rattle.field_rules.specs.Identities.{identity}
use Rattle.record_walk.specs.Place.{part_beside}

-- whether a pair comes before another: by its number, and then by its position
abbrev pub is_before : ℤ × ℕ → ℤ × ℕ → Bool
is_before a b = is_le (ordering_then (int_cmp a.0 b.0) (nat_cmp a.1 b.1))

-- a pair put into pairs in order
abbrev pub put : ℤ × ℕ → List (ℤ × ℕ) → List (ℤ × ℕ)
put p [] = p ∷ []
put p (q ∷ qs) = if is_before p q then p ∷ q ∷ qs else q ∷ put p qs

-- pairs in order
abbrev pub sorted : List (ℤ × ℕ) → List (ℤ × ℕ)
sorted [] = []
sorted (p ∷ ps) = put p (sorted ps)

-- the number of each value of an enum with its position, by number and then by position
abbrev pub numbers_of : List EnumValueDescriptorProto → List (ℤ × ℕ)
numbers_of vs = sorted (map (λ e. (number_of e.1.number, e.0)) (enumerate_from 0 vs))

-- the name of each value of an enum with its position
abbrev pub names_of : List EnumValueDescriptorProto → List (List ℕ × ℕ)
names_of vs = map (λ e. (text_of e.1.name, e.0)) (enumerate_from 0 vs)

-- whether the options of an enum say that two values may have one number
abbrev pub allows_alias : Option (Options EnumOptions) → Bool
allows_alias options = option_map_or (λ o. flag_of o.value.allow_alias) options false

-- the item of a value: its identity and its number
abbrev pub value_item : Shown → ℤ → EnumValueDescriptorInner
value_item d number = record { id = identity d; number = number }

-- the items of the values of an enum, which stand beside it, in the order of their positions
abbrev pub value_items : Shown → List EnumValueDescriptorProto → List EnumValueDescriptorInner
value_items d vs =
    map_enumerated (λ i v. value_item (part_beside d enumeration.VALUE i (of_value v))
    (number_of v.number)) 0 vs

-- the item of an enum: its identity, the index of the message around it, its values, both tables of
-- these, and whether aliases are allowed
abbrev pub enum_item : Shown → EnumDescriptorProto → EnumDescriptorInner
enum_item d e = record {
  id = identity d;
  parent = d.parent;
  values = value_items d e.value;
  value_numbers = numbers_of e.value;
  value_names = inserted (names_of e.value);
  allow_alias = allows_alias e.options;
}
