-- What is looked up in an item: a field, a value or a method.
use Rattle.std.specs.Prelude.{ℕ, ℤ, List, drop, find, slice_get}
use Rattle.std.specs.FinMap as finite
use Rattle.std.specs.Option.{option_and_then}
use Rattle.std.specs.Ordering.{int_eq}
use Rattle.std.specs.Str.{bytes_eq}
use Rattle.std.specs.declared.option.Option.{Option}
use Rattle.pool_types.specs.declared.contents.definition.Identity.{Identity}
use Rattle.pool_types.specs.declared.contents.enumeration.EnumDescriptorInner.{EnumDescriptorInner}
use Rattle.pool_types.specs.declared.contents.enumeration.EnumValueDescriptorInner.{EnumValueDescriptorInner}
use Rattle.pool_types.specs.declared.contents.field.FieldDescriptorInner.{FieldDescriptorInner}
use Rattle.pool_types.specs.declared.contents.message.MessageDescriptorInner.{MessageDescriptorInner}
use Rattle.pool_types.specs.declared.contents.service.MethodDescriptorInner.{MethodDescriptorInner}
use Rattle.pool_types.specs.declared.contents.service.ServiceDescriptorInner.{ServiceDescriptorInner}

-- the declared name: the full name from the byte on at which it begins
abbrev pub declared_name : Identity → List ℕ
declared_name id = drop id.name_index id.full_name

-- the field of a message to which its map of numbers leads
abbrev pub field_numbered : MessageDescriptorInner → ℕ → Option FieldDescriptorInner
field_numbered m number = option_and_then (slice_get m.fields) (finite.get m.field_numbers number)

-- the field of a message to which its map of names leads
abbrev pub field_named : MessageDescriptorInner → List ℕ → Option FieldDescriptorInner
field_named m name = option_and_then (slice_get m.fields) (finite.get m.field_names name)

-- the field of a message to which its map of given JSON names leads
abbrev pub field_json_named : MessageDescriptorInner → List ℕ → Option FieldDescriptorInner
field_json_named m name = option_and_then (slice_get m.fields) (finite.get m.field_json_names name)

-- the first value of an enum that has a number
abbrev pub value_numbered : EnumDescriptorInner → ℤ → Option EnumValueDescriptorInner
value_numbered e number = find (λ v. int_eq v.number number) e.values

-- the value of an enum to which its map of names leads
abbrev pub value_named : EnumDescriptorInner → List ℕ → Option EnumValueDescriptorInner
value_named e name = option_and_then (slice_get e.values) (finite.get e.value_names name)

-- the first method of a service that has a declared name
abbrev pub method_named : ServiceDescriptorInner → List ℕ → Option MethodDescriptorInner
method_named s name = find (λ m. bytes_eq (declared_name m.id) name) s.methods
