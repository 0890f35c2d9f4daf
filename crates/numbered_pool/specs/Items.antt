-- What stands in a pool at an index, and at a position there.
use Rattle.std.specs.Prelude.{ℕ, ℤ, ◌==◌, Bool, false, List, drop, find, slice_get, if◌then◌else◌}
use Rattle.std.specs.FinMap as finite
use Rattle.std.specs.Option.{option_and_then, option_map}
use Rattle.std.specs.Ordering.{int_eq}
use Rattle.std.specs.declared.option.Option.{Option}
use Rattle.std.specs.declared.option.Option.TheVariants.{None, Some}
use Rattle.proto_types.specs.Names.{join}
use Rattle.pool_contents.specs.LookUps.{definition_named}
use Rattle.pool_types.specs.Contents.{Contents}
use Rattle.pool_types.specs.declared.contents.definition.Definition.{Definition}
use Rattle.pool_types.specs.declared.contents.definition.DefinitionKind.{DefinitionKind}
use Rattle.pool_types.specs.declared.contents.definition.DefinitionKind.TheVariants as kind
use Rattle.pool_types.specs.declared.contents.definition.Identity.{Identity}
use Rattle.pool_types.specs.declared.contents.enumeration.EnumValueDescriptorInner.{EnumValueDescriptorInner}
use Rattle.pool_types.specs.declared.contents.field.FieldDescriptorInner.{FieldDescriptorInner}
use Rattle.pool_types.specs.declared.contents.oneof.OneofDescriptorInner.{OneofDescriptorInner}
use Rattle.pool_types.specs.declared.contents.service.MethodDescriptorInner.{MethodDescriptorInner}
use Rattle.pool_types.specs.declared.default_value.DefaultValue.{DefaultValue}
use Rattle.numbered_pool.specs.Numbers.{definition_kind, part_position}
use Rattle.numbered_pool.specs.Numbers as numbers
use Rattle.numbered_pool.specs.declared.numbers.Item.{Item}
use Rattle.numbered_pool.specs.declared.numbers.OneofItem.{OneofItem}

-- a part, by its position, of what stands at an index
abbrev pub part_at : {A B : Type 0} → (A → List B) → List A → ℕ → ℕ → Option B
part_at parts xs index position =
    option_and_then (λ x. slice_get (parts x) position) (slice_get xs index)

-- the field at a position of a message
abbrev pub field_at : Contents → ℕ → ℕ → Option FieldDescriptorInner
field_at p = part_at (λ m. m.fields) p.messages

-- the oneof at a position of a message
abbrev pub oneof_at : Contents → ℕ → ℕ → Option OneofDescriptorInner
oneof_at p = part_at (λ m. m.oneofs) p.messages

-- the oneof at a position of a message, with what its message tells of it
abbrev pub oneof_item : Contents → ℕ → ℕ → Option OneofItem
oneof_item p message position =
    option_and_then (λ m. option_map (numbers.oneof_item p m.fields) (slice_get m.oneofs position))
    (slice_get p.messages message)

-- the value at a position of an enum
abbrev pub value_at : Contents → ℕ → ℕ → Option EnumValueDescriptorInner
value_at p = part_at (λ e. e.values) p.enums

-- the method at a position of a service
abbrev pub method_at : Contents → ℕ → ℕ → Option MethodDescriptorInner
method_at p = part_at (λ s. s.methods) p.services

-- the index of the file that a file imports at a position
abbrev pub import_at : Contents → ℕ → ℕ → Option ℕ
import_at p = part_at (λ f. f.dependencies) p.files

-- the index of the extension that a message lists at a position
abbrev pub extension_at : Contents → ℕ → ℕ → Option ℕ
extension_at p = part_at (λ m. m.extensions) p.messages

-- the position in its message of the field that a oneof has at a position
abbrev pub oneof_field_at : Contents → ℕ → ℕ → ℕ → Option ℕ
oneof_field_at p message oneof position =
    option_and_then (λ o. slice_get o.fields position) (oneof_at p message oneof)

-- the position of the field of a message that has a number
abbrev pub field_numbered : Contents → ℕ → ℕ → Option ℕ
field_numbered p message number =
    option_and_then (λ m. finite.get m.field_numbers number) (slice_get p.messages message)

-- the position of the field of a message that has a name
abbrev pub field_named : Contents → ℕ → List ℕ → Option ℕ
field_named p message name =
    option_and_then (λ m. finite.get m.field_names name) (slice_get p.messages message)

-- the position of the field of a message that was given a JSON name
abbrev pub field_json_named : Contents → ℕ → List ℕ → Option ℕ
field_json_named p message name =
    option_and_then (λ m. finite.get m.field_json_names name) (slice_get p.messages message)

-- the position of the value of an enum that has a name
abbrev pub value_named : Contents → ℕ → List ℕ → Option ℕ
value_named p enumeration name =
    option_and_then (λ e. finite.get e.value_names name) (slice_get p.enums enumeration)

-- the position that stands first beside a number
abbrev pub first_numbered : List (ℤ × ℕ) → ℤ → Option ℕ
first_numbered numbers number = option_map (λ v. v.1) (find (λ v. int_eq v.0 number) numbers)

-- the position of the first value of an enum that has a number, among those by number
abbrev pub value_numbered : Contents → ℕ → ℤ → Option ℕ
value_numbered p enumeration number =
    option_and_then (λ e. first_numbered e.value_numbers number) (slice_get p.enums enumeration)

-- whether a definition is a method of the service with an index
abbrev pub is_method_of : ℕ → DefinitionKind → Bool
is_method_of service (kind.Method s) = s == service
is_method_of service _ = false

-- the position of a method, where a definition is a method of the service with an index
abbrev pub method_of : ℕ → Definition → Option ℕ
method_of service d = if is_method_of service d.kind then Some (part_position d.path) else None

-- the position of the method of a service that has a name: what the pool has under the full name
abbrev pub method_named : Contents → ℕ → List ℕ → Option ℕ
method_named p service name =
    option_and_then (λ s. option_and_then (method_of service)
    (definition_named p (join s.id.full_name name))) (slice_get p.services service)

-- where something is declared, and its name, by its kind and its position; packages have none
abbrev pub identity_at : Contents → ℕ → DefinitionKind → Option Identity
identity_at p position kind.Package = None
identity_at p position (kind.Message index) = option_map (λ m. m.id) (slice_get p.messages index)
identity_at p position (kind.Field message) = option_map (λ f. f.id) (field_at p message position)
identity_at p position (kind.Oneof message) = option_map (λ o. o.id) (oneof_at p message position)
identity_at p position (kind.Service index) = option_map (λ s. s.id) (slice_get p.services index)
identity_at p position (kind.Method service) = option_map (λ m. m.id) (method_at p service position)
identity_at p position (kind.Enum index) = option_map (λ e. e.id) (slice_get p.enums index)
identity_at p position (kind.EnumValue enumeration) =
    option_map (λ v. v.id) (value_at p enumeration position)
identity_at p position (kind.Extension index) =
    option_map (λ x. x.id) (slice_get p.extensions index)

-- where an item is declared, and its name
abbrev pub identity_of : Contents → Item → Option Identity
identity_of p item = option_and_then (identity_at p item.position) (definition_kind item)

-- the declared name of an item, without its scope
abbrev pub name_of : Identity → List ℕ
name_of id = drop id.name_index id.full_name

-- the JSON name of a field that was given one, or of an extension, by its kind and its position
abbrev pub json_name_at : Contents → ℕ → DefinitionKind → Option (List ℕ)
json_name_at p position (kind.Field message) =
    option_and_then (λ f. f.json_name) (field_at p message position)
json_name_at p position (kind.Extension index) =
    option_map (λ x. x.json_name) (slice_get p.extensions index)
json_name_at p position _ = None

-- the JSON name of a field that was given one, or of an extension
abbrev pub json_name_of : Contents → Item → Option (List ℕ)
json_name_of p item = option_and_then (json_name_at p item.position) (definition_kind item)

-- the default value of a field or an extension that was given one, by its kind and its position
abbrev pub default_at : Contents → ℕ → DefinitionKind → Option DefaultValue
default_at p position (kind.Field message) =
    option_and_then (λ f. f.default) (field_at p message position)
default_at p position (kind.Extension index) =
    option_and_then (λ x. x.default) (slice_get p.extensions index)
default_at p position _ = None

-- the default value of a field or an extension that was given one
abbrev pub default_of : Contents → Item → Option DefaultValue
default_of p item = option_and_then (default_at p item.position) (definition_kind item)
