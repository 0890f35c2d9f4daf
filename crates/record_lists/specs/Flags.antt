-- What holds of fields, oneofs and enums, by the files and the messages of a pool.
use Rattle.std.specs.Prelude.{ℕ, Bool, true, false, not, ◌&&◌, List, [], ◌∷◌, slice_get}
use Rattle.std.specs.Option.{option_map_or}
use Rattle.pool_types.specs.Syntaxes.{is_proto3}
use Rattle.pool_types.specs.declared.contents.enumeration.EnumDescriptorInner.{EnumDescriptorInner}
use Rattle.pool_types.specs.declared.contents.field.FieldDescriptorInner.{FieldDescriptorInner}
use Rattle.pool_types.specs.declared.contents.file.FileDescriptorInner.{FileDescriptorInner}
use Rattle.pool_types.specs.declared.contents.message.MessageDescriptorInner.{MessageDescriptorInner}
use Rattle.pool_types.specs.declared.kinds.Cardinality.{Cardinality}
use Rattle.pool_types.specs.declared.kinds.Cardinality.TheVariants.{Repeated, Required}
use Rattle.pool_types.specs.declared.kinds.KindIndex.{KindIndex}
use Rattle.pool_types.specs.declared.kinds.KindIndex.TheVariants as kind
use Rattle.record_lists.specs.Records.{field_parts, message_parts}

-- whether a field may stand in a message any number of times
abbrev pub is_repeated : Cardinality → Bool
is_repeated Repeated = true
is_repeated _ = false

-- whether a field must stand in a message
abbrev pub is_required : Cardinality → Bool
is_required Required = true
is_required _ = false

-- whether a type is a group
abbrev pub is_group : KindIndex → Bool
is_group (kind.Group _) = true
is_group _ = false

-- whether a type is a message whose options say that it is the entry of a map
abbrev pub is_entry_type : List FileDescriptorInner → List MessageDescriptorInner → KindIndex → Bool
is_entry_type files messages (kind.Message m) =
    option_map_or (λ found. (message_parts files found.id).is_map_entry) (slice_get messages m)
    false
is_entry_type files messages _ = false

-- whether a field is a map: it is repeated, and its type is the entry of a map
abbrev pub is_map : List FileDescriptorInner → List MessageDescriptorInner → Cardinality
    → KindIndex → Bool
is_map files messages cardinality type_ =
    is_repeated cardinality && is_entry_type files messages type_

-- whether a field is repeated and no map
abbrev pub is_list : List FileDescriptorInner → List MessageDescriptorInner → Cardinality
    → KindIndex → Bool
is_list files messages cardinality type_ =
    is_repeated cardinality && not (is_entry_type files messages type_)

-- whether a field is optional by word in proto3
abbrev pub is_proto3_optional : List FileDescriptorInner → FieldDescriptorInner → Bool
is_proto3_optional files f = (field_parts files f.id).is_proto3_optional

-- whether a oneof of a message was made for one field that is optional by word in proto3, by the
-- fields of the message and the positions of those in the oneof
abbrev pub is_synthetic : List FileDescriptorInner → List FieldDescriptorInner → List ℕ → Bool
is_synthetic files fields (only ∷ []) =
    option_map_or (is_proto3_optional files) (slice_get fields only) false
is_synthetic files fields _ = false

-- whether an enum has its values alone: it stands in a file that is not of proto3
abbrev pub is_closed : List FileDescriptorInner → EnumDescriptorInner → Bool
is_closed files e = option_map_or (λ f. not (is_proto3 f.syntax)) (slice_get files e.id.file) false
