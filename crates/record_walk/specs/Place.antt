-- Where a declaration stands, and where its parts do.
use Rattle.std.specs.Prelude.{ℕ, ℤ}
use Rattle.std.specs.declared.option.Option.TheVariants.{Some}
use Rattle.proto_types.specs.declared.tag.message.TheConstants as message
use Rattle.proto_types.specs.declared.records.enumeration.EnumDescriptorProto.{EnumDescriptorProto}
use Rattle.proto_types.specs.declared.records.field.FieldDescriptorProto.{FieldDescriptorProto}
use Rattle.proto_types.specs.declared.records.service.ServiceDescriptorProto.{ServiceDescriptorProto}
use Rattle.proto_types.specs.declared.message.DescriptorProto.{DescriptorProto}
use Rattle.record_walk.specs.Protos.{Proto, name_of, of_message, of_field, of_enum, of_service}
use Rattle.record_walk.specs.Shown.{Shown, Surrounding, shown, beside_name}
use Rattle.proto_types.specs.Paths.{entry_path}
use Rattle.record_walk.specs.declared.place.Place.{Place}

-- the declaration of a record at a place, which is all of it but the record: the file, the index of
-- what it stands in, its own index, the path and the full name
abbrev pub shown_at : Place → Proto → Shown
shown_at p proto = record {
  file = p.file;
  parent = p.parent;
  index = p.index;
  path = p.path.now;
  full_name = p.full_name.now;
  proto = proto;
}

-- what surrounds the parts that are named inside the declaration at a place
abbrev pub inside_of : Place → Surrounding
inside_of p = record {
  file = p.file;
  path = p.path.now;
  scope = p.full_name.now;
  parent = Some p.index;
}

-- an entry of a list of a declaration that is named inside it, as a field, a oneof or a method is
abbrev pub part_inside : Surrounding → ℤ → ℕ → Proto → Shown
part_inside here tag position proto = shown here tag position position proto

-- an entry of a list of a declaration that is named beside it, as a value of an enum is: its full
-- name is that of the enum with its own name in place of the enum's
abbrev pub part_beside : Shown → ℤ → ℕ → Proto → Shown
part_beside d tag position proto = record {
  file = d.file;
  parent = Some d.index;
  index = position;
  path = entry_path d.path tag position;
  full_name = beside_name d (name_of proto);
  proto = proto;
}

-- the field with a position, in surroundings
abbrev pub field_at : Surrounding → ℕ → FieldDescriptorProto → Shown
field_at here position f = part_inside here message.FIELD position (of_field f)

-- the declaration of a message at a place
abbrev pub message_at : Place → DescriptorProto → Shown
message_at p m = shown_at p (of_message m)

-- the declaration of an enum at a place
abbrev pub enum_at : Place → EnumDescriptorProto → Shown
enum_at p e = shown_at p (of_enum e)

-- the declaration of a service at a place
abbrev pub service_at : Place → ServiceDescriptorProto → Shown
service_at p s = shown_at p (of_service s)
