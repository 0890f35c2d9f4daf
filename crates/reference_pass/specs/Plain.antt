-- Fields of whose type and default value nothing breaks a rule.
use Rattle.std.specs.Prelude.{◌≡◌, ℕ, [], Some, None, get_or}
use Rattle.pool_types.specs.declared.contents.definition.Identity.{Identity}
use Rattle.proto_types.specs.Field.{no_field}
use Rattle.proto_types.specs.declared.message.DescriptorProto.{out-DescriptorProto}
use Rattle.record_walk.specs.Protos.{of_field}
use Rattle.record_walk.specs.declared.place.Place.{Place}
use Rattle.reference_pass.specs.declared.field.FieldOwner.{FieldOwner}
use Rattle.pool_types.specs.declared.kinds.KindIndex.{KindIndex}
use Rattle.proto_types.specs.declared.records.field.FieldDescriptorProto.{FieldDescriptorProto}
use Rattle.record_walk.specs.Shown.{Shown}
use Rattle.reference_pass.specs.Defaults.{field_default, field_default_faults}
use Rattle.reference_pass.specs.Setting.{Setting}
use Rattle.reference_pass.specs.Types.{field_kind, type_faults}

-- where the field of a message with a position stands that has an identity
abbrev pub field_shown : Place → Identity → ℕ → FieldDescriptorProto → Shown
field_shown owner id position f = record {
  file = owner.file;
  parent = Some owner.index;
  index = position;
  path = id.path;
  full_name = id.full_name;
  proto = of_field f;
}

-- the record of a field of a message whose fields are read, by its position
abbrev pub record_of : FieldOwner → ℕ → FieldDescriptorProto
record_of of position =
    get_or (out-DescriptorProto of.owner.message.now).field position no_field

-- such a field, where it has an identity
abbrev pub field_of : FieldOwner → Identity → ℕ → Shown
field_of of id position = field_shown of.owner.place id position (record_of of position)

-- a field has a type of a kind and no default value, and neither breaks a rule
pub record IsPlain (s : Setting) (d : Shown) (f : FieldDescriptorProto) (kind : KindIndex)
    : Type 0 where
  pub kind_is : field_kind s d f ≡ Some kind
  pub type_told : type_faults s d f ≡ []
  pub default_is : field_default s d f ≡ None
  pub default_told : field_default_faults s d f ≡ []
