-- A field or an extension as the rules look at it.
use Rattle.std.specs.Prelude.{Bool}
use Rattle.proto_types.specs.declared.records.field.FieldDescriptorProto.{FieldDescriptorProto}
use Rattle.pool_types.specs.declared.contents.definition.Identity.{Identity}
use Rattle.pool_types.specs.declared.kinds.KindIndex.{KindIndex}

-- a field or an extension, with its linked record; whether its file is one of proto3, whether its
-- type is an enum of proto2, and whether the message whose field it is is a message set
pub record Site : Type 0 where
  pub id : Identity
  pub field : FieldDescriptorProto
  pub kind : KindIndex
  pub in_proto3 : Bool
  pub is_closed : Bool
  pub in_message_set : Bool
