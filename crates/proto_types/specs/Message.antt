-- Messages, ranges and oneofs without parts.
use Rattle.std.specs.Prelude.{[]}
use Rattle.std.specs.declared.option.Option.TheVariants.{None}
use Rattle.proto_types.specs.declared.message.DescriptorProto.{DescriptorProto}
use Rattle.proto_types.specs.declared.message.DescriptorProto.{roll-DescriptorProto}
use Rattle.proto_types.specs.declared.message.OneofDescriptorProto.{OneofDescriptorProto}
use Rattle.proto_types.specs.declared.message.ExtensionRange.{ExtensionRange}
use Rattle.proto_types.specs.declared.message.ReservedRange.{ReservedRange}

-- a message with all parts absent or empty
abbrev pub no_message : DescriptorProto
no_message = roll-DescriptorProto (record {
  name = None;
  field = [];
  nested_type = [];
  enum_type = [];
  extension_range = [];
  extension = [];
  options = None;
  oneof_decl = [];
  reserved_range = [];
  reserved_name = [];
})

-- an extension range of a message with all parts absent
abbrev pub no_extension_range : ExtensionRange
no_extension_range = record { start = None; «end» = None; options = None }

-- a reserved range of a message with both ends absent
abbrev pub no_reserved_range : ReservedRange
no_reserved_range = record { start = None; «end» = None }

-- a oneof with all parts absent
abbrev pub no_oneof : OneofDescriptorProto
no_oneof = record { name = None; options = None }
