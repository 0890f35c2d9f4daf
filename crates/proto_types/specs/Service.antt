-- Services and methods without parts.
use Rattle.std.specs.Prelude.{[]}
use Rattle.std.specs.declared.option.Option.TheVariants.{None}
use Rattle.proto_types.specs.declared.records.service.ServiceDescriptorProto.{ServiceDescriptorProto}
use Rattle.proto_types.specs.declared.records.service.MethodDescriptorProto.{MethodDescriptorProto}

-- a service with all parts absent or empty
abbrev pub no_service : ServiceDescriptorProto
no_service = record { name = None; method = []; options = None }

-- a method with all parts absent
abbrev pub no_method : MethodDescriptorProto
no_method = record {
  name = None;
  input_type = None;
  output_type = None;
  options = None;
  client_streaming = None;
  server_streaming = None;
}
