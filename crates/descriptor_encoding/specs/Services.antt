-- The fields that services are encoded as, in the order of their numbers.
use Rattle.std.specs.Prelude.{List, ◌++◌, map}
use Rattle.wire_format.specs.Encoding.{Numbered}
use Rattle.proto_types.specs.declared.records.service.ServiceDescriptorProto.{ServiceDescriptorProto}
use Rattle.proto_types.specs.declared.records.service.MethodDescriptorProto.{MethodDescriptorProto}
use Rattle.descriptor_encoding.specs.Parts.{bool_listed, text_listed, options_listed}
use Rattle.descriptor_encoding.specs.Parts.{messages_listed}

-- the fields that a method is encoded as
abbrev pub method_listed : MethodDescriptorProto → List Numbered
method_listed m =
    text_listed 1 m.name ++
    (text_listed 2 m.input_type ++
    (text_listed 3 m.output_type ++
    (options_listed 4 m.options ++
    (bool_listed 5 m.client_streaming ++
    bool_listed 6 m.server_streaming))))

-- the fields that a service is encoded as
abbrev pub service_listed : ServiceDescriptorProto → List Numbered
service_listed m =
    text_listed 1 m.name ++
    (messages_listed 2 (map method_listed m.method) ++
    options_listed 3 m.options)
