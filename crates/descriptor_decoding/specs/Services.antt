-- Fields of services.
use Rattle.std.specs.Prelude.{ℕ, [], ◌∷◌, Ok}
use Rattle.descriptor_decoding.specs.Merging.{Merge, within, by_number, row}
use Rattle.descriptor_decoding.specs.Parts.{bool_merged, messages_merged, text_merged}
use Rattle.proto_types.specs.Service.{no_method}
use Rattle.proto_types.specs.declared.records.service.MethodDescriptorProto.{MethodDescriptorProto}
use Rattle.proto_types.specs.declared.records.service.ServiceDescriptorProto.{ServiceDescriptorProto}
use Rattle.descriptor_decoding.specs.Options.{options_merged, unread, unread_merged}

-- what a field makes of a method
unfoldable pub method_merged : ℕ → Merge MethodDescriptorProto
method_merged levels n v m = by_number n m (
    row 1 (text_merged v m.name) (λ x. record m { name = x }) ∷
    row 2 (text_merged v m.input_type) (λ x. record m { input_type = x }) ∷
    row 3 (text_merged v m.output_type) (λ x. record m { output_type = x }) ∷
    row 4 (options_merged unread (within levels unread_merged) v m.options)
    (λ x. record m { options = x }) ∷
    row 5 (Ok (bool_merged v m.client_streaming)) (λ x. record m { client_streaming = x }) ∷
    row 6 (Ok (bool_merged v m.server_streaming)) (λ x. record m { server_streaming = x }) ∷ [])

-- what a field makes of a service
unfoldable pub service_merged : ℕ → Merge ServiceDescriptorProto
service_merged levels n v m = by_number n m (
    row 1 (text_merged v m.name) (λ x. record m { name = x }) ∷
    row 2 (messages_merged no_method (within levels method_merged) v m.method)
    (λ x. record m { method = x }) ∷
    row 3 (options_merged unread (within levels unread_merged) v m.options)
    (λ x. record m { options = x }) ∷ [])
