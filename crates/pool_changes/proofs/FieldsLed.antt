-- The field that a path leads to in a message that stands in no other.
use Rattle.std.proofs.Common.{◌≡◌, ℤ, pos, [], ◌∷◌, Option, Some, ap, ◌∙◌}
use Rattle.std.specs.Option.{option_and_then, option_map, option_or}
use Rattle.plain_data.specs.Lists.{at}
use Rattle.proto_types.specs.declared.file.FileDescriptorProto.{FileDescriptorProto}
use Rattle.proto_types.specs.declared.message.DescriptorProto.{DescriptorProto, out-DescriptorProto}
use Rattle.proto_types.specs.declared.records.field.FieldDescriptorProto.{FieldDescriptorProto}
use Rattle.record_walk.specs.Leads.{leads, leads_in_message}
use Rattle.record_walk.specs.Protos.{Proto, as_extension, as_field, of_field}
use Rattle.pool_changes.specs.Removed.{field_in}

pub field_led : (f : FileDescriptorProto) (m i : ℤ) (d : DescriptorProto) (r : FieldDescriptorProto) → at f.message_type m ≡ Some d → at (out-DescriptorProto d).field i ≡ Some r
    → field_in f (pos 4 ∷ m ∷ pos 2 ∷ i ∷ []) ≡ Some r
field_led f m i d r outer inner =
    let led : leads f (pos 4 ∷ m ∷ pos 2 ∷ i ∷ []) ≡ Some (of_field r) =
    ap (option_and_then (λ n. leads_in_message n (pos 2 ∷ i ∷ []))) outer ∙ ap (option_map of_field) inner in
    ap (λ (got : Option Proto). option_or (option_and_then as_field got) (option_and_then as_extension got)) led
