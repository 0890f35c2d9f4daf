use Rattle.std.proofs.Common.{ap, ◌∙◌, length, arith}
use Rattle.std.proofs.lemmas.List.{take_all}
use Rattle.proto_types.specs.declared.message.DescriptorProto.{out-DescriptorProto}
use Rattle.field_rules.specs.Maps.{by_number}
use Rattle.field_rules.specs.Identities.{named_at}
use Rattle.reference_pass.proofs.message.read_message.Goals as goal

-- each part of the item is as it is read
pub returns-clause-item : goal.returns-clause-item
returns-clause-item c =
    let place = c.args.place in
    let fields = (out-DescriptorProto c.args.message.now).field in
    λ i. record {
      id = (c.in_ok-id.ensures.id ∙ ap (named_at place.file place.path.now place.full_name.now) c.name.ensures) i;
      parent = place.parent;
      extensions = c.new-3.ensures i;
      extension_numbers = c.new-4.ensures i;
      fields = (c.from_vec.ensures ∙ c.in_ok-fields.ensures.items) i;
      field_numbers = (c.in_ok-fields.ensures.maps.numbers ∙ ap by_number (take_all (length fields) fields (omega arith))) i;
      field_names = c.in_ok-fields.ensures.maps.names i;
      field_json_names = c.in_ok-fields.ensures.maps.json_names i;
      oneofs = (c.from_vec-2.ensures ∙ c.in_ok-oneofs.ensures.items) i;
    }
