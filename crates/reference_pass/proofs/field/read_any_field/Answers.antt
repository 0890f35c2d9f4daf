use Rattle.std.proofs.Common.{◌≡◌, ℕ, ◌+◌, List, Some, rules, FitsSigned, w32, to_z-of_z, drop, get_or, unwrap_or, ap, subst, ◌∙◌}
use Rattle.std.proofs.lemmas.List.{get_or_default}
use Rattle.pool_types.specs.Kinds.{cardinality_of}
use Rattle.pool_types.specs.declared.kinds.KindIndex.TheVariants.{Double}
use Rattle.pool_types.specs.declared.contents.definition.Identity.{Identity}
use Rattle.proto_types.specs.Field.{no_field}
use Rattle.proto_types.specs.declared.records.field.FieldDescriptorProto.{FieldDescriptorProto}
use Rattle.proto_types.specs.declared.tag.message.TheConstants.{FIELD}
use Rattle.proto_types.specs.declared.message.DescriptorProto.{out-DescriptorProto}
use Rattle.proto_types.specs.Names.{join}
use Rattle.proto_types.specs.Readers.{label_of, number_of, text_of}
use Rattle.record_walk.specs.Protos.{of_field}
use Rattle.record_walk.specs.declared.place.Place.{Place}
use Rattle.reference_pass.specs.Plain.{field_shown}
use Rattle.proto_types.specs.Paths.{entry_path}
use Rattle.field_rules.specs.Encoding.{is_packed, supports_presence}
use Rattle.field_rules.specs.Identities.{identity, named_at}
use Rattle.field_rules.specs.InnerNames.{AreNamesOf}
use Rattle.field_rules.specs.Maps.{item_number}
use Rattle.field_rules.specs.Oneofs.{oneof_of}
use Rattle.record_walk.specs.Place.{field_at, inside_of, message_at}
use Rattle.reference_pass.specs.SecondPass.{Owner, field_record_faults}
use Rattle.reference_pass.specs.Defaults.{field_default}
use Rattle.reference_pass.specs.Types.{field_kind}
use Rattle.reference_pass.specs.Reading.{setting_of}
use Rattle.reference_pass.proofs.Readings.{reads-as}
use Rattle.reference_pass.proofs.Fields.{came}
use Rattle.reference_pass.proofs.field.read_any_field.Goals as goal

pub identity_of_field-requires-clause-names : goal.identity_of_field-requires-clause-names
identity_of_field-requires-clause-names c =
    let i = c.args.position in
    let fs = (out-DescriptorProto c.args.of.now.owner.message.now).field in
    let g = c.index-as_slice-position.result in
    let is = subst (λ (fs : List FieldDescriptorProto). g ≡ get_or fs i g) c.as_slice.ensures c.index-as_slice-position.is in
    let own : g ≡ get_or fs i no_field = is ∙ get_or_default fs i g no_field c.requires.there in
    (drop (i + 1) fs, subst (AreNamesOf c.args.names.now c.args.of.now.owner.place.full_name.now) (came fs i g c.requires.there own) c.requires.names)

-- the names of those are left
pub returns-clause-names : goal.returns-clause-names
returns-clause-names c =
    let i = c.args.position in
    let fs = (out-DescriptorProto c.args.of.now.owner.message.now).field in
    let g = c.index-as_slice-position.result in
    let is = subst (λ (fs : List FieldDescriptorProto). g ≡ get_or fs i g) c.as_slice.ensures c.index-as_slice-position.is in
    let own : g ≡ get_or fs i no_field = is ∙ get_or_default fs i g no_field c.requires.there in
    c.in_ok-id.ensures.names (drop (i + 1) fs) (subst (AreNamesOf c.args.names.now c.args.of.now.owner.place.full_name.now) (came fs i g c.requires.there own) c.requires.names)

-- the name of a field ends its full name
pub returns-clause-begins : goal.returns-clause-begins
returns-clause-begins c =
    c.in_ok-id.ensures.begins

-- the field stands where its identity says
there : (place : Place) (i : ℕ) (f : FieldDescriptorProto) (id : Identity) → id ≡ identity (field_at (inside_of place) i f) → field_shown place id i f ≡ field_at (inside_of place) i f
there place i f id is = λ j. record {
  file = place.file;
  parent = Some place.index;
  index = i;
  path = (is j).path;
  full_name = (is j).full_name;
  proto = of_field f;
}

-- the field is read where it stands, and each part of the item is as it is read
pub returns-clause-item : goal.returns-clause-item
returns-clause-item c =
    let s = setting_of c.args.reading.now in
    let place = c.args.of.now.owner.place in
    let i = c.args.position in
    let m = out-DescriptorProto c.args.of.now.owner.message.now in
    let g = c.index-as_slice-position.result in
    let f = get_or m.field i no_field in
    let is = subst (λ (fs : List FieldDescriptorProto). g ≡ get_or fs i g) c.as_slice.ensures c.index-as_slice-position.is in
    let own : g ≡ f = is ∙ get_or_default m.field i g no_field c.requires.there in
    let id : c.in_ok-id.id ≡ identity (field_at (inside_of place) i f) = c.in_ok-id.ensures.id ∙ ap (λ (h : FieldDescriptorProto). named_at place.file (entry_path place.path.now FIELD i) (join place.full_name.now (text_of h.name)) (text_of h.name)) own in
    let same = there place i f c.in_ok-id.id id in
    let kind = c.in_ok-kind.ensures.kind ∙ ap (λ d. unwrap_or (field_kind s d f) Double) same in
    let default = c.in_ok-kind.ensures.default ∙ ap (λ d. field_default s d f) same in
    let proto3 = c.requires.proto3 in
    let number : FitsSigned w32 c.number.result = search rules in
    λ j. record {
      id = id j;
      number = (c.item_number.ensures ∙ ap item_number (to_z-of_z number ∙ c.number.ensures) ∙ ap (λ h. item_number (number_of h.number)) own) j;
      json_name = (c.in_ok-json_name.ensures ∙ ap (λ (h : FieldDescriptorProto). h.json_name) own) j;
      kind = kind j;
      oneof = (c.oneof_of.ensures ∙ (λ k. oneof_of (c.as_slice-oneofs.ensures k) (own k))) j;
      is_packed = (c.is_packed.ensures ∙ (λ k. is_packed (proto3 k) (kind k) (own k))) j;
      supports_presence = (c.supports_presence.ensures ∙ (λ k. supports_presence (proto3 k) (kind k) (own k))) j;
      cardinality = (c.cardinality_of.ensures ∙ ap cardinality_of c.label.ensures ∙ ap (λ h. cardinality_of (label_of h.label)) own) j;
      default = default j;
    }

pub returns-clause-faults : goal.returns-clause-faults
returns-clause-faults c =
    let s = setting_of c.args.reading.now in
    let place = c.args.of.now.owner.place in
    let i = c.args.position in
    let m = out-DescriptorProto c.args.of.now.owner.message.now in
    let owner : Owner = (message_at place c.args.of.now.owner.message.now, c.args.of.now.owner.message.now) in
    let g = c.index-as_slice-position.result in
    let f = get_or m.field i no_field in
    let is = subst (λ (fs : List FieldDescriptorProto). g ≡ get_or fs i g) c.as_slice.ensures c.index-as_slice-position.is in
    let own : g ≡ f = is ∙ get_or_default m.field i g no_field c.requires.there in
    let id : c.in_ok-id.id ≡ identity (field_at (inside_of place) i f) = c.in_ok-id.ensures.id ∙ ap (λ (h : FieldDescriptorProto). named_at place.file (entry_path place.path.now FIELD i) (join place.full_name.now (text_of h.name)) (text_of h.name)) own in
    reads-as (ap (λ d. field_record_faults s owner d f) (there place i f c.in_ok-id.id id)) c.in_ok-kind.ensures.faults
