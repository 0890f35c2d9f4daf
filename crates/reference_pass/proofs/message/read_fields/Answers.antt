use Rattle.std.proofs.lemmas.Grind.{common_steps}
use Rattle.std.proofs.Common.{◌≡◌, List, ◌<◌, length, get_or, subst, ◌++◌, ◌∷◌, [], ap, ◌∙◌, sym, refl, take, arith}
use Rattle.proto_types.specs.Field.{no_field}
use Rattle.proto_types.specs.declared.records.field.FieldDescriptorProto.{FieldDescriptorProto}
use Rattle.proto_types.specs.declared.message.DescriptorProto.{out-DescriptorProto}
use Rattle.pool_types.specs.declared.contents.field.FieldDescriptorInner.{FieldDescriptorInner}
use Rattle.field_rules.specs.Duplicates.{duplicate_faults}
use Rattle.field_rules.specs.MapsOf.{AreMapsOf}
use Rattle.reference_pass.specs.SecondPass.{Owner, field_faults}
use Rattle.reference_pass.specs.Items.{field_item}
use Rattle.pool_types.specs.Syntaxes.{is_proto3, syntax_at}
use Rattle.reference_pass.specs.Reading.{setting_of}
use Rattle.reference_pass.specs.Setting.{Setting}
use Rattle.record_walk.specs.Place.{field_at, inside_of, message_at}
use Rattle.field_rules.proofs.Each.{each-next}
use Rattle.reference_pass.proofs.Entries.{found-again}
use Rattle.reference_pass.proofs.Readings.{reads-as, reads-next, reads-told, reads-two, same-setting}
use Rattle.reference_pass.proofs.message.read_fields.Goals as goal

-- the file is still of its syntax
pub push_field-requires-clause-proto3 : goal.push_field-requires-clause-proto3
push_field-requires-clause-proto3 c =
    c.requires.proto3 ∙ sym (ap (λ (t : Setting). is_proto3 (syntax_at t.files c.args.of.owner.place.file)) (same-setting c.loop-position.invariant.faults))

-- one more field is read, and entered
pub loop-position-preserved : goal.loop-position-preserved
loop-position-preserved c =
    let s = setting_of c.args.reading.now in
    let m = out-DescriptorProto c.args.of.owner.message.now in
    let owner : Owner = (message_at c.args.of.owner.place c.args.of.owner.message.now, c.args.of.owner.message.now) in
    let here = inside_of c.args.of.owner.place in
    let i = c.loop-position.position in
    let f = get_or m.field i no_field in
    let below = subst (λ (xs : List FieldDescriptorProto). i < length xs) c.as_slice-fields.ensures c.loop-position-test.true in
    let is = found-again m.field i no_field in
    let so_far = c.loop-position.invariant.faults in
    let own = c.in_ok-push_field.ensures.faults in
    let item : Setting → FieldDescriptorInner = λ t. field_item t m.oneof_decl (field_at here i f) f in
    record {
      items = c.in_ok-push_field.ensures.items ∙ (λ j. c.loop-position.invariant.items j ++ item (same-setting so_far j) ∷ [])
          ∙ sym (each-next (λ n g. field_item s m.oneof_decl (field_at here n g) g) m.field i f below is);
      begin = c.in_ok-push_field.ensures.begin c.loop-position.invariant.begin;
      maps = c.in_ok-insert.ensures.maps;
      names = c.in_ok-push_field.ensures.names;
      faults = reads-next (λ t n g. field_faults t owner (field_at here n g) g) m.field i f below is so_far refl
          (reads-two own (reads-as (ap (λ t. duplicate_faults t.files owner.0.file owner.0.path (take i m.field) i f) (same-setting own)) (reads-told c.in_ok-insert.ensures.faults)));
    }

pub returns-clause-faults : goal.returns-clause-faults
returns-clause-faults c = grind (arith, common_steps)

pub returns-clause-items : goal.returns-clause-items
returns-clause-items c = grind (arith, common_steps)

-- all fields are entered
pub returns-clause-maps : goal.returns-clause-maps
returns-clause-maps c =
    let m = out-DescriptorProto c.args.of.owner.message.now in
    let same : length c.as_slice-fields.result.now ≡ length m.field = ap length c.as_slice-fields.ensures in
    let done : c.loop-position.position ≡ length m.field = grind (arith, common_steps, same) in
    subst (AreMapsOf c.loop-position.maps m.field) done c.loop-position.invariant.maps
