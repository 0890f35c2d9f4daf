use Rattle.std.proofs.Common.{◌≡◌, ◌++◌, ◌∷◌, [], List, get_or, ap, sym, subst, ◌∙◌, refl}
use Rattle.std.proofs.lemmas.List.{get_or_default}
use Rattle.std.proofs.lemmas.List.Elements.{All-push}
use Rattle.std.specs.List.{All}
use Rattle.pool_types.specs.declared.contents.field.FieldDescriptorInner.{FieldDescriptorInner}
use Rattle.proto_types.specs.Field.{no_field}
use Rattle.proto_types.specs.declared.records.field.FieldDescriptorProto.{FieldDescriptorProto}
use Rattle.proto_types.specs.declared.message.DescriptorProto.{out-DescriptorProto}
use Rattle.record_walk.specs.Place.{field_at, inside_of, message_at}
use Rattle.record_walk.specs.Shown.{Shown}
use Rattle.field_rules.specs.NamesBegin.{BeginsAtBoundary}
use Rattle.field_rules.specs.Numbers.{field_number_faults}
use Rattle.field_rules.specs.Oneofs.{oneof_faults}
use Rattle.reference_pass.specs.Plain.{IsPlain}
use Rattle.reference_pass.specs.SecondPass.{Faults}
use Rattle.reference_pass.specs.Reading.{setting_of}
use Rattle.reference_pass.proofs.Readings.{reads-as, reads-told}
use Rattle.reference_pass.proofs.field.push_field.Goals as goal

abbrev Begins : FieldDescriptorInner → Type 0
Begins f = BeginsAtBoundary f.id

-- where the names of items begin where a character begins, and that of one behind them, all do
pushed : {old room new : List FieldDescriptorInner} (item : FieldDescriptorInner) → room ≡ old → new ≡ room ++ item ∷ [] → Begins item → All Begins old → All Begins new
pushed {old} {room} {new} item kept is own begin = subst (All Begins) (sym (is ∙ ap (λ items. items ++ item ∷ []) kept)) (All-push Begins old item begin own)

pub returns-in_default-clause-begin : goal.returns-in_default-clause-begin
returns-in_default-clause-begin c = pushed _ c.reserve.ensures.items c.push_reserved.ensures.items c.in_ok-read_any_field.ensures.begins

pub returns-clause-begin : goal.returns-clause-begin
returns-clause-begin c = pushed _ c.reserve.ensures.items c.push_reserved-2.ensures.items c.in_ok-id.ensures.begins

-- neither its number nor its type nor its default value breaks a rule
pub returns-clause-faults : goal.returns-clause-faults
returns-clause-faults c =
    let s = setting_of c.args.reading.now in
    let place = c.args.of.now.owner.place in
    let i = c.args.position in
    let message = c.args.of.now.owner.message.now in
    let m = out-DescriptorProto message in
    let g = c.index-as_slice-position.result in
    let f = get_or m.field i no_field in
    let is = subst (λ (fs : List FieldDescriptorProto). g ≡ get_or fs i g) c.as_slice.ensures c.index-as_slice-position.is in
    let own : g ≡ f = is ∙ get_or_default m.field i g no_field c.requires.there in
    let d : Shown = field_at (inside_of place) i f in
    let plain : IsPlain s d f c.in-Some.kind = subst (λ h. IsPlain s d h c.in-Some.kind) own (c.in-Some.ensures.plain d refl) in
    let free = ap (field_number_faults s.files (message_at place message) message d) (sym own) ∙ c.in-Some.ensures.free s.files (message_at place message) d in
    let oneof : Faults = oneof_faults m.oneof_decl f in
    let told = reads-as (λ j. oneof_faults (c.as_slice-oneofs.ensures j) (own j)) (reads-told {r = c.args.reading.now} c.in_ok-check_oneof_index.ensures) in
    reads-as (λ j. sym free j ++ sym plain.type_told j ++ sym plain.default_told j ++ oneof) told
