use Rattle.std.proofs.Common.{◌≡◌, ◌++◌, List, get_or, unwrap_or, ap, sym, subst, ◌∙◌, append_assoc}
use Rattle.std.proofs.lemmas.List.{get_or_default}
use Rattle.pool_types.specs.declared.kinds.KindIndex.TheVariants.{Double}
use Rattle.proto_types.specs.Field.{no_field}
use Rattle.proto_types.specs.declared.records.field.FieldDescriptorProto.{FieldDescriptorProto}
use Rattle.proto_types.specs.declared.message.DescriptorProto.{out-DescriptorProto}
use Rattle.field_rules.specs.Oneofs.{oneof_faults}
use Rattle.field_rules.specs.Numbers.{field_number_faults}
use Rattle.record_walk.specs.Place.{message_at}
use Rattle.reference_pass.specs.SecondPass.{Faults}
use Rattle.reference_pass.specs.Plain.{field_of, field_shown, record_of}
use Rattle.reference_pass.specs.Defaults.{field_default, field_default_faults}
use Rattle.reference_pass.specs.Types.{field_kind, type_faults}
use Rattle.reference_pass.specs.Reading.{setting_of}
use Rattle.reference_pass.proofs.Readings.{reads-as, reads-told, reads-two, same-setting}
use Rattle.reference_pass.proofs.field.check_field.Goals as goal
use Rattle.reference_pass.proofs.field.check_field.Goals.{After-unwrap_or}

own : (c : After-unwrap_or) → c.index-as_slice-position.result ≡ record_of c.args.of.now c.args.position
own c =
    let i = c.args.position in
    let g = c.index-as_slice-position.result in
    let is = subst (λ (fs : List FieldDescriptorProto). g ≡ get_or fs i g) c.as_slice.ensures c.index-as_slice-position.is in
    is ∙ get_or_default (out-DescriptorProto c.args.of.now.owner.message.now).field i g no_field c.requires.there

pub returns-clause-kind : goal.returns-clause-kind
returns-clause-kind c =
    let owner = c.args.of.now.owner in
    let m = owner.message.now in
    let there = c.place_of-place.ensures c.index-as_slice-position.result ∙ ap (field_shown owner.place c.args.id.now c.args.position) (own c) in
    let first = reads-as (λ j. field_number_faults (setting_of c.args.reading.now).files (message_at owner.place m) m (there j) (own c j)) (reads-told {r = c.args.reading.now} c.in_ok-check_field_number.ensures) in
    c.unwrap_or.ensures ∙ ap (λ k. unwrap_or k Double) (c.in_ok-kind.ensures.kind ∙ (λ j. field_kind (same-setting first j) (there j) (own c j)))

pub returns-clause-default : goal.returns-clause-default
returns-clause-default c =
    let owner = c.args.of.now.owner in
    let m = owner.message.now in
    let there = c.place_of-place.ensures c.index-as_slice-position.result ∙ ap (field_shown owner.place c.args.id.now c.args.position) (own c) in
    let first = reads-as (λ j. field_number_faults (setting_of c.args.reading.now).files (message_at owner.place m) m (there j) (own c j)) (reads-told {r = c.args.reading.now} c.in_ok-check_field_number.ensures) in
    c.in_ok-kind.ensures.default ∙ (λ j. field_default (same-setting first j) (there j) (own c j))

-- its number is judged first, then its type and its default value, and then its oneof
pub returns-clause-faults : goal.returns-clause-faults
returns-clause-faults c =
    let s = setting_of c.args.reading.now in
    let owner = c.args.of.now.owner in
    let m = owner.message.now in
    let f = record_of c.args.of.now c.args.position in
    let d = field_of c.args.of.now c.args.id.now c.args.position in
    let there = c.place_of-place.ensures c.index-as_slice-position.result ∙ ap (field_shown owner.place c.args.id.now c.args.position) (own c) in
    let number : Faults = field_number_faults s.files (message_at owner.place m) m d f in
    let typing : Faults = type_faults s d f in
    let default : Faults = field_default_faults s d f in
    let oneof : Faults = oneof_faults (out-DescriptorProto m).oneof_decl f in
    let first = reads-as (λ j. field_number_faults s.files (message_at owner.place m) m (there j) (own c j)) (reads-told {r = c.args.reading.now} c.in_ok-check_field_number.ensures) in
    let second = reads-as (λ j. type_faults (same-setting first j) (there j) (own c j) ++ field_default_faults (same-setting first j) (there j) (own c j)) c.in_ok-kind.ensures.faults in
    let third = reads-as (λ j. oneof_faults (c.as_slice-oneofs.ensures j) (own c j)) (reads-told {r = c.type_and_default.new.reading} c.in_ok-check_oneof_index.ensures) in
    reads-as (ap (λ fs. fs ++ oneof) (sym (append_assoc number typing default))) (reads-two (reads-two first second) third)
