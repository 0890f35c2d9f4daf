use Rattle.std.proofs.Common.{◌≡◌, ◌++◌, ◌<◌, ℕ, ℤ, List, length, get_or, ap, ◌∙◌, subst}
use Rattle.plain_data.specs.Lists.{only_if}
use Rattle.proto_types.specs.Paths.{entry_path}
use Rattle.proto_types.specs.declared.message.DescriptorProto.{out-DescriptorProto}
use Rattle.proto_types.specs.declared.records.field.FieldDescriptorProto.{FieldDescriptorProto}
use Rattle.proto_types.specs.declared.tag.message.TheConstants as message
use Rattle.verdict_texts.specs.Places.{names_no_oneof}
use Rattle.verdict_texts.proofs.Looking.{looked-next}
use Rattle.verdict_texts.proofs.places.add_fields.Goals as goal

-- one more field is looked at
pub loop-position-preserved : goal.loop-position-preserved
loop-position-preserved c =
    let path : List ℤ = c.args.path.now in
    let m = c.args.message.now in
    let i = c.loop-position.position in
    let x = c.field-item.result in
    let xs = (out-DescriptorProto m).field in
    let paths : List (List ℤ) = c.loop-position.paths.items in
    let gives : (ℕ × FieldDescriptorProto) → List (List ℤ) = λ e. only_if (names_no_oneof m e.1) (entry_path path message.FIELD e.0) in
    let same = c.as_slice-field-items.ensures in
    let below = subst (λ (ys : List FieldDescriptorProto). i < length ys) same c.loop-position-test.true in
    let is = subst (λ (ys : List FieldDescriptorProto). x ≡ get_or ys i x) same c.field-item.is in
    let told : c.add_if.new.paths.items ≡ paths ++ gives (i, x) =
    c.in_ok-add_if.ensures ∙ ap (λ b. paths ++ only_if b (entry_path path message.FIELD i)) c.names_no_oneof-is_wanted.ensures in
    told ∙ looked-next gives c.args.paths.now.items paths xs i x below is c.loop-position.invariant
