use Rattle.std.proofs.lemmas.Grind.{common_steps}
use Rattle.std.proofs.Common.{◌≡◌, ◌<◌, ℤ, List, length, get_or, to_z, of_z, w32, subst, arith}
use Rattle.std.proofs.lemmas.Int.{to_z-of_z}
use Rattle.proto_types.specs.Readers.{number_of}
use Rattle.proto_types.specs.declared.records.enumeration.EnumValueDescriptorProto.{EnumValueDescriptorProto}
use Rattle.record_walk.specs.Place.{enum_at}
use Rattle.record_walk.specs.Faults.{named_files}
use Rattle.field_rules.proofs.Tells.{tells-next}
use Rattle.field_rules.specs.EnumValues.{value_faults}
use Rattle.field_rules.proofs.ValueFaults.{told-apart}
use Rattle.field_rules.proofs.enum_values.check_all_reserved.Goals as goal

-- one more value is checked
pub loop-position-preserved : goal.loop-position-preserved
loop-position-preserved c =
    let b = c.loop-position.faults in
    let e = c.args.enumeration.now in
    let owner = enum_at c.args.place e in
    let i = c.loop-position.position in
    let v = c.value-item.result in
    let n : ℤ = to_z w32 (of_z w32 c.number.result) in
    let number : n ≡ number_of v.number = grind (arith, to_z-of_z, c.number.ensures) in
    let same = c.as_slice-value-items.ensures in
    let below = subst (λ (xs : List EnumValueDescriptorProto). i < length xs) same c.loop-position-test.true in
    let is = subst (λ (xs : List EnumValueDescriptorProto). v ≡ get_or xs i v) same c.value-item.is in
    tells-next (λ fs. value_faults fs owner e) e.value i v below is c.loop-position.invariant
    (told-apart (named_files b) owner e i v n number c.requires.apart below is) c.in_ok-check_reserved.ensures

pub returns : goal.returns
returns c = grind (arith, common_steps)
