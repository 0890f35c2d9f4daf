use Rattle.std.proofs.lemmas.Grind.{common_steps}
use Rattle.std.proofs.Common.{◌≡◌, ◌<◌, ℕ, ℤ, List, length, get_or, Some, unwrap_or, to_z, of_z, w32, subst, arith, ap, ◌∙◌}
use Rattle.std.proofs.lemmas.Int.{to_z-of_z}
use Rattle.std.specs.BTreeMap.{get}
use Rattle.std.specs.Ordering.{int_cmp, int_eq}
use Rattle.std.specs.Bool.{if◌then◌else◌}
use Rattle.std.specs.Option.{option_map}
use Rattle.proto_types.specs.Readers.{number_of}
use Rattle.proto_types.specs.declared.records.enumeration.EnumValueDescriptorProto.{EnumValueDescriptorProto}
use Rattle.plain_data.specs.Lists.{listed}
use Rattle.proto_types.specs.declared.file.FileDescriptorProto.{FileDescriptorProto}
use Rattle.pool_faults.specs.declared.fault.DescriptorErrorKind.{DescriptorErrorKind}
use Rattle.pool_faults.specs.declared.fault.DescriptorErrorKind.TheVariants.{DuplicateEnumNumber}
use Rattle.record_walk.specs.Place.{enum_at}
use Rattle.record_walk.specs.Faults.{named_files}
use Rattle.field_rules.proofs.Tells.{tells-next}
use Rattle.record_walk.proofs.Tells.{same-files, tells-as, tells-two}
use Rattle.field_rules.specs.EnumValues.{number_label, value_faults}
use Rattle.field_rules.proofs.Earlier.{positions-next, below-next}
use Rattle.field_rules.proofs.ValueFaults.{told-alone}
use Rattle.field_rules.proofs.enum_values.check_values.Goals as goal

-- one more value is checked: its number has a position, and its faults are told
pub loop-position-preserved : goal.loop-position-preserved
loop-position-preserved c =
    let b = c.loop-position.faults in
    let files = named_files b in
    let e = c.args.enumeration.now in
    let owner = enum_at c.args.place e in
    let i = c.loop-position.position in
    let v = c.value-item.result in
    let n : ℤ = to_z w32 (of_z w32 c.number-number.result) in
    let number : n ≡ number_of v.number = grind (arith, to_z-of_z, c.number-number.ensures) in
    let same = c.as_slice-value-items.ensures in
    let below = subst (λ (xs : List EnumValueDescriptorProto). i < length xs) same c.loop-position-test.true in
    let is = subst (λ (xs : List EnumValueDescriptorProto). v ≡ get_or xs i v) same c.value-item.is in
    let old = λ (m : ℤ). get int_cmp c.loop-position.positions m in
    let new = λ (m : ℤ). get int_cmp c.earlier_position.new.positions m in
    let earlier = c.in_ok-earlier.earlier in
    let after = λ (m : ℤ). c.in_ok-earlier.ensures.positions m ∙ ap (λ o. if int_eq m n then Some (unwrap_or o i) else old m) c.in_ok-earlier.ensures.earlier in
    let reserved = c.in_ok-check_reserved.ensures in
    let again : List FileDescriptorProto → ℕ → DescriptorErrorKind = λ fs first. DuplicateEnumNumber n (number_label fs owner first) (number_label fs owner i) in
    record {
      positions = positions-next e.value i v below is old new n number c.loop-position.invariant.positions after;
      below = below-next i old new n c.loop-position.invariant.below after;
      faults = tells-next (λ fs. value_faults fs owner e) e.value i v below is c.loop-position.invariant.faults
          (told-alone files owner e i v n number earlier c.allows_alias.result c.allows_alias.ensures c.if-allows_alias.false
          (c.in_ok-earlier.ensures.earlier ∙ c.loop-position.invariant.positions n))
          (tells-two reserved (tells-as (ap (λ fs. listed (option_map (again fs) earlier)) (same-files reserved)) c.in_ok-check_duplicate.ensures));
    }

pub returns : goal.returns
returns c = grind (arith, common_steps)
