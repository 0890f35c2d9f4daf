use Rattle.std.proofs.Common.{◌≡◌, ◌++◌, ◌∙◌, ◌+◌, ℕ, ℤ, Bool, true, false, not, Option, None, Some, is_some, List, [], if◌then◌else◌, refl, ap, sym, arith, rules, to_z, of_z, w32}
use Rattle.std.proofs.lemmas.Int.{to_z-of_z}
use Rattle.std.specs.List.{position_from}
use Rattle.plain_data.specs.Lists.{listed, only_if}
use Rattle.std.specs.Option.{option_map}
use Rattle.proto_types.specs.declared.message.DescriptorProto.{out-DescriptorProto}
use Rattle.proto_types.specs.declared.message.ReservedRange.{ReservedRange}
use Rattle.proto_types.specs.declared.message.ExtensionRange.{ExtensionRange}
use Rattle.proto_types.specs.Readers.{number_of}
use Rattle.field_rules.specs.FieldNumber.{is_valid_number}
use Rattle.field_rules.specs.NumberRanges.{holds, first_from}
use Rattle.field_rules.specs.Bounds.{reserved_bounds, extension_bounds}
use Rattle.pool_faults.specs.Labels.{part_label}
use Rattle.pool_faults.specs.declared.fault.DescriptorErrorKind.TheVariants.{InvalidFieldNumber}
use Rattle.proto_types.specs.declared.tag.field.TheConstants.{NUMBER}
use Rattle.field_rules.specs.Numbers.{by_message, invalid_faults, reserved_fault, extension_range_fault, extension_range_faults, out_of_range_faults}
use Rattle.field_rules.specs.Ranges.{reserves, extends}
use Rattle.record_walk.specs.Shown.{inside}
use Rattle.field_rules.proofs.First.{none-from}
use Rattle.field_rules.proofs.Firsts.{first-map, position-first, option_map-id}
use Rattle.field_rules.proofs.Passed.{to-end}
use Rattle.field_rules.proofs.numbers.is_free_number.Goals as goal

none-where : {X : Type 0} (found : Option X) → is_some found ≡ false → found ≡ None
none-where None absent = refl
none-where (Some x) absent = absurd (cc)

quiet : {X : Type 0} (b : Bool) (x : X) → b ≡ false → only_if b x ≡ []
quiet b x is = ap (λ c. only_if c x) is

-- no reserved range holds the number, and so nothing is told of them
none-reserved : (n : ℤ) (ranges : List ReservedRange) (bounds : List (ℤ × ℤ)) (found : Option ℕ) → bounds ≡ reserved_bounds ranges → found ≡ first_from (holds n) 0 bounds → found ≡ None → first_from (reserves n) 0 ranges ≡ None
none-reserved n ranges bounds found is first none =
    sym (ap (first_from (holds n) 0) is ∙ first-map (λ r. (number_of r.start, number_of r.«end»)) (holds n) ranges 0) ∙ sym first ∙ none

-- nor does an extension range
none-extension : (n : ℤ) (ranges : List ExtensionRange) (bounds : List (ℤ × ℤ)) (found : Option ℕ) → bounds ≡ extension_bounds ranges → found ≡ first_from (holds n) 0 bounds → found ≡ None → position_from (extends n) 0 ranges ≡ None
none-extension n ranges bounds found is first none =
    position-first (extends n) ranges 0 ∙ option_map-id (λ k. 0 + k) (λ k. omega arith) (first_from (extends n) 0 ranges)
    ∙ sym (ap (first_from (holds n) 0) is ∙ first-map (λ r. (number_of r.start, number_of r.«end»)) (holds n) ranges 0) ∙ sym first ∙ none

pub returns : goal.returns
returns c = λ free files owner d message are.
    let f = c.args.field.now in
    let m = out-DescriptorProto message in
    let h = to_z w32 (of_z w32 c.number-number.result) in
    let same : h ≡ number_of f.number = grind (arith, to_z-of_z, c.number-number.ensures) in
    let around = inside owner in
    let absent : is_some f.extendee ≡ false = sym c.is_some.ensures ∙ c.if-is_some.false in
    let valid : is_valid_number h ≡ true = search rules in
    let invalid : invalid_faults files d.file d.path h ≡ [] = ap (λ b. only_if (not b) (InvalidFieldNumber h (part_label files d.file d.path NUMBER))) valid in
    let reserved = to-end (reserves h) (reserved_fault files d.file d.path h around) (λ k r passes. quiet (reserves h r) _ passes) 0 m.reserved_range 0
    (none-reserved h m.reserved_range c.args.ranges.now.reserved c.first_from.result are.reserved c.first_from.ensures.first (none-where c.first_from.result (sym c.is_some-2.ensures ∙ c.if-is_some-2.false))) in
    let extension : extension_range_faults files d.file d.path h around m.extension_range ≡ [] =
    ap (λ e. listed (option_map (extension_range_fault files d.file d.path h around) e))
    (none-from (extends h) 0 m.extension_range (none-extension h m.extension_range c.args.ranges.now.extension c.first_from-2.result are.extension c.first_from-2.ensures.first
    (none-where c.first_from-2.result (c.is_none.ensures ∙ ap not free)))) in
    ap (λ n. by_message files d.file d.path n around message f) (sym same)
    ∙ (λ i. (invalid i ++ reserved i) ++ (if absent i then out_of_range_faults files d.file d.path h around m.extension_range else extension i))
