use Rattle.std.proofs.Common.{◌≡◌, ◌-◌, ◌∷◌, [], ℕ, ℤ, get_or, Option, None, Some, refl, ap, sym, ◌∙◌, arith, to_z, of_z, w32}
use Rattle.std.proofs.lemmas.Int.{to_z-of_z}
use Rattle.proto_types.specs.declared.message.DescriptorProto.{out-DescriptorProto}
use Rattle.std.specs.Option.{option_map}
use Rattle.plain_data.specs.Lists.{listed}
use Rattle.proto_types.specs.declared.message.ExtensionRange.{ExtensionRange}
use Rattle.pool_faults.specs.declared.fault.DescriptorErrorKind.{DescriptorErrorKind}
use Rattle.record_walk.specs.Faults.{named_files}
use Rattle.record_walk.proofs.Tells.{tells-as, tells-from, tells-none}
use Rattle.record_walk.specs.Place.{inside_of}
use Rattle.field_rules.specs.Numbers.{extension_range_fault}
use Rattle.field_rules.specs.Ranges.{extends}
use Rattle.field_rules.proofs.First.{first-from, none-from}
use Rattle.field_rules.proofs.extension_ranges.check_not_in_ranges.Goals as goal

none-of : {X : Type 0} (found : Option X) → ((x : X) → found ≡ Some x → ⊥) → found ≡ None
none-of None other = refl
none-of (Some x) other = absurd (other x refl)

-- the first range that holds the number is told
pub returns-in_ok-push : goal.returns-in_ok-push
returns-in_ok-push c =
    let n = c.args.number in
    let files = named_files c.args.faults.now in
    let i = c.in-Some.position in
    let range = c.index-as_slice-position.result in
    let ranges = (out-DescriptorProto c.args.owner.message.now).extension_range in
    let fits : to_z w32 (of_z w32 n) ≡ n = to_z-of_z w32 n c.ranges.number in
    let told : ℤ → ℕ × ExtensionRange → DescriptorErrorKind = λ m. extension_range_fault files c.args.place.file c.args.place.path.now m (inside_of c.args.owner.place) in
    let found = first-from (extends n) 0 ranges i (sym c.requires.holder ∙ c.in-Some.is) in
    let whole : i - 0 ≡ i = omega arith in
    tells-from c.in_ok-fault.ensures.stays (tells-as (ap (λ fault. fault ∷ []) (c.in_ok-fault.ensures.fault ∙ ap (λ m. told m (i, range)) fits)
    ∙ ap (λ e. listed (option_map (told n) e))
    (sym (found.entry range (c.index-as_slice-position.is ∙ (λ j. get_or (c.as_slice.ensures j) (sym whole j) range)))))
    c.in_ok-push.ensures.told)

-- no range holds the number
pub returns-in_default : goal.returns-in_default
returns-in_default c =
    let n = c.args.number in
    let files = named_files c.args.faults.now in
    let ranges = (out-DescriptorProto c.args.owner.message.now).extension_range in
    let told = extension_range_fault files c.args.place.file c.args.place.path.now n (inside_of c.args.owner.place) in
    let none = none-of c.args.holder c.in_default.not-Some in
    tells-as (ap (λ e. listed (option_map told e)) (sym (none-from (extends n) 0 ranges (sym c.requires.holder ∙ none))))
    (tells-none c.args.faults.now)
