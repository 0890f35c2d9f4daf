-- The map of an enum leads to the values that have a name, its table has their numbers, and where aliases are not allowed no two values have one number.
use Rattle.std.proofs.Common.{◌≡◌, ◌+◌, ◌-◌, ℕ, ℤ, suc, Bool, false, true≢false, if◌then◌else◌, Option, Some, List, [], ◌∷◌, ◌++◌, length, map, take, refl, ap, subst, sym, ◌∙◌, arith}
use Rattle.std.proofs.lemmas.Bool.Decides.{Decides-int_eq}
use Rattle.std.proofs.lemmas.Cmp.{nat_list_cmp_total}
use Rattle.std.specs.Cmp.Lexicographic.{slice_cmp}
use Rattle.std.specs.FinMap as finite
use Rattle.std.specs.List.{AllByRecursion, enumerate_from, filter_map}
use Rattle.std.specs.Option.{option_and_then, option_map}
use Rattle.std.specs.Ordering.{int_eq, nat_cmp}
use Rattle.std.specs.Prelude.{slice_get}
use Rattle.proto_types.specs.Names.{join}
use Rattle.proto_types.specs.Paths.{entry_path}
use Rattle.proto_types.specs.Readers.{number_of, text_of}
use Rattle.proto_types.specs.declared.file.FileDescriptorProto.{FileDescriptorProto}
use Rattle.proto_types.specs.declared.tag.enum_.TheConstants as enumeration
use Rattle.proto_types.specs.declared.tag.message.TheConstants as message
use Rattle.proto_types.specs.declared.records.enumeration.EnumDescriptorProto.{EnumDescriptorProto}
use Rattle.proto_types.specs.declared.records.enumeration.EnumValueDescriptorProto.{EnumValueDescriptorProto}
use Rattle.plain_data.specs.Each.{map_enumerated}
use Rattle.plain_data.specs.Maps.{inserted}
use Rattle.pool_faults.specs.declared.fault.DescriptorErrorKind.TheVariants as fault
use Rattle.pool_types.specs.Contents.{ByText}
use Rattle.pool_types.specs.LookUps.{declared_name}
use Rattle.pool_types.specs.declared.contents.definition.Definition.{Definition}
use Rattle.pool_types.specs.declared.contents.enumeration.EnumValueDescriptorInner.{EnumValueDescriptorInner}
use Rattle.record_walk.specs.Place.{part_beside}
use Rattle.record_walk.specs.Protos.{name_of, of_value}
use Rattle.record_walk.specs.Shown.{Shown, beside, beside_name, parts}
use Rattle.field_rules.specs.EnumItems.{allows_alias, enum_item, sorted, value_item, value_items}
use Rattle.field_rules.specs.EnumValues.{duplicate_faults, number_label, reserved_faults, value_faults, values_faults}
use Rattle.reference_pass.proofs.Unbroken.{both-empty}
use Rattle.descriptor_pool.specs.Maps.{LeadsTo, NumbersDiffer, ValuesLead}
use Rattle.descriptor_pool.proofs.Keyed.{KeysDiffer, differ-behind, key-made, leads-made, none-first, none-listed, taken-at, with-key}
use Rattle.descriptor_pool.proofs.MapsLead.{each-empty, ending, one-place, some-same, text-ties}
use Rattle.descriptor_pool.proofs.Meant.{IsMeant}
use Rattle.descriptor_pool.proofs.Owned.{part-at}

module _ (files : List FileDescriptorProto) (d : Shown) (e : EnumDescriptorProto) where
  abbrev values : List EnumValueDescriptorProto
  values = e.value

  abbrev make : ℕ → EnumValueDescriptorProto → EnumValueDescriptorInner
  make i v = value_item (part_beside d enumeration.VALUE i (of_value v)) (number_of v.number)

  abbrev name_key : EnumValueDescriptorProto → Option (List ℕ)
  name_key v = Some (text_of v.name)

  abbrev number_key : EnumValueDescriptorProto → Option ℤ
  number_key v = Some (number_of v.number)

  -- the numbers of values with their positions, by the items and by the records
  pairs-same : (n first : ℕ) (vs : List EnumValueDescriptorProto)
      → map {B = ℤ × ℕ} (λ (v : ℕ × EnumValueDescriptorInner). (v.1.number, v.0)) (enumerate_from n (map_enumerated make first vs)) ≡ map (λ (v : ℕ × EnumValueDescriptorProto). (number_of v.1.number, v.0)) (enumerate_from n vs)
  pairs-same n first [] = refl
  pairs-same n first (v ∷ vs) = ap (λ rest. (number_of v.number, n) ∷ rest) (pairs-same (n + 1) (suc first) vs)

  -- the names of values, each with its position
  names-keyed : (n : ℕ) (vs : List EnumValueDescriptorProto)
      → map {B = List ℕ × ℕ} (λ (v : ℕ × EnumValueDescriptorProto). (text_of v.1.name, v.0)) (enumerate_from n vs) ≡ filter_map (λ v. option_map (λ k. (k, v.0)) (name_key v.1)) (enumerate_from n vs)
  names-keyed n [] = refl
  names-keyed n (v ∷ vs) = ap (λ rest. (text_of v.name, n) ∷ rest) (names-keyed (n + 1) vs)

  -- what no value breaks where aliases are not allowed
  own-number : values_faults files d e ≡ [] → allows_alias e.options ≡ false → (at : ℕ) (v : EnumValueDescriptorProto) → slice_get values at ≡ Some v
      → duplicate_faults files d at (number_of v.number) (take at values) ≡ []
  own-number none apart at v there =
      let one = each-empty (value_faults files d e) 0 values none at v there in
      let same : one.0 ≡ at = omega (arith, one.1) in
      let own = subst (λ n. value_faults files d e n v ≡ []) same one.2 in
      let told = duplicate_faults files d at (number_of v.number) (take at values) in
      let both = both-empty (reserved_faults files d at (number_of v.number) e.reserved_range) (if allows_alias e.options then [] else told) own in
      sym (ap (λ b. if b then [] else told) apart) ∙ both.1

  numbers-differ : values_faults files d e ≡ [] → allows_alias e.options ≡ false → KeysDiffer number_key values
  numbers-differ none apart = differ-behind number_key values (λ i j v w k before at-i at-j own-v own-w.
      let numbers : number_of v.number ≡ number_of w.number = some-same (own-v ∙ sym own-w) in
      let test : EnumValueDescriptorProto → Bool = λ x. int_eq (number_of x.number) (number_of w.number) in
      let missing = none-listed (λ (x : ℕ × EnumValueDescriptorProto). fault.DuplicateEnumNumber (number_of w.number) (number_label files d x.0) (number_label files d j))
      _ (own-number none apart j w at-j) in
      let fails = none-first test 0 (take j values) missing i v (taken-at values i j before ∙ at-i) in
      let passes = (Decides-int_eq (number_of v.number) (number_of w.number)).1 numbers in
      absurd (true≢false (sym passes ∙ fails)))

  -- and so of the items
  items-differ : KeysDiffer number_key values → NumbersDiffer (value_items d values)
  items-differ differ i j v w at-i at-j numbers =
      let own : EnumValueDescriptorInner → Option ℤ = λ x. Some x.number in
      let keys = key-made number_key own make (λ _ _. refl) 0 values in
      differ i j w.number
      (sym (keys i) ∙ ap (λ got. option_and_then own got) at-i ∙ ap Some numbers)
      (sym (keys j) ∙ ap (λ got. option_and_then own got) at-j)

  module _ (names : ByText Definition) (scope : List ℕ) (meant : AllByRecursion (IsMeant names) (parts of_value (beside scope d) enumeration.VALUE values)) where
    -- no two values have one name, where their full names mean them
    names-differ : KeysDiffer name_key values
    names-differ i j k at-i at-j =
        let v = with-key name_key (slice_get values i) k at-i in
        let w = with-key name_key (slice_get values j) k at-j in
        let texts : text_of v.0.name ≡ text_of w.0.name = some-same (v.2 ∙ sym w.2) in
        let first = part-at (IsMeant names) of_value (beside scope d) enumeration.VALUE 0 values meant i v.0 v.1 in
        let second = part-at (IsMeant names) of_value (beside scope d) enumeration.VALUE 0 values meant j w.0 w.1 in
        let defs = sym first.2 ∙ ap (λ text. finite.get names (join scope text)) texts ∙ second.2 in
        let same : entry_path d.path enumeration.VALUE first.0 ++ message.NAME ∷ [] ≡ entry_path d.path enumeration.VALUE second.0 ++ message.NAME ∷ [] =
        some-same (ap (option_map (λ (def : Definition). def.path)) defs) in
        omega (arith, first.1, second.1, one-place d.path enumeration.VALUE first.0 second.0 message.NAME same)

    -- the item of an enum leads to its values
    pub item-leads : values_faults files d e ≡ [] → ValuesLead (enum_item d e)
    item-leads none = record {
      names = subst (λ (entries : List (List ℕ × ℕ)). LeadsTo (value_items d values) (λ (v : EnumValueDescriptorInner). Some (declared_name v.id)) (inserted {R = slice_cmp nat_cmp} entries))
          (sym (names-keyed 0 values))
          (leads-made nat_list_cmp_total text-ties name_key (λ (v : EnumValueDescriptorInner). Some (declared_name v.id)) make
          (λ i v. ap Some (ending (beside_name d (text_of v.name)) (text_of v.name) (take (length d.full_name - length (name_of d.proto)) d.full_name, refl))) values names-differ);
      numbers = ap sorted (sym (pairs-same 0 0 values));
      single = λ apart. items-differ (numbers-differ none apart);
    }
