-- The values of an enum that break nothing break nothing where it stands elsewhere, and other files are cited.
use Rattle.std.proofs.Common.{◌≡◌, ℕ, ℤ, Bool, true, false, if◌then◌else◌, List, [], ◌++◌, take, refl}
use Rattle.std.specs.List.{find, enumerate_from}
use Rattle.std.specs.Ordering.{int_eq}
use Rattle.proto_types.specs.declared.records.enumeration.EnumDescriptorProto.{EnumDescriptorProto}
use Rattle.proto_types.specs.declared.records.enumeration.EnumReservedRange.{EnumReservedRange}
use Rattle.proto_types.specs.declared.records.enumeration.EnumValueDescriptorProto.{EnumValueDescriptorProto}
use Rattle.proto_types.specs.Readers.{number_of}
use Rattle.proto_types.specs.declared.file.FileDescriptorProto.{FileDescriptorProto}
use Rattle.record_walk.specs.Shown.{Shown}
use Rattle.field_rules.specs.EnumItems.{allows_alias}
use Rattle.field_rules.specs.EnumRanges.{reserves}
use Rattle.field_rules.specs.EnumValues.{duplicate_faults, reserved_fault, reserved_faults, value_faults, values_faults}
use Rattle.reference_pass.proofs.Unbroken.{both-empty}
use Rattle.pool_laws.proofs.Told.{listed-still, told, told-still}
use Rattle.pool_laws.proofs.Typed.{no-fault}

module _ (fs gs : List FileDescriptorProto) (d g : Shown) (e : EnumDescriptorProto) where
  reserved-still : (position : ℕ) (n : ℤ) (k : ℕ) (ranges : List EnumReservedRange) → told (reserved_fault fs d position n) k ranges ≡ [] → told (reserved_fault gs g position n) k ranges ≡ []
  reserved-still position n = told-still (reserved_fault fs d position n) (reserved_fault gs g position n) (λ k range. no-fault (reserves n range) _ _)

  unless-alias : (alias : Bool) (position : ℕ) (n : ℤ) (earlier : List EnumValueDescriptorProto)
      → (if alias then [] else duplicate_faults fs d position n earlier) ≡ [] → (if alias then [] else duplicate_faults gs g position n earlier) ≡ []
  unless-alias true position n earlier none = refl
  unless-alias false position n earlier none = listed-still (find (λ x. int_eq (number_of x.1.number) n) (enumerate_from 0 earlier)) _ _ none

  value-still : (position : ℕ) (v : EnumValueDescriptorProto) → value_faults fs d e position v ≡ [] → value_faults gs g e position v ≡ []
  value-still position v none =
      let n = number_of v.number in
      let earlier = take position e.value in
      let parts = both-empty (reserved_faults fs d position n e.reserved_range) (if allows_alias e.options then [] else duplicate_faults fs d position n earlier) none in
      λ i. reserved-still position n 0 e.reserved_range parts.0 i ++ unless-alias (allows_alias e.options) position n earlier parts.1 i

  pub values-still : values_faults fs d e ≡ [] → values_faults gs g e ≡ []
  values-still = told-still (value_faults fs d e) (value_faults gs g e) value-still 0 e.value
