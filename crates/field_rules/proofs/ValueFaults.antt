-- What a value of an enum tells.
use Rattle.std.proofs.Common.{◌≡◌, ◌<◌, ◌⊎◌, inl, inr, ℕ, ℤ, Bool, true, false, cond, List, [], ◌++◌, length, get_or, take, Option, refl, ap, sym, ◌∙◌, append-nil}
use Rattle.std.specs.List.{enumerate_from}
use Rattle.std.specs.Option.{option_map}
use Rattle.proto_types.specs.declared.records.enumeration.EnumDescriptorProto.{EnumDescriptorProto}
use Rattle.proto_types.specs.declared.records.enumeration.EnumValueDescriptorProto.{EnumValueDescriptorProto}
use Rattle.plain_data.specs.Lists.{listed}
use Rattle.proto_types.specs.Readers.{number_of}
use Rattle.proto_types.specs.declared.file.FileDescriptorProto.{FileDescriptorProto}
use Rattle.pool_faults.specs.declared.fault.DescriptorErrorKind.{DescriptorErrorKind}
use Rattle.pool_faults.specs.declared.fault.DescriptorErrorKind.TheVariants as fault
use Rattle.record_walk.specs.Shown.{Shown}
use Rattle.field_rules.specs.EnumItems.{allows_alias}
use Rattle.field_rules.specs.EnumValues.{NumbersRise, number_label, reserved_faults, duplicate_faults, value_faults}
use Rattle.field_rules.proofs.Earlier.{earliest, told-earliest}
use Rattle.field_rules.proofs.Rising.{none-before}

module _ (files : List FileDescriptorProto) (owner : Shown) (e : EnumDescriptorProto) (i : ℕ) (v : EnumValueDescriptorProto) (number : ℤ) (number_is : number ≡ number_of v.number) where
  abbrev n : ℤ
  n = number_of v.number

  abbrev again : ℤ → ℕ → DescriptorErrorKind
  again m first = fault.DuplicateEnumNumber m (number_label files owner first) (number_label files owner i)

  -- the fault that cites the earliest value with the number
  again-told : (earlier : Option ℕ) → earlier ≡ option_map (λ x. x.0) (earliest (enumerate_from 0 (take i e.value)) number)
      → listed (option_map (again number) earlier) ≡ duplicate_faults files owner i n (take i e.value)
  again-told earlier is =
      ap (λ o. listed (option_map (again number) o)) is
      ∙ ap (λ m. listed (option_map (again m) (option_map (λ x. x.0) (earliest (enumerate_from 0 (take i e.value)) m)))) number_is
      ∙ sym (told-earliest (again n) (earliest (enumerate_from 0 (take i e.value)) n))

  -- the faults of the value, where two values may not have one number, and where they may
  pub told-alone : (earlier : Option ℕ) (alias : Bool) → alias ≡ allows_alias e.options → alias ≡ false → earlier ≡ option_map (λ x. x.0) (earliest (enumerate_from 0 (take i e.value)) number)
      → reserved_faults files owner i number e.reserved_range ++ listed (option_map (again number) earlier) ≡ value_faults files owner e i v
  told-alone earlier alias alias_is off earlier_is = λ j.
      reserved_faults files owner i (number_is j) e.reserved_range
      ++ (again-told earlier earlier_is ∙ ap (λ b. cond b [] (duplicate_faults files owner i n (take i e.value))) (sym off ∙ alias_is)) j

  pub told-shared : (alias : Bool) → alias ≡ allows_alias e.options → alias ≡ true → reserved_faults files owner i number e.reserved_range ≡ value_faults files owner e i v
  told-shared alias alias_is on =
      sym (append-nil (reserved_faults files owner i number e.reserved_range))
      ∙ (λ j. reserved_faults files owner i (number_is j) e.reserved_range ++ ap (λ b. cond b [] (duplicate_faults files owner i n (take i e.value))) (sym on ∙ alias_is) j)

  nothing : (b : Bool) (told : List DescriptorErrorKind) → told ≡ [] → [] ≡ cond b [] told
  nothing true told none = refl
  nothing false told none = sym none

  -- where aliases are allowed, or numbers rise, reserved ranges are all that can be told
  pub told-apart : (allows_alias e.options ≡ true) ⊎ NumbersRise e.value → i < length e.value → v ≡ get_or e.value i v → reserved_faults files owner i number e.reserved_range ≡ value_faults files owner e i v
  told-apart (inl on) below is = told-shared (allows_alias e.options) refl on
  told-apart (inr rising) below is =
      let none : duplicate_faults files owner i n (take i e.value) ≡ [] =
      ap (λ o. listed (option_map (λ x. again n x.0) o)) (none-before e.value i 0 v rising below is) in
      sym (append-nil (reserved_faults files owner i number e.reserved_range))
      ∙ (λ j. reserved_faults files owner i (number_is j) e.reserved_range ++ nothing (allows_alias e.options) (duplicate_faults files owner i n (take i e.value)) none j)
