-- The number of a field or an extension that breaks nothing breaks nothing where it stands elsewhere, and other files are cited.
use Rattle.std.proofs.Common.{◌≡◌, ℕ, ℤ, Bool, true, false, not, is_some, if◌then◌else◌, Option, None, Some, List, [], ◌++◌, refl, ◌∙◌}
use Rattle.std.specs.List.{find, enumerate_from, list_any}
use Rattle.std.specs.Option.{option_map_or}
use Rattle.proto_types.specs.declared.records.field.FieldDescriptorProto.{FieldDescriptorProto}
use Rattle.proto_types.specs.Readers.{number_of}
use Rattle.proto_types.specs.declared.file.FileDescriptorProto.{FileDescriptorProto}
use Rattle.proto_types.specs.declared.message.DescriptorProto.{DescriptorProto, out-DescriptorProto}
use Rattle.proto_types.specs.declared.message.ExtensionRange.{ExtensionRange}
use Rattle.proto_types.specs.declared.message.ReservedRange.{ReservedRange}
use Rattle.pool_types.specs.declared.contents.definition.Definition.{Definition}
use Rattle.record_walk.specs.Shown.{Shown, Surrounding, inside}
use Rattle.field_rules.specs.FieldNumber.{is_valid_number}
use Rattle.field_rules.specs.Numbers.{by_extendee, extension_number_faults, extension_range_faults, field_number_faults, invalid_faults, out_of_range_faults, reserved_fault, reserved_faults}
use Rattle.field_rules.specs.Ranges.{extends, reserves}
use Rattle.reference_pass.specs.Extension.{defined_at}
use Rattle.reference_pass.proofs.Unbroken.{both-empty}
use Rattle.reference_pass.specs.Setting.{Setting}
use Rattle.pool_laws.proofs.Settings.{RangesStay, SameRanges}
use Rattle.pool_laws.proofs.Told.{listed-still, told-still}
use Rattle.pool_laws.proofs.Typed.{no-fault}

module _ (fs gs : List FileDescriptorProto) (owner other : Surrounding) (d e : Shown) (n : ℤ) where
  invalid-again : invalid_faults fs d.file d.path n ≡ [] → invalid_faults gs e.file e.path n ≡ []
  invalid-again none = no-fault (not (is_valid_number n)) _ _ none

  reserved-again : (ranges : List ReservedRange) → reserved_faults fs d.file d.path n owner ranges ≡ [] → reserved_faults gs e.file e.path n other ranges ≡ []
  reserved-again = told-still (reserved_fault fs d.file d.path n owner) (reserved_fault gs e.file e.path n other) (λ k range. no-fault (reserves n range) _ _) 0

  outside-again : (ranges : List ExtensionRange) → out_of_range_faults fs d.file d.path n owner ranges ≡ [] → out_of_range_faults gs e.file e.path n other ranges ≡ []
  outside-again ranges none = no-fault (not (list_any (extends n) ranges)) _ _ none

  within-again : (ranges : List ExtensionRange) → extension_range_faults fs d.file d.path n owner ranges ≡ [] → extension_range_faults gs e.file e.path n other ranges ≡ []
  within-again ranges none = listed-still (find (λ x. extends n x.1) (enumerate_from 0 ranges)) _ _ none

  by-kind : (extended : Bool) (ranges : List ExtensionRange)
      → (if extended then out_of_range_faults fs d.file d.path n owner ranges else extension_range_faults fs d.file d.path n owner ranges) ≡ []
      → (if extended then out_of_range_faults gs e.file e.path n other ranges else extension_range_faults gs e.file e.path n other ranges) ≡ []
  by-kind true ranges none = outside-again ranges none
  by-kind false ranges none = within-again ranges none

  by-ranges : (extended : Bool) (reserved : List ReservedRange) (ranges : List ExtensionRange)
      → invalid_faults fs d.file d.path n ++ reserved_faults fs d.file d.path n owner reserved
      ++ (if extended then out_of_range_faults fs d.file d.path n owner ranges else extension_range_faults fs d.file d.path n owner ranges) ≡ []
      → invalid_faults gs e.file e.path n ++ reserved_faults gs e.file e.path n other reserved
      ++ (if extended then out_of_range_faults gs e.file e.path n other ranges else extension_range_faults gs e.file e.path n other ranges) ≡ []
  by-ranges extended reserved ranges none =
      let last = if extended then out_of_range_faults fs d.file d.path n owner ranges else extension_range_faults fs d.file d.path n owner ranges in
      let first = both-empty (invalid_faults fs d.file d.path n ++ reserved_faults fs d.file d.path n owner reserved) last none in
      let rest = both-empty (invalid_faults fs d.file d.path n) (reserved_faults fs d.file d.path n owner reserved) first.0 in
      λ i. invalid-again rest.0 i ++ reserved-again reserved rest.1 i ++ by-kind extended ranges first.1 i

  pub by-extendee-again : (m k : DescriptorProto) → SameRanges m k → by_extendee fs d.file d.path n owner m ≡ [] → by_extendee gs e.file e.path n other k ≡ []
  by-extendee-again m k same none =
      (λ i. invalid_faults gs e.file e.path n ++ reserved_faults gs e.file e.path n other (same.reserved i) ++ out_of_range_faults gs e.file e.path n other (same.extensions i))
      ∙ by-ranges true (out-DescriptorProto m).reserved_range (out-DescriptorProto m).extension_range none

pub field-numbered : (fs gs : List FileDescriptorProto) (owner other d e : Shown) (m k : DescriptorProto) (f g : FieldDescriptorProto)
    → SameRanges m k → g.number ≡ f.number → g.extendee ≡ f.extendee
    → field_number_faults fs owner m d f ≡ [] → field_number_faults gs other k e g ≡ []
field-numbered fs gs owner other d e m k f g same number extendee none =
    (λ i. let n = number_of (number i) in invalid_faults gs e.file e.path n ++ reserved_faults gs e.file e.path n (inside other) (same.reserved i)
    ++ (if is_some (extendee i) then out_of_range_faults gs e.file e.path n (inside other) (same.extensions i) else extension_range_faults gs e.file e.path n (inside other) (same.extensions i)))
    ∙ by-ranges fs gs (inside owner) (inside other) d e (number_of f.number) (is_some f.extendee) (out-DescriptorProto m).reserved_range (out-DescriptorProto m).extension_range none

pub extension-numbered : (fs gs : List FileDescriptorProto) (owner other d e : Shown) (m k : DescriptorProto) (f g : FieldDescriptorProto)
    → SameRanges m k → g.number ≡ f.number
    → extension_number_faults fs owner m d f ≡ [] → extension_number_faults gs other k e g ≡ []
extension-numbered fs gs owner other d e m k f g same number none =
    (λ i. by_extendee gs e.file e.path (number_of (number i)) (inside other) k) ∙ by-extendee-again fs gs (inside owner) (inside other) d e (number_of f.number) m k same none

-- the number of an extension, by the record of the message that it extends, if it has one
module _ (s t : Setting) (d e : Shown) (x y : FieldDescriptorProto) (number : y.number ≡ x.number) where
  pub numbered-by : (name other : List ℕ) (def to : Definition) (old now : Option DescriptorProto) → RangesStay old now
      → option_map_or (λ m. extension_number_faults s.files (defined_at name def m) m d x) old [] ≡ []
      → option_map_or (λ m. extension_number_faults t.files (defined_at other to m) m e y) now [] ≡ []
  numbered-by name other def to None None stay none = refl
  numbered-by name other def to (Some m) (Some k) stay none =
      extension-numbered s.files t.files (defined_at name def m) (defined_at other to k) d e m k x y stay number none
  numbered-by name other def to _ _ stay none = absurd stay
