-- What a record's parts read as where they are missing or unknown (descriptor.proto's defaults).
use Rattle.std.specs.Prelude.{ℕ, zero, suc, ℤ, pos, negsuc, Bool, false, List, [], ◌∷◌, slice_get}
use Rattle.std.specs.Prelude.{unwrap_or}
use Rattle.std.specs.declared.option.Option.{Option}
use Rattle.std.specs.declared.option.Option.TheVariants.{None, Some}
use Rattle.proto_types.specs.declared.records.field.FieldLabel.{FieldLabel}
use Rattle.proto_types.specs.declared.records.field.FieldLabel.TheVariants.{Optional, Required}
use Rattle.proto_types.specs.declared.records.field.FieldLabel.TheVariants.{Repeated}
use Rattle.proto_types.specs.declared.records.field.FieldType.{FieldType}
use Rattle.proto_types.specs.declared.records.field.FieldType.TheVariants.{Double, Float, Int64}
use Rattle.proto_types.specs.declared.records.field.FieldType.TheVariants.{Uint64, Int32, Fixed64}
use Rattle.proto_types.specs.declared.records.field.FieldType.TheVariants.{Fixed32, Bool as Boolean}
use Rattle.proto_types.specs.declared.records.field.FieldType.TheVariants.{String, Group, Message}
use Rattle.proto_types.specs.declared.records.field.FieldType.TheVariants.{Bytes, Uint32, Enum}
use Rattle.proto_types.specs.declared.records.field.FieldType.TheVariants.{Sfixed32, Sfixed64}
use Rattle.proto_types.specs.declared.records.field.FieldType.TheVariants.{Sint32, Sint64}

-- a missing text reads as the empty text
abbrev pub text_of : Option (List ℕ) → List ℕ
text_of part = unwrap_or part []

-- a missing number reads as 0
abbrev pub number_of : Option ℤ → ℤ
number_of part = unwrap_or part (pos 0)

-- a missing truth value reads as false
abbrev pub flag_of : Option Bool → Bool
flag_of part = unwrap_or part false

-- the labels, from number 1 on
abbrev labels : List FieldLabel
labels = Optional ∷ Required ∷ Repeated ∷ []

-- the types, from number 1 on
abbrev types : List FieldType
types =
    Double ∷ Float ∷ Int64 ∷ Uint64 ∷ Int32 ∷ Fixed64 ∷ Fixed32 ∷ Boolean ∷ String ∷ Group ∷ Message
    ∷ Bytes ∷ Uint32 ∷ Enum
    ∷ Sfixed32 ∷ Sfixed64 ∷ Sint32 ∷ Sint64 ∷ []

-- the case with a number from 1 on, or another
abbrev numbered : {X : Type 0} → List X → X → Option ℤ → X
numbered cases other None = other
numbered cases other (Some (negsuc n)) = other
numbered cases other (Some (pos zero)) = other
numbered cases other (Some (pos (suc n))) = unwrap_or (slice_get cases n) other

-- the label with a number: 1 is optional, 2 required, 3 repeated; a missing label and any other
-- number read as optional
abbrev pub label_of : Option ℤ → FieldLabel
label_of part = numbered labels Optional part

-- the type with a number: 1 to 18 are the types of descriptor.proto in its order; a missing type
-- and any other number read as double
abbrev pub type_of : Option ℤ → FieldType
type_of part = numbered types Double part
