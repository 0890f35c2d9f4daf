-- Default values, as descriptor.proto's `default_value` writes them.
use Rattle.std.specs.Prelude.{◌≡◌, ℕ, ℤ, unsigned_abs, Bool, true, false, List}
use Rattle.std.specs.Option.{option_map, ok_or}
use Rattle.std.specs.Result.{result_map_both}
use Rattle.std.specs.declared.result.Result.{Result}
use Rattle.std.specs.declared.result.Result.TheVariants.{Ok, Err}
use Rattle.pool_types.specs.declared.kinds.KindIndex.{KindIndex}
use Rattle.pool_types.specs.declared.kinds.KindIndex.TheVariants as index
use Rattle.pool_types.specs.declared.default_value.DefaultValue.{DefaultValue}
use Rattle.pool_types.specs.declared.default_value.DefaultValue.TheVariants as value
use Rattle.field_rules.specs.declared.escape_faults.EscapeFault.{EscapeFault}
use Rattle.field_rules.specs.declared.escape_faults.EscapeFault.TheVariants as escape
use Rattle.field_rules.specs.declared.escape_faults.ValueFault.{ValueFault}
use Rattle.field_rules.specs.declared.escape_faults.ValueFault.TheVariants as fault
use Rattle.plain_data.specs.WholeNumbers.{whole_signed, whole_unsigned}
use Rattle.plain_data.specs.TruthValues.{truth_value}
use Rattle.field_rules.specs.Escapes.{unescaped}

-- the whole number of so many bits with a sign that a text writes, or the fault `Number`
abbrev pub signed_in : ℕ → List ℕ → Result ℤ ValueFault
signed_in bits text = ok_or (whole_signed bits text) fault.Number

-- the whole number of so many bits without a sign that a text writes, or the fault `Number`
abbrev pub unsigned_in : ℕ → List ℕ → Result ℕ ValueFault
unsigned_in bits text = ok_or (option_map unsigned_abs (whole_unsigned bits text)) fault.Number

-- the truth value that a text writes, or the fault `Bool`
abbrev pub truth_in : List ℕ → Result Bool ValueFault
truth_in text = ok_or (truth_value text) fault.Bool

-- the fault of a value whose text has an escape that is refused
abbrev pub value_fault : EscapeFault → ValueFault
value_fault escape.OutOfMemory = fault.OutOfMemory
value_fault f = fault.Escape f

-- the bytes that a text with escapes stands for, or its fault as that of a value
abbrev pub bytes_in : List ℕ → Result (List ℕ) ValueFault
bytes_in text = result_map_both (λ bytes. bytes) value_fault (unescaped text)

-- a value, or the fault for which there is none
abbrev pub Value : Type 0
Value = Result DefaultValue ValueFault

-- a value that is made of what a text gives
abbrev pub made : {X : Type 0} → (X → DefaultValue) → Result X ValueFault → Value
made make given = result_map_both make (λ f. f) given

-- the value that a text writes, of a kind that is no message, group or enum: a whole number, a
-- truth value, the text of a string, the bytes of a text with escapes; that of a double or a float
-- is kept unread
abbrev pub simple_value : KindIndex → List ℕ → Value
simple_value index.Double text = Ok (value.FloatText text)
simple_value index.Float text = Ok (value.FloatText text)
simple_value index.Int32 text = made value.I32 (signed_in 32 text)
simple_value index.Sint32 text = made value.I32 (signed_in 32 text)
simple_value index.Sfixed32 text = made value.I32 (signed_in 32 text)
simple_value index.Int64 text = made value.I64 (signed_in 64 text)
simple_value index.Sint64 text = made value.I64 (signed_in 64 text)
simple_value index.Sfixed64 text = made value.I64 (signed_in 64 text)
simple_value index.Uint32 text = made value.U32 (unsigned_in 32 text)
simple_value index.Fixed32 text = made value.U32 (unsigned_in 32 text)
simple_value index.Uint64 text = made value.U64 (unsigned_in 64 text)
simple_value index.Fixed64 text = made value.U64 (unsigned_in 64 text)
simple_value index.Bool text = made value.Bool (truth_in text)
simple_value index.String text = Ok (value.String text)
simple_value index.Bytes text = made value.Bytes (bytes_in text)
simple_value (index.Message _) text = Err fault.Number
simple_value (index.Enum _) text = Err fault.Number
simple_value (index.Group _) text = Err fault.Number

-- whether the values of a kind are written by themselves: those of a message, a group and an enum
-- are not
abbrev pub is_simple : KindIndex → Bool
is_simple (index.Message _) = false
is_simple (index.Enum _) = false
is_simple (index.Group _) = false
is_simple _ = true

-- an answer is the value or the fault that is meant, unless memory was refused
abbrev pub IsValueOf : Value → Value → Type 0
IsValueOf (Err fault.OutOfMemory) value = Unit {0}
IsValueOf answer value = answer ≡ value
