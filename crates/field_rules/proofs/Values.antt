-- The value of bytes is what their text stands for.
use Rattle.std.proofs.Common.{◌≡◌, ℕ, List, Ok, Err, ap, sym}
use Rattle.std.specs.Result.{result_map_both}
use Rattle.pool_types.specs.declared.kinds.KindIndex.TheVariants as index
use Rattle.pool_types.specs.declared.default_value.DefaultValue.TheVariants as value
use Rattle.field_rules.specs.declared.escape_faults.EscapeFault.{EscapeFault}
use Rattle.field_rules.specs.declared.escape_faults.EscapeFault.TheVariants.{MissingEscape, HexTooShort, InvalidHex, OctalTooLarge, InvalidEscape, OutOfMemory}
use Rattle.field_rules.specs.Escapes.{Bytes, Escaped, EscapeRefused, IsRefusal}
use Rattle.field_rules.specs.Simple.{Value, made, value_fault, simple_value, IsValueOf}
use Rattle.field_rules.proofs.Unescaped.{good, bad}

abbrev value_of : Bytes → Value
value_of given = made value.Bytes (result_map_both (λ bytes. bytes) value_fault given)

pub value-of-bytes : (text bytes : List ℕ) → Escaped text bytes → simple_value index.Bytes text ≡ Ok (value.Bytes bytes)
value-of-bytes text bytes e = ap value_of (good text bytes e)

refused : (text : List ℕ) (f : EscapeFault) → EscapeRefused text f → simple_value index.Bytes text ≡ Err (value_fault f)
refused text f e = ap value_of (bad text f e)

pub value-of-refused : (text : List ℕ) (f : EscapeFault) → IsRefusal text f → IsValueOf (Err (value_fault f)) (simple_value index.Bytes text)
value-of-refused text MissingEscape e = sym (refused text MissingEscape e)
value-of-refused text HexTooShort e = sym (refused text HexTooShort e)
value-of-refused text InvalidHex e = sym (refused text InvalidHex e)
value-of-refused text OctalTooLarge e = sym (refused text OctalTooLarge e)
value-of-refused text InvalidEscape e = sym (refused text InvalidEscape e)
value-of-refused text OutOfMemory e = tt
