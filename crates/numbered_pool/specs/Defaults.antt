-- Default values as bytes.
use Rattle.std.specs.Prelude.{ℕ, List, codes, if◌then◌else◌}
use Rattle.std.specs.Fmt.{decimal, signed_decimal}
use Rattle.pool_types.specs.declared.default_value.DefaultValue.{DefaultValue}
use Rattle.pool_types.specs.declared.default_value.DefaultValue.TheVariants as value

-- a default value: a number in decimals, also of an enum's value; `true` or `false`; a text, bytes
-- and a number with a fraction as they are
abbrev pub default_bytes : DefaultValue → List ℕ
default_bytes (value.I32 n) = signed_decimal n
default_bytes (value.I64 n) = signed_decimal n
default_bytes (value.U32 n) = decimal n
default_bytes (value.U64 n) = decimal n
default_bytes (value.Bool b) = if b then codes "true" else codes "false"
default_bytes (value.String text) = text
default_bytes (value.Bytes bytes) = bytes
default_bytes (value.EnumNumber n) = signed_decimal n
default_bytes (value.FloatText text) = text
