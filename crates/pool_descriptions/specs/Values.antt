-- Default values in the text of a pool.
use Rattle.std.specs.Prelude.{ℕ, pos, List, [], ◌++◌, map, codes, if◌then◌else◌}
use Rattle.std.specs.Fmt.{decimal, signed_decimal}
use Rattle.std.specs.Option.{option_map_or}
use Rattle.std.specs.declared.option.Option.{Option}
use Rattle.verdict_texts.specs.JsonStrings.{json_string}
use Rattle.verdict_texts.specs.Lines.{plain_text}
use Rattle.pool_types.specs.declared.default_value.DefaultValue.{DefaultValue}
use Rattle.pool_types.specs.declared.default_value.DefaultValue.TheVariants as value
use Rattle.pool_faults.specs.Fault.{path_text}

-- bytes as numbers in square brackets
abbrev pub bytes_text : List ℕ → List ℕ
bytes_text bytes = path_text (map pos bytes)

-- a default value: a text as a string of JSON, and the number of an enum's value
abbrev pub value_words : DefaultValue → List ℕ
value_words (value.I32 n) = signed_decimal n
value_words (value.I64 n) = signed_decimal n
value_words (value.U32 n) = decimal n
value_words (value.U64 n) = decimal n
value_words (value.Bool b) = if b then codes "true" else codes "false"
value_words (value.String text) = plain_text (json_string text)
value_words (value.Bytes bytes) = bytes_text bytes
value_words (value.EnumNumber n) = signed_decimal n
value_words (value.FloatText text) = plain_text text

-- the default value of a field, where one was given
abbrev pub default_words : Option DefaultValue → List ℕ
default_words default = option_map_or (λ v. codes " default " ++ value_words v) default []
