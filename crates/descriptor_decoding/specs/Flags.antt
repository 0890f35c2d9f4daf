-- Truth values that options have in their bytes alone.
use Rattle.std.specs.Prelude.{ℕ, Bool, false, List, [], ◌∷◌, length, Option, None, Some, Result, Ok}
use Rattle.std.specs.Prelude.{unwrap_or}
use Rattle.std.specs.Result.{result_unwrap_or}
use Rattle.wire_format.specs.declared.fault.WireFault.{WireFault}
use Rattle.wire_format.specs.Reading.{◌>>=◌}
use Rattle.proto_types.specs.declared.message.DescriptorProto.{DescriptorProto, out-DescriptorProto}
use Rattle.proto_types.specs.declared.records.options.Options.{Options}
use Rattle.descriptor_decoding.specs.Merging.{Merge, merged_from, by_number, row}
use Rattle.descriptor_decoding.specs.Parts.{bool_merged}

-- of the fields with one number the last truth value counts
unfoldable pub flag_merged : ℕ → Merge (Option Bool)
flag_merged number n v part = by_number n part (row number (Ok (bool_merged v part)) (λ x. x) ∷ [])

-- a truth value that was read, or false where none was
abbrev pub flag_of : ℕ → List ℕ → Result (Option Bool) WireFault
flag_of number bytes = merged_from 100 (flag_merged number) (length bytes) bytes None

-- the truth value with a number in options; where it is missing, false
abbrev pub flag_in : {T : Type 0} → ℕ → Option (Options T) → Result Bool WireFault
flag_in number None = Ok false
flag_in number (Some o) = flag_of number o.encoded >>= λ x. Ok (unwrap_or x false)

-- whether options say the truth value with a number; wrong bytes say nothing
abbrev pub says : {T : Type 0} → ℕ → Option (Options T) → Bool
says number options = result_unwrap_or (flag_in number options) false

-- whether the options of a message say that it is an entry of a map (descriptor.proto on
-- `map_entry`)
abbrev pub says_map_entry : DescriptorProto → Bool
says_map_entry m = says 7 (out-DescriptorProto m).options

-- whether they say that it is a message set (descriptor.proto on `message_set_wire_format`)
abbrev pub says_message_set : DescriptorProto → Bool
says_message_set m = says 1 (out-DescriptorProto m).options
