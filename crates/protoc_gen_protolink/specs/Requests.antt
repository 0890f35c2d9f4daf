-- A `CodeGeneratorRequest` of plugin.proto: what protoc asks a plugin.
use Rattle.std.specs.Prelude.{ℕ, List, [], ◌∷◌, ◌++◌, length, Result, Ok}
use Rattle.std.specs.declared.option.Option.TheVariants.{None}
use Rattle.wire_format.specs.Encoding.{encoding}
use Rattle.wire_format.specs.Tokens.{Value, Len}
use Rattle.wire_format.specs.declared.fault.WireFault.{WireFault}
use Rattle.descriptor_decoding.specs.Merging.{Merge, by_number, merged_from, row}
use Rattle.descriptor_decoding.specs.Parts.{text_merged}
use Rattle.descriptor_encoding.specs.Wire.{bytes_field}
use Rattle.protoc_gen_protolink.specs.declared.requests.CodeRequest.{CodeRequest}

-- a request that says nothing
abbrev pub no_request : CodeRequest
no_request = record { parameter = None; set = [] }

-- a file, as the one more of a descriptor set
abbrev pub set_merged : Value → List ℕ → List ℕ
set_merged (Len bytes ends) set = set ++ encoding (bytes_field 1 bytes ∷ [])
set_merged other set = set

-- what a field makes of a request: field 2 is its parameter, and field 15 one of its files
unfoldable pub request_merged : Merge CodeRequest
request_merged n v m = by_number n m (
    row 2 (text_merged v m.parameter) (λ x. record m { parameter = x }) ∷
    row 15 (Ok (set_merged v m.set)) (λ x. record m { set = x }) ∷ [])

-- the request that bytes encode, or their first fault
abbrev pub request_in : List ℕ → Result CodeRequest WireFault
request_in bytes = merged_from 100 request_merged (length bytes) bytes no_request
