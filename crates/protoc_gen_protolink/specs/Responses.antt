-- A `CodeGeneratorResponse` of plugin.proto: what a plugin answers protoc.
use Rattle.std.specs.Prelude.{ℕ, List, [], ◌∷◌, ◌++◌}
use Rattle.std.specs.declared.option.Option.{Option}
use Rattle.wire_format.specs.Encoding.{encoding}
use Rattle.descriptor_encoding.specs.Parts.{text_listed}
use Rattle.descriptor_encoding.specs.Wire.{number_field}

-- a response with an error or none, which supports optional fields of proto3, and has no files
abbrev pub response : Option (List ℕ) → List ℕ
response error = encoding (text_listed 1 error ++ number_field 2 1 ∷ [])
