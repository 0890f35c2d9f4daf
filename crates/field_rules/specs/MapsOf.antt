-- That the maps of a message are those of its fields, of which those before a position were read.
use Rattle.std.specs.Prelude.{◌≡◌, ◌≤◌, ℕ, List, length, take, FitsSigned, MatchOption}
use Rattle.std.specs.FinMap as map
use Rattle.std.specs.Int.{w32}
use Rattle.std.specs.List.{All}
use Rattle.proto_types.specs.declared.records.field.FieldDescriptorProto.{FieldDescriptorProto}
use Rattle.proto_types.specs.Readers.{number_of}
use Rattle.field_rules.specs.declared.maps.FieldMaps.{FieldMaps}
use Rattle.field_rules.specs.Maps.{keyed, by_number, by_name, by_json_name}

-- no two fields have one given JSON name: there are as many of them as fields that have one
abbrev pub JsonNamesDiffer : List FieldDescriptorProto → Type 0
JsonNamesDiffer fields = length (keyed (λ f. f.json_name) fields) ≤ map.len (by_json_name fields)

-- maps are those of fields, of which the ones before a position were read; their numbers are of 32
-- bits
pub record AreMapsOf (maps : FieldMaps) (fields : List FieldDescriptorProto) (position : ℕ)
    : Type 0 where
  pub numbers : maps.numbers ≡ by_number (take position fields)
  pub names : maps.names ≡ by_name fields
  pub json_names : maps.json_names ≡ by_json_name fields
  pub earlier : MatchOption maps.earlier (JsonNamesDiffer fields) (λ earlier. earlier
      ≡ by_json_name (take position fields))
  pub numbers_fit : All (λ f. FitsSigned w32 (number_of f.number)) (take position fields)
