-- What a file says of its source, and a location, without parts.
use Rattle.std.specs.Prelude.{[]}
use Rattle.std.specs.declared.option.Option.TheVariants.{None}
use Rattle.proto_types.specs.declared.records.source.SourceCodeInfo.{SourceCodeInfo}
use Rattle.proto_types.specs.declared.records.source.Location.{Location}

-- the source of a file without locations
abbrev pub no_source : SourceCodeInfo
no_source = record { location = [] }

-- a location with all parts absent or empty
abbrev pub no_location : Location
no_location = record {
  path = [];
  span = [];
  leading_comments = None;
  trailing_comments = None;
  leading_detached_comments = [];
}
