-- The fields that sources are encoded as, in the order of their numbers.
use Rattle.std.specs.Prelude.{List, ◌++◌, map}
use Rattle.wire_format.specs.Encoding.{Numbered}
use Rattle.proto_types.specs.declared.records.source.SourceCodeInfo.{SourceCodeInfo}
use Rattle.proto_types.specs.declared.records.source.Location.{Location}
use Rattle.descriptor_encoding.specs.Parts.{text_listed, texts_listed, packed_listed}
use Rattle.descriptor_encoding.specs.Parts.{messages_listed}

-- the fields that a location is encoded as
abbrev pub location_listed : Location → List Numbered
location_listed m =
    packed_listed 1 m.path ++
    (packed_listed 2 m.span ++
    (text_listed 3 m.leading_comments ++
    (text_listed 4 m.trailing_comments ++
    texts_listed 6 m.leading_detached_comments)))

-- the fields that the source of a file is encoded as
abbrev pub source_listed : SourceCodeInfo → List Numbered
source_listed m =
    messages_listed 1 (map location_listed m.location)
