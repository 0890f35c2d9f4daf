-- Files apart from the places of their parts in a source.
use Rattle.std.specs.Prelude.{◌≡◌}
use Rattle.std.specs.declared.option.Option.TheVariants.{None}
use Rattle.proto_types.specs.declared.file.FileDescriptorProto.{FileDescriptorProto}

-- a file apart from its places: all of it but its source info
abbrev pub apart_from_places : FileDescriptorProto → FileDescriptorProto
apart_from_places f = record f { source_code_info = None }

-- two files are equal apart from their places
abbrev pub EqualApartFromPlaces : FileDescriptorProto → FileDescriptorProto → Type 0
EqualApartFromPlaces f g = apart_from_places f ≡ apart_from_places g
