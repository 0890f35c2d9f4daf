-- A record that is borrowed, as one that declares something.
use Rattle.record_lists.specs.declared.find.record.Record.{Record}
use Rattle.record_lists.specs.declared.find.record.Record.TheVariants as borrowed
use Rattle.record_walk.specs.Protos.{Proto, of_file, of_message, of_field, of_oneof, of_service}
use Rattle.record_walk.specs.Protos.{of_method, of_enum, of_value, of_extension}

-- a record that the code borrows, as one that declares something
abbrev pub proto_in : Record → Proto
proto_in (borrowed.File f) = of_file f.now
proto_in (borrowed.Message m) = of_message m.now
proto_in (borrowed.Field f) = of_field f.now
proto_in (borrowed.Oneof o) = of_oneof o.now
proto_in (borrowed.Service s) = of_service s.now
proto_in (borrowed.Method m) = of_method m.now
proto_in (borrowed.Enum e) = of_enum e.now
proto_in (borrowed.EnumValue v) = of_value v.now
proto_in (borrowed.Extension x) = of_extension x.now
