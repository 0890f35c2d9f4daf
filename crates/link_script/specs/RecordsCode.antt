-- What the code that builds records holds, as the definitions have it.
use Rattle.std.specs.Prelude.{reverse}
use Rattle.link_script.specs.declared.records.RecordBuilder.{RecordBuilder}
use Rattle.link_script.specs.Records.{Building}

-- what a `RecordBuilder` of the code has built; there the innermost open record stands last
abbrev pub building_in : RecordBuilder → Building
building_in b = record {
  open_records = reverse b.open_records.items;
  extends = b.extends;
  files = b.files.items;
}
