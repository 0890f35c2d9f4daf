-- What the report's code holds, as the definitions have it.
use Rattle.std.specs.Prelude.{string_bytes}
use Rattle.link_script.specs.RecordsCode.{building_in}
use Rattle.descriptor_linker.specs.declared.report.session.Session.{Session as Code}
use Rattle.descriptor_linker.specs.Report.Session.{Session}

-- the session that the code holds
abbrev pub session_in : Code → Session
session_in h = record {
  building = building_in h.builder;
  pool = h.pool;
  text = string_bytes h.text;
}
