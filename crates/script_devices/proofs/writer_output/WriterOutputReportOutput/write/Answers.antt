use Rattle.std.proofs.Common.{rules}
use Rattle.script_devices.proofs.writer_output.WriterOutputReportOutput.write.Goals as goal

pub returns-in-Ok-eq0-went : goal.returns-in-Ok-eq0-went
returns-in-Ok-eq0-went c = search rules
