use Rattle.std.proofs.Common.{rules}
use Rattle.script_devices.proofs.writer_output.WriterOutput.idle.Goals as goal

pub returns : goal.returns
returns c = search rules
