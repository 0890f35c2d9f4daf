use Rattle.std.proofs.Common.{rules}
use Rattle.script_devices.proofs.writer_output.WriterOutput.failures.Goals as goal

pub returns : goal.returns
returns c = search rules
