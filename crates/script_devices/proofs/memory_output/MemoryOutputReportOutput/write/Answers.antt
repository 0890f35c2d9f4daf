use Rattle.std.proofs.Common.{rules}
use Rattle.script_devices.proofs.memory_output.MemoryOutputReportOutput.write.Goals as goal

pub returns-clause-writes : goal.returns-clause-writes
returns-clause-writes c = search rules
