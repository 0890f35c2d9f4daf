use Rattle.std.proofs.Common.{rules}
use Rattle.script_devices.proofs.memory_output.MemoryOutput.idle.Goals as goal

pub returns : goal.returns
returns c = search rules
