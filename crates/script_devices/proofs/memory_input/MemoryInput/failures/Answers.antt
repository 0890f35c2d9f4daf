use Rattle.std.proofs.Common.{rules}
use Rattle.script_devices.proofs.memory_input.MemoryInput.failures.Goals as goal

pub returns : goal.returns
returns c = search rules
