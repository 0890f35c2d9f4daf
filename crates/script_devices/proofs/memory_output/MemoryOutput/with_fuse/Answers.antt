use Rattle.std.proofs.Common.{rules}
use Rattle.script_devices.proofs.memory_output.MemoryOutput.with_fuse.Goals as goal

pub returns-clause-room : goal.returns-clause-room
returns-clause-room c = search rules
