use Rattle.std.proofs.Common.{rules}
use Rattle.script_devices.proofs.memory_input.MemoryInput.with_fuse.Goals as goal

pub returns-clause-fuse : goal.returns-clause-fuse
returns-clause-fuse c = search rules
