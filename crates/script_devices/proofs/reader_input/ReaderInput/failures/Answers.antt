use Rattle.std.proofs.Common.{rules}
use Rattle.script_devices.proofs.reader_input.ReaderInput.failures.Goals as goal

pub returns : goal.returns
returns c = search rules
