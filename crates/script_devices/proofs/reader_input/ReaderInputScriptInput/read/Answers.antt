use Rattle.std.proofs.Common.{rules}
use Rattle.script_devices.proofs.reader_input.ReaderInputScriptInput.read.Goals as goal

pub returns-then-is_err-clause-reads : goal.returns-then-is_err-clause-reads
returns-then-is_err-clause-reads c = search rules
