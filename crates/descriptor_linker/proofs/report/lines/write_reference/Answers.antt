use Rattle.std.proofs.Common.{rules}
use Rattle.descriptor_linker.proofs.report.lines.write_reference.Goals as goal

pub returns : goal.returns
returns c = search rules
