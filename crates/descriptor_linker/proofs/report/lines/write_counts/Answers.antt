use Rattle.std.proofs.Common.{rules}
use Rattle.descriptor_linker.proofs.report.lines.write_counts.Goals as goal

pub returns : goal.returns
returns c = search rules
