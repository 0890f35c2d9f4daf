use Rattle.std.proofs.Common.{rules}
use Rattle.link_script.proofs.script.statement.ScriptFaultDisplay.fmt.Goals as goal

pub returns-clause-styled : goal.returns-clause-styled
returns-clause-styled c = search rules

pub returns-clause-writes : goal.returns-clause-writes
returns-clause-writes c = search rules
