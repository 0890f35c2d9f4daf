use Rattle.std.proofs.Common.{rules}
use Rattle.reference_pass.proofs.extension.bracketed.Goals as goal

pub returns : goal.returns
returns c = search rules
