use Rattle.std.proofs.Common.{rules}
use Rattle.pool_types.proofs.syntaxes.syntax_of.Goals as goal

pub returns : goal.returns
returns c = search rules
