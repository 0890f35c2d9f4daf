use Rattle.std.proofs.Common.{rules}
use Rattle.numbered_pool.proofs.answers.Answers.field_numbered.Goals as goal

pub returns : goal.returns
returns c = search rules
