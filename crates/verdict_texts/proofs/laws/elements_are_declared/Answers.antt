use Rattle.verdict_texts.proofs.Standing.{elements-are-declared}
use Rattle.verdict_texts.proofs.laws.elements_are_declared.Goals as goal

pub returns : goal.returns
returns c = elements-are-declared
