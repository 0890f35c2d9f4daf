use Rattle.verdict_texts.specs.Sarif.{rules}
use Rattle.verdict_texts.proofs.sarif.rules.Goals as goal

-- the constant is written
pub returns : goal.returns
unfolding rules
returns c = c.from_str.ensures.ok
