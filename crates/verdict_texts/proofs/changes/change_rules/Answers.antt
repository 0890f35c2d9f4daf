use Rattle.verdict_texts.specs.Changes.{change_rules}
use Rattle.verdict_texts.proofs.changes.change_rules.Goals as goal

-- the constant is written
pub returns : goal.returns
unfolding change_rules
returns c = c.from_str.ensures.ok
