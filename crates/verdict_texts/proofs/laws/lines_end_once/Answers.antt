use Rattle.verdict_texts.proofs.OneFeed.{lines-end-once}
use Rattle.verdict_texts.proofs.laws.lines_end_once.Goals as goal

pub returns : goal.returns
returns c = lines-end-once
