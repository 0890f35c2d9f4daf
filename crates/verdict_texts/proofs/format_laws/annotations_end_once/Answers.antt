use Rattle.verdict_texts.proofs.OneLine.{annotations-end-once}
use Rattle.verdict_texts.proofs.format_laws.annotations_end_once.Goals as goal

pub returns : goal.returns
returns c = annotations-end-once
