use Rattle.verdict_texts.proofs.ReadEscapes.{escapes-read-back}
use Rattle.verdict_texts.proofs.format_laws.escapes_read_back.Goals as goal

pub returns : goal.returns
returns c = escapes-read-back
