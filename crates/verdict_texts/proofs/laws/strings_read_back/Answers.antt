use Rattle.verdict_texts.proofs.ReadStrings.{strings-read-back}
use Rattle.verdict_texts.proofs.laws.strings_read_back.Goals as goal

pub returns : goal.returns
returns c = strings-read-back
