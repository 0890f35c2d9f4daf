use Rattle.verdict_texts.proofs.Naming.{no-file}
use Rattle.verdict_texts.proofs.known.named_files.Goals as goal

-- no file is there
pub loop-at-init : goal.loop-at-init
loop-at-init c = no-file c.new.result c.new-2.result c.new.ensures c.new-2.ensures
