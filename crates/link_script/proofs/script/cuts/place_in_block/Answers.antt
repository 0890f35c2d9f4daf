use Rattle.link_script.proofs.Blocks.{none-there, first-there}
use Rattle.link_script.proofs.script.cuts.place_in_block.Goals as goal

pub returns-then-found-eq0 : goal.returns-then-found-eq0
returns-then-found-eq0 c = none-there c.args.wanted c.args.from c.args.bytes.now c.requires c.if-found-eq0.true

pub returns-else-found-eq0 : goal.returns-else-found-eq0
returns-else-found-eq0 c = first-there c.args.wanted c.args.from c.args.bytes.now c.requires c.if-found-eq0.false
