use Rattle.std.proofs.Common.{◌∙◌}
use Rattle.name_tables.proofs.PartTexts.{cut-trimmed}
use Rattle.name_tables.proofs.part_texts.trim.Goals as goal

pub returns : goal.returns
returns c =
    let trimmed = cut-trimmed c.args.bytes.now.items c.args.ends.now c.truncate.new.self.items c.start.result c.requires c.start.ensures c.truncate.ensures.items in
    record { len = trimmed.0 ∙ c.start.ensures; rises = trimmed.1; same = trimmed.2 }
