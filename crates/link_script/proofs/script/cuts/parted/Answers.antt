use Rattle.std.proofs.lemmas.Str.{IsCharBoundary-after_ascii}
use Rattle.link_script.proofs.script.cuts.parted.Goals as goal

pub range_from-requires : goal.range_from-requires
range_from-requires c more = IsCharBoundary-after_ascii c.args.text.now c.args.place c.utf8.text c.requires.place c.requires.ascii
