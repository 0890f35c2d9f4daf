use Rattle.std.proofs.Common.{refl, ◌-◌, length}
use Rattle.field_rules.proofs.NamesBegin.{name-begins}
use Rattle.field_rules.proofs.identities.front.Goals as goal

pub range-requires-clause-end_boundary : goal.range-requires-clause-end_boundary
range-requires-clause-end_boundary c =
    name-begins c.args.text.now c.args.text.now c.args.ending.now (length c.args.text.now - length c.args.ending.now) refl refl c.utf8.ending c.requires
