use Rattle.std.proofs.Common.{refl, sym, ◌∙◌}
use Rattle.name_tables.proofs.Values.{rising-before}
use Rattle.name_tables.proofs.entered.numbers_before.Goals as goal

-- the value behind which all were passed is of an earlier file
pub returns-else-not-lies_before-clause-earlier : goal.returns-else-not-lies_before-clause-earlier
returns-else-not-lies_before-clause-earlier g c =
    let last = c.if-not-lies_before.ensures refl in
    rising-before g.T.InFile.file_of c.args.values.now c.loop-count.count c.args.file last.0 c.requires (sym c.value_of.ensures ∙ last.1) last.2
