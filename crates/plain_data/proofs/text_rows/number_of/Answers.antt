use Rattle.std.proofs.Common.{sym}
use Rattle.plain_data.proofs.Rows.{lookup-holds, lookup-lacks}
use Rattle.plain_data.proofs.text_rows.number_of.Goals as goal

pub find-requires-clause-within : goal.find-requires-clause-within
find-requires-clause-within c = c.requires.within

pub find-requires-clause-sorted : goal.find-requires-clause-sorted
find-requires-clause-sorted c = c.requires.sorted

pub returns-in-Some : goal.returns-in-Some
returns-in-Some c = sym (lookup-holds c.args.bytes.now c.args.rows.now c.args.key.now c.in-Some.at c.requires.distinct c.in-Some.ensures)

pub returns-in-None : goal.returns-in-None
returns-in-None c = sym (lookup-lacks c.args.bytes.now c.args.rows.now c.args.key.now c.in-None.ensures)
