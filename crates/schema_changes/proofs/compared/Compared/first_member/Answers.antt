use Rattle.schema_changes.specs.Changes.{compared, old_member}
use Rattle.schema_changes.proofs.Members.{is-first, no-first}
use Rattle.schema_changes.proofs.compared.Compared.first_member.Goals as goal

pub returns-then-is_some : goal.returns-then-is_some
returns-then-is_some c = is-first (old_member (compared c.args.self.now)) c.args.positions.now c.loop-position.position-index 0 c.old_member-member.result c.is_some.result c.old_member-member.ensures c.is_some.ensures c.if-is_some.true c.loop-position-test.true c.loop-position.invariant

pub loop-position-preserved : goal.loop-position-preserved
loop-position-preserved c = no-first (old_member (compared c.args.self.now)) c.args.positions.now c.loop-position.position-index 0 c.old_member-member.result c.is_some.result c.old_member-member.ensures c.is_some.ensures c.if-is_some.false c.loop-position-test.true c.loop-position.invariant
