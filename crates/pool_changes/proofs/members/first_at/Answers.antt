use Rattle.std.proofs.Common.{◌∙◌}
use Rattle.std.specs.Option.{option_copied}
use Rattle.schema_changes.specs.Changes.{compared}
use Rattle.schema_changes.proofs.Members.{is-first, no-first}
use Rattle.pool_changes.specs.Members.{old_at}
use Rattle.pool_changes.proofs.Firsts.{is_some-copied}
use Rattle.pool_changes.proofs.members.first_at.Goals as goal

pub returns-then-is_some : goal.returns-then-is_some
returns-then-is_some c = is-first (old_at (compared c.args.sides)) c.args.positions.now c.loop-position.position-index 0 (option_copied c.old_at-id.result) c.is_some.result c.old_at-id.ensures (c.is_some.ensures ∙ is_some-copied c.old_at-id.result) c.if-is_some.true c.loop-position-test.true c.loop-position.invariant

pub loop-position-preserved : goal.loop-position-preserved
loop-position-preserved c = no-first (old_at (compared c.args.sides)) c.args.positions.now c.loop-position.position-index 0 (option_copied c.old_at-id.result) c.is_some.result c.old_at-id.ensures (c.is_some.ensures ∙ is_some-copied c.old_at-id.result) c.if-is_some.false c.loop-position-test.true c.loop-position.invariant
