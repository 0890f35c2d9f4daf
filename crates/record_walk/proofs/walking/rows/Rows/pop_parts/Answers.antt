use Rattle.std.proofs.Common.{refl}
use Rattle.record_walk.specs.Cursor.{lines}
use Rattle.record_walk.proofs.InPlace.{pops-parts}
use Rattle.record_walk.proofs.walking.rows.Rows.pop_parts.Goals as goal

pub returns : goal.returns
returns c =
    pops-parts (lines c.args.self.now) (lines c.pop.new.self) c.pop.result (c.if-not-begins_with_parts.ensures refl) c.pop.ensures
