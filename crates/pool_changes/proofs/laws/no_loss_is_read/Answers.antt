use Rattle.schema_changes.proofs.Named.{no-loss}
use Rattle.pool_changes.proofs.Looking.{look_up, names_mean}
use Rattle.pool_changes.proofs.laws.no_loss_is_read.Goals as goal

pub returns : goal.returns
returns c =
    let old = c.args.old.now in
    let new = c.args.new.now in
    λ besides none free m n same levels vs written.
    no-loss old new besides (look_up old c.made.ensures) (look_up new c.made-2.ensures) (names_mean new c.made-2.ensures) none free levels m n same vs written
