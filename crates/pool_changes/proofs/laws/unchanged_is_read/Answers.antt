use Rattle.schema_changes.specs.Parts.{parts_of}
use Rattle.schema_changes.proofs.Keeping.{unchanged}
use Rattle.pool_changes.proofs.Looking.{look_up}
use Rattle.pool_changes.proofs.laws.unchanged_is_read.Goals as goal

pub returns : goal.returns
returns c =
    let old = c.args.old.now in
    let new = c.args.new.now in
    λ reached besides closed none free m n here same levels vs written.
    unchanged (parts_of old) (parts_of new) reached besides (look_up old c.made.ensures) (look_up new c.made-2.ensures) closed none free levels m n here same vs written
