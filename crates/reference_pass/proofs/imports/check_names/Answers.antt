use Rattle.std.proofs.Common.{refl}
use Rattle.reference_pass.specs.Imports.{missing_file}
use Rattle.field_rules.proofs.Each.{short-list}
use Rattle.reference_pass.proofs.Readings.{reads-next}
use Rattle.reference_pass.proofs.imports.check_names.Goals as goal

pub check_name-requires : goal.check_name-requires
check_name-requires c = short-list c.args.imports.now c.loop-position.position c.requires c.loop-position-test.true

-- one more import is looked at
pub loop-position-preserved : goal.loop-position-preserved
loop-position-preserved c =
    reads-next (λ s. missing_file s c.args.index) c.args.imports.now c.loop-position.position c.index-imports-position.result
    c.loop-position-test.true c.index-imports-position.is c.loop-position.invariant refl c.in_ok-check_name.ensures
