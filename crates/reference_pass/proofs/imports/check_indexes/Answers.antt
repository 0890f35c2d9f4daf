use Rattle.std.proofs.Common.{◌∙◌, arith}
use Rattle.std.proofs.lemmas.Grind.{common_steps}
use Rattle.reference_pass.proofs.imports.check_indexes.Goals as goal

-- one more index is looked at
pub loop-index-preserved : goal.loop-index-preserved
loop-index-preserved c =
    let before = c.loop-index.invariant in
    let next = c.in_ok-check_index.ensures in
    record {
      told = grind (arith, common_steps, before.told, next.told);
      files = next.files ∙ before.files;
    }
