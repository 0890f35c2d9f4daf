use Rattle.std.proofs.Common.{arith}
use Rattle.std.proofs.lemmas.Grind.{common_steps}
use Rattle.std.proofs.lemmas.List.Elements.{filter_map-append}
use Rattle.name_resolution.proofs.imports.imported_files.Goals as goal

-- one more import is looked at
pub loop-name-preserved : goal.loop-name-preserved
loop-name-preserved c = grind (arith, common_steps, filter_map-append)
