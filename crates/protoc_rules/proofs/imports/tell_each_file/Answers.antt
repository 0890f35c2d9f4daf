use Rattle.std.proofs.Common.{arith}
use Rattle.std.proofs.lemmas.Grind.{common_steps}
use Rattle.protoc_rules.specs.Imports.{file_faults, is_marked}
use Rattle.protoc_rules.proofs.Told.{told_next}
use Rattle.protoc_rules.proofs.imports.tell_each_file.Goals as goal

pub loop-index-preserved : goal.loop-index-preserved
loop-index-preserved c =
    let tell = file_faults (is_marked c.args.marks.now) in
    let i = c.loop-index.index in
    let next = told_next tell c.args.files.now i c.index-files-index.result c.loop-index-test.true c.index-files-index.is in
    grind (arith, common_steps, next)
