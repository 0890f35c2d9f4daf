use Rattle.std.proofs.Common.{◌≡◌, false, ap}
use Rattle.std.specs.List.{list_any}
use Rattle.protoc_rules.specs.Imports.{imports, imports_of, is_marked}
use Rattle.protoc_rules.proofs.Chains.{back-unmarked}
use Rattle.protoc_rules.proofs.cycles.unmark_file.Goals as goal

pub returns-then-not-any_marked-clause-back : goal.returns-then-not-any_marked-clause-back
returns-then-not-any_marked-clause-back c =
    let files = imports c.args.files.now in
    let marked = is_marked c.args.marks.now in
    let same : list_any marked c.imports_of.result.now ≡ list_any marked (imports_of files c.args.file) = ap (list_any marked) c.imports_of.ensures in
    let none : list_any marked (imports_of files c.args.file) ≡ false = cc in
    back-unmarked files c.args.marks.now c.args.file none
