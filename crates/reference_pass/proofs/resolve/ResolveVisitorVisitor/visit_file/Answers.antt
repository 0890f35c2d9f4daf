use Rattle.std.proofs.Common.{OnOk, subst, sym}
use Rattle.record_walk.specs.Shown.{Shown, file_shown}
use Rattle.std.proofs.lemmas.Result.{on_ok_weaker}
use Rattle.reference_pass.specs.Imports.{import_faults}
use Rattle.reference_pass.specs.Reading.{ReadingTells, setting_of}
use Rattle.reference_pass.specs.State.{state_of}
use Rattle.reference_pass.proofs.Seen.{seen}
use Rattle.reference_pass.proofs.Steps.{with-none}
use Rattle.reference_pass.proofs.Readings.{same-setting}
use Rattle.reference_pass.proofs.resolve.ResolveVisitorVisitor.visit_file.Goals as goal

-- what its imports break is told
pub returns-clause-ok : goal.returns-clause-ok
returns-clause-ok c =
    let v = c.args.self.now in
    let d : Shown = file_shown c.args._path.now c.args.index c.args.file.now in
    let no_items = sym (with-none (setting_of v.reading) (state_of v)) in
    on_ok_weaker c.check_imports.result (λ reads. seen v v.items c.check_imports.new.reading d (same-setting reads) c.requires
    (λ i. record (no_items i) { faults = reads.told.told i }))
    (subst (λ reading. OnOk c.check_imports.result (ReadingTells reading c.check_imports.new.reading (import_faults (setting_of reading) c.args.index c.args.file.now)))
    c.enter_package.ensures c.check_imports.ensures)
