use Rattle.std.proofs.Common.{◌∙◌, sym, ap, inr, List, ℕ, Ok, Err, OnErr, IsErr}
use Rattle.std.specs.declared.result.Result.{Result}
use Rattle.std.proofs.lemmas.Bool.{false≢true}
use Rattle.link_script.specs.Script.Reading.{script}
use Rattle.descriptor_linker.specs.Report.Session.{report}
use Rattle.descriptor_linker.proofs.runs.run.Goals as goal

of_error : {T E P : Type 0} (r : Result T E) → IsErr r → OnErr r P → P
of_error (Ok x) e h = absurd (false≢true e)
of_error (Err x) e h = h

-- the report is that of the bytes that were read
pub returns-then-is_err-clause-report : goal.returns-then-is_err-clause-report
returns-then-is_err-clause-report g c = λ bytes taken given had.
    let began = c.write_all.ensures.began in
    let read = c.as_slice.ensures.value ∙ (c.in-Ok.ensures.whole bytes given).0 in
    let told = ap (λ (b : List ℕ). report (script b)) (sym read) ∙ sym c.in-Ok-report_of.ensures.text ∙ sym c.as_bytes.ensures.value ∙ began.2 in
    inr (record {
      stopped = of_error c.write_all.result (sym c.is_err.ensures.value ∙ c.if-is_err.true) c.write_all.ensures.stopped;
      began = (began.0, began.1, told, began.3);
    })
