use Rattle.std.proofs.Common.{OnOk, string_bytes, sym, subst}
use Rattle.descriptor_linker.specs.Report.Session.{IsTold}
use Rattle.descriptor_linker.proofs.report.write_end.Goals as goal

pub returns-in-Fault : goal.returns-in-Fault
returns-in-Fault c =
    subst (λ e. OnOk c.write_fault.result (IsTold e (string_bytes c.args.text.now) (string_bytes c.write_fault.new.report))) (sym c.in-Fault.is) c.write_fault.ensures
