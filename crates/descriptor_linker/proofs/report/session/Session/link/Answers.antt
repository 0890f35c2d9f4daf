use Rattle.std.proofs.Common.{◌≡◌, ◌++◌, OnOk, ap, subst, ◌∙◌, string_bytes, string_len, string_capacity}
use Rattle.descriptor_linker.specs.Report.Lines.{counts_line}
use Rattle.link_script.specs.RecordsCode.{building_in}
use Rattle.descriptor_linker.specs.Report.Code.{session_in}
use Rattle.descriptor_linker.proofs.Batches.{lacks-room, on-linked, on-refused}
use Rattle.descriptor_linker.proofs.report.session.Session.link.Goals as goal

pub returns-in-Ok-clause-step : goal.returns-in-Ok-clause-step
returns-in-Ok-clause-step c =
    let told = (session_in c.args.self.now).text in
    let counted = subst (λ k. OnOk c.write_counts.result (string_bytes c.write_counts.new.report ≡ told ++ counts_line k)) c.counts.ensures c.write_counts.ensures in
    on-linked c.write_counts.result (session_in c.args.self.now) c.take_files.result.items (building_in c.take_files.new.self) c.build_files.new.self (string_bytes c.write_counts.new.report)
    c.take_files.ensures.files c.take_files.ensures.rest c.in-Ok.ensures.outcome counted

pub returns-in-Err-Descriptor-clause-step : goal.returns-in-Err-Descriptor-clause-step
returns-in-Err-Descriptor-clause-step c =
    on-refused c.write_refused.result (session_in c.args.self.now) c.take_files.result.items (building_in c.take_files.new.self) c.build_files.new.self _ _ c.errors.result.now (string_bytes c.write_refused.new.report)
    c.take_files.ensures.files c.take_files.ensures.rest c.in-Err-Descriptor.field-0-is c.in-Err-Descriptor.ensures.outcome c.errors.ensures c.write_refused.ensures

pub returns-in-Err-TooMany-clause-refused : goal.returns-in-Err-TooMany-clause-refused
returns-in-Err-TooMany-clause-refused c =
    lacks-room c.write_too_many.result (session_in c.args.self.now) c.take_files.result.items c.build_files.new.self c.in-Err-TooMany.field-0 c.in-Err-TooMany.kind
    (string_len c.args.self.now.text) (string_capacity c.args.self.now.text)
    c.take_files.ensures.files c.in-Err-TooMany.field-0-is c.in-Err-TooMany.ensures.outcome c.write_too_many.ensures.full
