use Rattle.descriptor_linker.proofs.Relinked.{relinked, refused}
use Rattle.descriptor_linker.proofs.report.relink.relinks.Goals as goal

pub returns-in-Ok : goal.returns-in-Ok
returns-in-Ok c =
    relinked c.args.pool.now c.new-again.result c.build_files.new.self c.in_ok-linked_files.field-0.items c.eq.result
    c.new-again.ensures c.in_ok-linked_files.ensures.files c.in-Ok.ensures.outcome c.eq.ensures

pub returns-in-Err-Descriptor : goal.returns-in-Err-Descriptor
returns-in-Err-Descriptor c =
    refused c.args.pool.now c.new-again.result c.build_files.new.self c.in_ok-linked_files.field-0.items _ _
    c.new-again.ensures c.in_ok-linked_files.ensures.files c.in-Err-Descriptor.field-0-is c.in-Err-Descriptor.ensures.outcome
