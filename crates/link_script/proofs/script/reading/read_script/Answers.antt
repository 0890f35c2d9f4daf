use Rattle.std.proofs.Common.{Some, None, ◌∙◌}
use Rattle.link_script.proofs.Obeying.{whole}
use Rattle.link_script.proofs.script.reading.read_script.Goals as goal

pub returns-in-Ok : goal.returns-in-Ok
returns-in-Ok c = whole c.new.result c.new-statements.result c.obey.new.to None c.new-statements.ensures c.in-Ok.ensures.0 c.in-Ok.ensures.1 ∙ c.new.ensures

pub returns-in-Err-Fault : goal.returns-in-Err-Fault
returns-in-Err-Fault c =
    let said = rw c.in-Err-Fault.field-0-is at c.in-Err-Fault.ensures in
    whole c.new.result c.new-statements.result c.obey.new.to (Some (c.in-Err-Fault.line, c.in-Err-Fault.fault)) c.new-statements.ensures said.0 said.1 ∙ c.new.ensures
