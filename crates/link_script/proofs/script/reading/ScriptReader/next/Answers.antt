use Rattle.link_script.proofs.Obeying.{last-said, last-unsaid}
use Rattle.link_script.proofs.script.reading.ScriptReader.next.Goals as goal

pub returns-in-Ok : goal.returns-in-Ok
returns-in-Ok c = last-said _ _ c.obey_next.new.to _ c.in-Ok.ensures

pub returns-in-Err : goal.returns-in-Err
returns-in-Err c = last-unsaid _ _ _ c.obey_next.new.to c.in-Err.error c.in-Err.ensures
