use Rattle.std.proofs.Common.{◌≡◌, length}
use Rattle.link_script.specs.Script.Obeying.{AreObeyed}
use Rattle.link_script.proofs.script.reading.ScriptReader.obey.Given as goal

-- where the statements that are left are obeyed, all are
abbrev pub invariant-loop : goal.invariant-loop
invariant-loop g l = record {
  all : (new : _) → AreObeyed g.O.Obeys.obeys l.to l.self.statements new → AreObeyed g.O.Obeys.obeys l.initial.to l.initial.self.statements new;
  fault : l.self.fault ≡ l.initial.self.fault;
}

abbrev pub decreases-loop : goal.decreases-loop
decreases-loop g l = length l.self.statements
