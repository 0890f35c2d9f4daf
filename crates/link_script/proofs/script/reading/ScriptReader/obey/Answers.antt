use Rattle.std.proofs.Common.{sym, ◌∙◌}
use Rattle.std.proofs.lemmas.Result.{err_from_is_err_and}
use Rattle.link_script.proofs.Obeying.{one-more, same-fault, fewer, at-end, fails}
use Rattle.link_script.proofs.script.reading.ScriptReader.obey.Goals as goal

pub loop-preserved : goal.loop-preserved
loop-preserved g c =
    let next = c.in_ok-obey_next.ensures in
    record {
      all = λ new behind. c.loop.invariant.all new (one-more g.O.Obeys.obeys c.loop.self c.obey_next.new.self c.loop.to c.obey_next.new.to _ c.if-branch.true next new behind);
      fault = same-fault g.O.Obeys.obeys c.loop.self c.obey_next.new.self c.loop.to c.obey_next.new.to _ c.if-branch.true next ∙ c.loop.invariant.fault;
    }

pub loop-smaller : goal.loop-smaller
loop-smaller g c = fewer g.O.Obeys.obeys c.loop.self c.obey_next.new.self c.loop.to c.obey_next.new.to _ c.if-branch.true c.in_ok-obey_next.ensures

pub returns : goal.returns
returns g c =
    let ended = at-end g.O.Obeys.obeys c.loop.self c.obey_next.new.self c.loop.to c.obey_next.new.to _ c.if-branch.false c.in_ok-obey_next.ensures in
    (c.loop.invariant.all _ ended.0, sym c.loop.invariant.fault ∙ ended.1)

pub returns-in_err-obey_next : goal.returns-in_err-obey_next
returns-in_err-obey_next g c =
    let p = err_from_is_err_and c.from_residual.result c.from_residual.ensures.1 in
    rw (p.1, p.2)
    (fails (Unit {0}) g.O.Obeys.obeys c.args.self.now c.loop.self c.obey_next.new.self c.args.to.now c.loop.to c.obey_next.new.to c.in_err-obey_next.field-0.0 c.loop.invariant.all c.loop.invariant.fault c.in_err-obey_next.ensures)
