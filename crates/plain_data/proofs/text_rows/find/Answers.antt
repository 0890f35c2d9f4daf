use Rattle.std.proofs.Common.{◌<◌, ◌+◌, subst, sym, arith, length}
use Rattle.plain_data.proofs.Rows.{bound-next}
use Rattle.plain_data.proofs.text_rows.find.Goals as goal

pub find_in_run-at-requires-clause-order : goal.find_in_run-at-requires-clause-order
find_in_run-at-requires-clause-order c =
    rw (c.loop-to.invariant.0, ← bound-next c.args.runs.now c.loop-to.to-index) (c.requires.sorted.rising c.loop-to.to-index (c.loop-to.to-index + 1) (omega arith) (omega arith))

pub find_in_run-at-requires-clause-end : goal.find_in_run-at-requires-clause-end
find_in_run-at-requires-clause-end c =
    rw (← bound-next c.args.runs.now c.loop-to.to-index)
    (let low = c.requires.sorted.rising (c.loop-to.to-index + 1) (length c.args.runs.now) (omega arith) (omega arith) in
    let high = c.requires.sorted.inside in omega arith)

pub find_in_run-at-requires-clause-digested : goal.find_in_run-at-requires-clause-digested
find_in_run-at-requires-clause-digested c =
    let up = c.requires.sorted.rising (c.loop-to.to-index + 1) (length c.args.runs.now) (omega arith) (omega arith) in
    λ at below. c.requires.sorted.digested at (let end = subst (λ n. at < n) (sym (bound-next c.args.runs.now c.loop-to.to-index)) below in omega arith)

pub find_in_run-at-requires-clause-run : goal.find_in_run-at-requires-clause-run
find_in_run-at-requires-clause-run c =
    rw (c.loop-to.invariant.0, ← bound-next c.args.runs.now c.loop-to.to-index) (c.requires.sorted.each c.loop-to.to-index (omega arith))
