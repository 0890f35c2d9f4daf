use Rattle.std.proofs.Common.{refl, sym, ◌∙◌}
use Rattle.std.proofs.lemmas.Result.{on_ok_weaker}
use Rattle.record_walk.specs.Faults.{told_in}
use Rattle.record_walk.proofs.Telling.{told-kept}
use Rattle.record_walk.proofs.faults.Faults.push.Goals as goal

-- a fault is counted where no further one is kept
pub returns-then-is_full-clause-told : goal.returns-then-is_full-clause-told
returns-then-is_full-clause-told c = on_ok_weaker c.leave_out.result (λ tells. tells c.args.fault) c.leave_out.ensures.told

-- else it is kept
pub returns-clause-told : goal.returns-clause-told
returns-clause-told c =
    let told = told_in c.args.self.now in
    record {
      told = (λ i. record told { first = c.in_ok-push.ensures.items i }) ∙ told-kept told c.args.fault (sym c.is_full.ensures ∙ c.if-is_full.false);
      files = refl;
    }
