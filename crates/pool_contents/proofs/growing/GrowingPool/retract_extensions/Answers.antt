use Rattle.std.proofs.Common.{◌≡◌, ◌≤◌, ◌<◌, ◌+◌, ◌-◌, length, ap, sym, ◌∙◌, arith}
use Rattle.pool_types.specs.Contents.{Contents}
use Rattle.record_walk.specs.declared.counts.Counts.{Counts}
use Rattle.pool_contents.specs.Extended.{extended_between}
use Rattle.pool_contents.proofs.Extending.{extended-more, extended-past, numbers-between}
use Rattle.pool_contents.proofs.growing.GrowingPool.retract_extensions.Goals as goal

-- the last of them is taken away
pub loop-self-preserved : goal.loop-self-preserved
loop-self-preserved c =
    let old = c.args.self.now in
    let xs = old.inner.extensions.items in
    let base = old.base.extensions in
    let L = c.loop-self in
    let k = L.end - 1 in
    let same = ap (λ (n : Counts). n.extensions) L.invariant.base in
    let from : base ≤ k = omega (arith, same, c.loop-self-test.true) in
    let below : k < length xs = omega (arith, same, c.loop-self-test.true, L.invariant.within, c.requires) in
    let last : L.end ≡ k + 1 = omega (arith, same, c.loop-self-test.true) in
    let listed = ap (λ (p : Contents). p.extensions) L.invariant.others in
    record {
      within = omega (arith, L.invariant.within);
      back = λ ms numbers made. c.retract_extension.ensures.back (extended_between base k xs ms)
          (numbers-between base k xs ms from (omega (arith, below)) numbers)
          (L.invariant.back ms numbers made ∙ ap (λ end. extended_between base end xs ms) last ∙ sym (extended-more base k xs ms from below)
          ∙ ap (λ ys. extended_between k (k + 1) ys (extended_between base k xs ms)) (sym listed));
      others = c.retract_extension.ensures.others ∙ (λ i. record (L.invariant.others i) { messages = c.retract_extension.new.self.inner.messages.items });
      base = c.retract_extension.ensures.base ∙ L.invariant.base;
    }

-- none of them is left
pub returns-clause-back : goal.returns-clause-back
returns-clause-back c =
    let old = c.args.self.now in
    let L = c.loop-self in
    let same = ap (λ (n : Counts). n.extensions) L.invariant.base in
    λ ms numbers made. L.invariant.back ms numbers made
    ∙ extended-past old.base.extensions L.end old.inner.extensions.items ms (omega (arith, same, c.loop-self-test.false))
