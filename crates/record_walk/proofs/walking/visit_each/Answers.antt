use Rattle.std.proofs.Common.{◌<◌, length, arith, refl, ◌∙◌}
use Rattle.std.proofs.Math.ListN.{length-set}
use Rattle.record_walk.specs.Declarations.{declarations}
use Rattle.record_walk.proofs.InTurn.{became-more, became-all, stops-here, holds-here, same-all, same-more, on-err}
use Rattle.record_walk.proofs.walking.visit_each.Goals as goal

pub loop-position-init : goal.loop-position-init
loop-position-init g c = record { long = omega (arith, c.args.visitors.now.ok.0, c.len-position-end.ensures); done = refl; kept = same-all (λ b. (goal.Visitor-dyn g (b.vtable, b.value)).kept b.value) c.args.visitors.now.items }

pub visit_boxed-requires-clause-ready : goal.visit_boxed-requires-clause-ready
visit_boxed-requires-clause-ready g c =
    let L = c.loop-position in
    let within : L.position < length L.visitors.items = rw L.invariant.long c.loop-position-test.true in
    holds-here _ (λ b. (goal.Visitor-dyn g (b.vtable, b.value)).ready b.value (declarations c.args.base c.args.files.now)) L.position c.args.visitors.now.items L.visitors.items c.index_mut.result.now L.invariant.done within c.index_mut.ensures.value c.requires.ready

pub loop-position-preserved : goal.loop-position-preserved
loop-position-preserved g c =
    let L = c.loop-position in
    let within : L.position < length L.visitors.items = rw L.invariant.long c.loop-position-test.true in
    record {
      long = length-set L.visitors.items L.position c.visit_boxed.new.visitor ∙ L.invariant.long;
      done = became-more _ L.position c.args.visitors.now.items L.visitors.items c.index_mut.result.now c.visit_boxed.new.visitor L.invariant.done within c.index_mut.ensures.value c.in_ok-visit_boxed.ensures.ok;
      kept = same-more (λ b. (goal.Visitor-dyn g (b.vtable, b.value)).kept b.value) L.position c.args.visitors.now.items L.visitors.items c.index_mut.result.now c.visit_boxed.new.visitor L.invariant.kept within c.index_mut.ensures.value c.in_ok-visit_boxed.ensures.kept;
    }

pub returns-in_err-visit_boxed-clause-err : goal.returns-in_err-visit_boxed-clause-err
returns-in_err-visit_boxed-clause-err g c =
    let L = c.loop-position in
    let within : L.position < length L.visitors.items = rw L.invariant.long c.loop-position-test.true in
    on-err c.from_residual.result (L.position, stops-here _ L.position c.args.visitors.now.items L.visitors.items c.visit_boxed.new.visitor L.invariant.done within)

pub returns-in_err-visit_boxed-clause-kept : goal.returns-in_err-visit_boxed-clause-kept
returns-in_err-visit_boxed-clause-kept g c =
    let L = c.loop-position in
    let within : L.position < length L.visitors.items = rw L.invariant.long c.loop-position-test.true in
    same-more (λ b. (goal.Visitor-dyn g (b.vtable, b.value)).kept b.value) L.position c.args.visitors.now.items L.visitors.items c.index_mut.result.now c.visit_boxed.new.visitor L.invariant.kept within c.index_mut.ensures.value c.visit_boxed.ensures.kept

pub returns-clause-ok : goal.returns-clause-ok
returns-clause-ok g c =
    let L = c.loop-position in
    became-all _ L.position c.args.visitors.now.items L.visitors.items L.invariant.done (omega (arith, L.invariant.long, c.loop-position-test.false))

pub returns-clause-kept : goal.returns-clause-kept
returns-clause-kept g c = c.loop-position.invariant.kept
