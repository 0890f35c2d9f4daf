use Rattle.std.proofs.Common.{ap, sym, ◌∙◌}
use Rattle.std.specs.List.{find}
use Rattle.name_resolution.specs.Parents.{outer}
use Rattle.name_resolution.specs.Resolution.{holds_first}
use Rattle.name_resolution.proofs.Around.{texts_left, names-left, names-around, first-held, none-held}
use Rattle.name_resolution.proofs.in_parts.holder.Goals as goal

pub returns-then-has_parent-clause-found : goal.returns-then-has_parent-clause-found
returns-then-has_parent-clause-found c is_seen filter =
    let names = c.args.scope.0 in
    let scope = c.in-Some.scope in
    let same = names-left names c.loop-next.next scope c.in-Some.is c.loop-next.invariant.names in
    first-held names is_seen filter c.args.name.now c.first_part-first.result.now c.first_part-first.ensures.text
    c.loop-next.next scope c.has_parent.result (outer c.args.scope.1) c.in-Some.is same c.has_parent.ensures c.if-has_parent.true
    (c.loop-next.invariant.left is_seen filter)

pub loop-next-preserved : goal.loop-next-preserved
loop-next-preserved c =
    let names = c.args.scope.0 in
    let scope = c.in-Some.scope in
    let same = names-left names c.loop-next.next scope c.in-Some.is c.loop-next.invariant.names in
    record {
      names = names-around names scope c.around-next.result c.around-next.ensures.names same;
      left = λ is_seen filter. none-held names is_seen filter c.args.name.now c.first_part-first.result.now c.first_part-first.ensures.text
          c.loop-next.next c.around-next.result scope c.has_parent.result (outer c.args.scope.1) c.in-Some.is same c.has_parent.ensures c.if-has_parent.false
          c.around-next.ensures.none c.around-next.ensures.text (c.loop-next.invariant.left is_seen filter);
    }

pub returns-clause-none : goal.returns-clause-none
returns-clause-none c is_seen filter none =
    let test = holds_first c.args.scope.0 is_seen filter c.args.name.now in
    sym (c.loop-next.invariant.left is_seen filter) ∙ ap (λ o. find test (texts_left o)) c.in_default.is
