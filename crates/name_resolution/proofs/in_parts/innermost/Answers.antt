use Rattle.std.proofs.Common.{ℕ, Bool, None, Some, ap, sym, subst, ◌∙◌}
use Rattle.std.specs.BTreeSet.{contains_by}
use Rattle.std.specs.Option.{IfSome}
use Rattle.std.specs.Ordering.{nat_cmp}
use Rattle.name_resolution.specs.Parents.{outer}
use Rattle.name_resolution.specs.Resolution.{simple}
use Rattle.name_resolution.proofs.Outward.{answers, best_from}
use Rattle.name_resolution.proofs.Around.{texts_left, names-left, names-around}
use Rattle.name_resolution.proofs.Innermost.{IsDefined, answer_of, found-in, defined-or, left-unwanted, left-undefined}
use Rattle.name_resolution.proofs.in_parts.innermost.Goals as goal

pub loop-next-preserved-in-Some-find_part : goal.loop-next-preserved-in-Some-find_part
loop-next-preserved-in-Some-find_part c =
    let names = c.args.scope.0 in
    let seen : ℕ → Bool = λ n. contains_by (nat_cmp n) c.args.wanted.visible.now in
    let filter = c.args.wanted.filter in
    let name = c.args.name.now in
    let scope = c.in-Some.scope in
    let def = c.in-Some-find_part.def in
    let all = simple names seen filter (outer c.args.scope.1) name in
    let same = names-left names c.loop-next.next scope c.in-Some.is c.loop-next.invariant.names in
    let defined = found-in names name scope (Some def.now) same (c.in-Some-find_part.ensures c.requires) in
    record {
      names = names-around names scope c.around-next.result c.around-next.ensures.names same;
      defined = subst (λ o. IfSome o (IsDefined names name)) (sym c.or-best.ensures)
          (defined-or names name c.loop-next.best (scope, def) c.loop-next.invariant.defined defined);
      left = ap (λ o. best_from (answer_of names seen filter name o) (answers names seen filter name (texts_left c.around-next.result))) c.or-best.ensures
          ∙ left-unwanted names seen filter name c.loop-next.best all c.loop-next.next c.around-next.result scope def c.in-Some.is
          c.around-next.ensures.none c.around-next.ensures.text defined (sym c.is_wanted.ensures ∙ c.if-is_wanted.false)
          c.loop-next.invariant.defined c.loop-next.invariant.left;
    }

pub loop-next-preserved : goal.loop-next-preserved
loop-next-preserved c =
    let names = c.args.scope.0 in
    let seen : ℕ → Bool = λ n. contains_by (nat_cmp n) c.args.wanted.visible.now in
    let filter = c.args.wanted.filter in
    let name = c.args.name.now in
    let scope = c.in-Some.scope in
    let all = simple names seen filter (outer c.args.scope.1) name in
    let same = names-left names c.loop-next.next scope c.in-Some.is c.loop-next.invariant.names in
    record {
      names = names-around names scope c.around-next.result c.around-next.ensures.names same;
      defined = c.loop-next.invariant.defined;
      left = left-undefined names seen filter name (answer_of names seen filter name c.loop-next.best) all c.loop-next.next c.around-next.result scope
          c.in-Some.is c.around-next.ensures.none c.around-next.ensures.text
          (found-in names name scope None same (c.in_default-find_part.ensures c.requires)) c.loop-next.invariant.left;
    }
