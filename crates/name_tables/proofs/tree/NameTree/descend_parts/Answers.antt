use Rattle.std.proofs.Common.{sym, subst, refl}
use Rattle.name_tables.specs.Tree.{IsChild, IsDescendant}
use Rattle.name_tables.proofs.tree.NameTree.descend_parts.Goals as goal

pub returns-in_err-at-clause-none : goal.returns-in_err-at-clause-none
returns-in_err-at-clause-none c = λ none k down.
    let here = subst (λ ps. IsDescendant c.args.self.now c.loop-part.at ps k) c.in-Some.ensures.steps (c.loop-part.invariant.3 k down) in
    c.in_err-at.ensures.none refl here.0 (subst (λ part. IsChild c.args.self.now c.loop-part.at part here.0) (sym c.as_bytes.ensures.value) here.1)

pub loop-part-preserved : goal.loop-part-preserved
loop-part-preserved c = (
  tt,
  tt,
  λ k down. c.loop-part.invariant.2 k
      (subst (λ ps. IsDescendant c.args.self.now c.loop-part.at ps k) (sym c.in-Some.ensures.steps)
      (c.in_ok-at.at, subst (λ part. IsChild c.args.self.now c.loop-part.at part c.in_ok-at.at) c.as_bytes.ensures.value c.in_ok-at.ensures.found, down)),
  λ k down.
      let here = subst (λ ps. IsDescendant c.args.self.now c.loop-part.at ps k) c.in-Some.ensures.steps (c.loop-part.invariant.3 k down) in
      let below = subst (λ part. IsChild c.args.self.now c.loop-part.at part here.0) (sym c.as_bytes.ensures.value) here.1 in
      subst (λ j. IsDescendant c.args.self.now j c.next.new.self k) (c.in_ok-at.ensures.only here.0 below) here.2,
)
