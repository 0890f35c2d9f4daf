use Rattle.std.proofs.Common.{IfNone, subst, sym}
use Rattle.reference_pass.specs.Numbered.{AreNumbered, ComesBehind, LastIsGreatest}
use Rattle.reference_pass.proofs.Numbered.{greatest-more}
use Rattle.reference_pass.proofs.items.push_numbered.Goals as goal

-- it is the greatest, where there is no map
pub returns-in_ok-push-in-None-clause-numbered : goal.returns-in_ok-push-in-None-clause-numbered
returns-in_ok-push-in-None-clause-numbered c =
    let x = c.args.extension in
    let xs = c.args.extensions.now.items in
    let none = c.in-None.is in
    let behind : ComesBehind xs x.extendee x.number = subst (λ p. IfNone p (ComesBehind xs x.extendee x.number)) none c.in_ok-enter_others.ensures.behind in
    let greatest : LastIsGreatest xs = subst (AreNumbered xs) none c.enter_others.ensures.numbered in
    subst (AreNumbered c.push.new.self.items) (sym none) (greatest-more xs c.push.new.self.items x greatest c.in_ok-push-in-None.ensures.items behind)
