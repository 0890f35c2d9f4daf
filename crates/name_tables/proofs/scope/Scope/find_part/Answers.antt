use Rattle.std.proofs.Common.{ap, sym, refl, subst, ◌∙◌}
use Rattle.std.specs.FinMap as map
use Rattle.std.specs.Option.{option_copied}
use Rattle.proto_types.specs.Names.{join}
use Rattle.name_tables.specs.Tree.{IsChild, IsDescendant}
use Rattle.name_tables.specs.Scopes.{IsBranchOf}
use Rattle.name_tables.proofs.Scoped.{get-inside, get-nowhere, get-outside}
use Rattle.name_tables.proofs.scope.Scope.find_part.Goals as goal

pub returns-in_err-self : goal.returns-in_err-self
returns-in_err-self c = λ one.
    ap option_copied c.from_residual.ensures
    ∙ sym (get-nowhere c.self.inside.branches.now.tree c.self.inside.branches.now.definitions c.self.invariant.0 c.self.inside.text.now c.args.part.now
    (subst (IsBranchOf c.self.inside.branches.now.tree c.self.inside.text.now) c.in_err-self.was c.self.invariant.1))
    ∙ ap (λ s. map.get s.0 (join s.1 c.args.part.now)) c.self.view_is

pub returns-in_err-at : goal.returns-in_err-at
returns-in_err-at c = λ one.
    let branches = c.self.inside.branches.now.tree in
    let from = c.in_ok-self.field-0 in
    ap option_copied c.from_residual-in_err-at.ensures
    ∙ sym (get-outside branches c.self.inside.branches.now.definitions c.self.invariant.0 c.self.inside.text.now c.args.part.now from
    (subst (IsBranchOf branches c.self.inside.text.now) c.in_ok-self.was c.self.invariant.1)
    (λ k down. let here = subst (λ ps. IsDescendant branches from ps k) one down in c.in_err-at.ensures.none refl here.0 (subst (λ p. IsChild branches from p here.0) (sym c.as_bytes.ensures.value) here.1)))
    ∙ ap (λ s. map.get s.0 (join s.1 c.args.part.now)) c.self.view_is

pub returns : goal.returns
returns c = λ one.
    let branches = c.self.inside.branches.now.tree in
    let from = c.in_ok-self.field-0 in
    let at = c.in_ok-at.at in
    c.get.ensures
    ∙ sym (get-inside branches c.self.inside.branches.now.definitions c.self.invariant.0 c.self.inside.text.now c.args.part.now from at
    (subst (IsBranchOf branches c.self.inside.text.now) c.in_ok-self.was c.self.invariant.1)
    (subst (λ ps. IsDescendant branches from ps at) (sym one) (at, subst (λ p. IsChild branches from p at) c.as_bytes.ensures.value c.in_ok-at.ensures.found, refl)))
    ∙ ap (λ s. map.get s.0 (join s.1 c.args.part.now)) c.self.view_is
