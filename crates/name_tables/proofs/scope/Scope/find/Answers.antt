use Rattle.std.proofs.Common.{ap, sym, refl, subst, ◌∙◌}
use Rattle.std.specs.FinMap as map
use Rattle.std.specs.Option.{option_copied}
use Rattle.proto_types.specs.Names.{join}
use Rattle.name_tables.specs.Scopes.{IsBranchOf}
use Rattle.name_tables.proofs.Scoped.{get-inside, get-nowhere, get-outside}
use Rattle.name_tables.proofs.scope.Scope.find.Goals as goal

pub returns-in_err-self : goal.returns-in_err-self
returns-in_err-self c =
    ap option_copied c.from_residual.ensures
    ∙ sym (get-nowhere c.self.inside.branches.now.tree c.self.inside.branches.now.definitions c.self.invariant.0 c.self.inside.text.now c.args.name.now
    (subst (IsBranchOf c.self.inside.branches.now.tree c.self.inside.text.now) c.in_err-self.was c.self.invariant.1))
    ∙ ap (λ s. map.get s.0 (join s.1 c.args.name.now)) c.self.view_is

pub returns-in_err-at : goal.returns-in_err-at
returns-in_err-at c =
    ap option_copied c.from_residual-in_err-at.ensures
    ∙ sym (get-outside c.self.inside.branches.now.tree c.self.inside.branches.now.definitions c.self.invariant.0 c.self.inside.text.now c.args.name.now c.in_ok-self.field-0
    (subst (IsBranchOf c.self.inside.branches.now.tree c.self.inside.text.now) c.in_ok-self.was c.self.invariant.1)
    (c.in_err-at.ensures.none refl))
    ∙ ap (λ s. map.get s.0 (join s.1 c.args.name.now)) c.self.view_is

pub returns : goal.returns
returns c =
    c.get.ensures
    ∙ sym (get-inside c.self.inside.branches.now.tree c.self.inside.branches.now.definitions c.self.invariant.0 c.self.inside.text.now c.args.name.now c.in_ok-self.field-0 c.in_ok-at.at
    (subst (IsBranchOf c.self.inside.branches.now.tree c.self.inside.text.now) c.in_ok-self.was c.self.invariant.1)
    c.in_ok-at.ensures.found)
    ∙ ap (λ s. map.get s.0 (join s.1 c.args.name.now)) c.self.view_is
