use Rattle.std.proofs.Common.{◌≢◌, ◌==◌, [], length, ap, sym, subst, ◌∙◌}
use Rattle.std.proofs.lemmas.Bool.{true≢false}
use Rattle.std.proofs.lemmas.Option.{same_Some}
use Rattle.name_tables.specs.Tree.{IsDescendant}
use Rattle.name_tables.specs.Scopes.{IsBranchOf, scope_parts}
use Rattle.name_tables.proofs.Scoped.{around-descendant, around-inside}
use Rattle.name_tables.proofs.scope.Scope.around.Goals as goal

pub parent-requires : goal.parent-requires
parent-requires c =
    let outer = c.outer_text-text.result.now in
    let some : outer ≢ [] = λ none. true≢false (sym (c.if-not-is_empty.ensures ∙ ap (λ t. length t == 0) none)) in
    let down = subst (IsBranchOf c.self.inside.branches.now.tree c.self.inside.text.now) c.in-Some.is c.self.invariant.1 in
    around-inside c.self.inside.branches.now.tree c.in-Some.at c.self.inside.text.now outer c.outer_text-text.ensures some down

pub invariant_of-result : goal.invariant_of-result
invariant_of-result c =
    let branches = c.self.inside.branches.now.tree in
    let outer = c.outer_text-text.result.now in
    let some : outer ≢ [] = λ none. true≢false (sym (c.if-not-is_empty.ensures ∙ ap (λ t. length t == 0) none)) in
    let down = subst (IsBranchOf branches c.self.inside.text.now) c.in-Some.is c.self.invariant.1 in
    let found = around-descendant branches c.in-Some.at c.self.inside.text.now outer c.outer_text-text.ensures some down in
    let same = same_Some c.parent.ensures.0 found.0 (sym c.parent.ensures.1 ∙ found.1) in
    (c.self.invariant.0, subst (IsDescendant branches 0 (scope_parts outer)) (ap (λ b. b.parent) (sym same) ∙ c.parent.ensures.2) found.2)
