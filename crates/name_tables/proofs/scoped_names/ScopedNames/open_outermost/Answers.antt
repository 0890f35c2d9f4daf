use Rattle.std.proofs.Common.{◌≡◌, ◌<◌, ◌++◌, ◌∷◌, [], List, Option, ap, length, sym, subst, ◌∙◌}
use Rattle.std.proofs.lemmas.List.Elements.{All-cons, All-nil}
use Rattle.pool_types.specs.declared.contents.definition.Definition.{Definition}
use Rattle.name_tables.specs.Tree.{Branch, with_root}
use Rattle.name_tables.proofs.TreeChanges.{keeps-with_root, length-with_root, tree-with_root}
use Rattle.name_tables.specs.Branches.{AreBranches}
use Rattle.name_tables.specs.Scopes.{AreScopes, IsScope}
use Rattle.name_tables.proofs.BranchNames.{branches-kept}
use Rattle.name_tables.proofs.OpenScopes.{root-scope}
use Rattle.name_tables.proofs.scoped_names.ScopedNames.open_outermost.Goals as goal

-- the branches with a root
module _ (old new : List Branch) (ds : List (Option Definition)) (are : AreBranches old ds) (is : new ≡ with_root old) where
  rooted : AreBranches new ds
  rooted = subst (λ bs. AreBranches bs ds) (sym is) (branches-kept old ds are (with_root old) (keeps-with_root old) (tree-with_root old are.tree))

  outermost : IsScope new 0
  outermost = root-scope new (subst (λ bs. 0 < length bs) (sym is) (length-with_root old))

pub invariant_of-self-in_err-push : goal.invariant_of-self-in_err-push
invariant_of-self-in_err-push c =
    let was = c.self.inside.branches in (
      rooted was.tree c.insert_root.new.self was.definitions c.self.invariant.0 c.in_ok-insert_root.ensures.ok,
      subst (AreScopes c.insert_root.new.self) (sym (c.in_err-push.ensures.items ∙ c.clear.ensures.items)) (All-nil (IsScope c.insert_root.new.self)),
    )

pub invariant_of-self-2 : goal.invariant_of-self-2
invariant_of-self-2 c =
    let was = c.self.inside.branches in
    let new = c.insert_root.new.self in (
      rooted was.tree new was.definitions c.self.invariant.0 c.in_ok-insert_root.ensures.ok,
      subst (AreScopes new) (sym (c.in_ok-push.ensures.items ∙ ap (λ ks. ks ++ 0 ∷ []) c.clear.ensures.items))
          (All-cons (IsScope new) 0 [] (outermost was.tree new was.definitions c.self.invariant.0 c.in_ok-insert_root.ensures.ok) (All-nil (IsScope new))),
    )
