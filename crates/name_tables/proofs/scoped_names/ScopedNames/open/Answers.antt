use Rattle.std.proofs.Common.{◌≡◌, ◌<◌, ◌+◌, ◌++◌, ◌∷◌, [], ℕ, List, Option, ap, length, get_or, suc, take, sym, subst, ◌∙◌, arith}
use Rattle.std.proofs.lemmas.List.{length-map, map-append, take-map}
use Rattle.std.proofs.lemmas.List.Elements.{All-append, All-cons, All-nil, All-take}
use Rattle.proto_types.specs.Names.{join}
use Rattle.name_tables.specs.Parts.{name_of, parts}
use Rattle.name_tables.specs.Tree.{Branch, IsDescendant, IsTree, KeepsBranches, path}
use Rattle.pool_types.specs.Contents.{ByText}
use Rattle.pool_types.specs.declared.contents.definition.Definition.{Definition}
use Rattle.name_tables.specs.Branches.{AreBranches, names_of}
use Rattle.name_tables.specs.Scopes.{AreScopes, IsScope, scope_texts}
use Rattle.name_tables.proofs.BranchNames.{branches-kept, names-kept}
use Rattle.name_tables.proofs.OpenScopes.{entered-scope, entered-text, scopes-kept, texts-kept}
use Rattle.name_tables.proofs.scoped_names.ScopedNames.open.Goals as goal

-- where the scope of a name was opened: the branches before and after, and what the names and the scopes were
module _ (old new : List Branch) (ds : List (Option Definition)) (scopes : List ℕ) (held : AreBranches old ds × AreScopes old scopes)
    (was : ByText Definition × List (List ℕ)) (view : (names_of old ds, scope_texts old scopes) ≡ was) (keeps : KeepsBranches old new) (tree : IsTree new) where
  still : names_of new ds ≡ was.0
  still = names-kept old ds held.0 new keeps tree ∙ ap (λ v. v.0) view

  texts : scope_texts old scopes ≡ was.1
  texts = ap (λ v. v.1) view

  module _ (level : ℕ) (left : List ℕ) (cut : left ≡ take (level + 1) scopes) where
    more : left ≡ take (suc level) scopes
    more = let is : level + 1 ≡ suc level = omega arith in cut ∙ ap (λ n. take n scopes) is

    outer : AreBranches new ds × AreScopes new left
    outer = (
      branches-kept old ds held.0 new keeps tree,
      subst (AreScopes new) (sym more) (All-take (IsScope new) (suc level) scopes (scopes-kept old new keeps tree scopes held.1)),
    )

    outer-texts : scope_texts new left ≡ take (suc level) was.1
    outer-texts =
        ap (scope_texts new) more ∙ sym (take-map (λ k. name_of (path new k)) (suc level) scopes)
        ∙ ap (take (suc level)) (texts-kept old new keeps tree scopes held.1 ∙ texts)

    module _ (below : level < length was.1) (scope : ℕ) (at : scope ≡ get_or scopes level scope) (name : List ℕ) (branch : ℕ) (down : IsDescendant new scope (parts name) branch) where
      inside : level < length scopes
      inside = subst (λ n. level < n) (ap length (sym texts) ∙ length-map scopes (λ k. name_of (path old k))) below

      module _ (inner : ℕ) (root : scope ≡ 0 → name ≡ [] → inner ≡ 0) (other : (scope ≡ 0 → name ≡ [] → ⊥) → inner ≡ branch) (all : List ℕ) (is : all ≡ left ++ inner ∷ []) where
        all-open : AreScopes new all
        all-open =
            subst (AreScopes new) (sym is)
            (All-append (IsScope new) left (inner ∷ []) outer.1
            (All-cons (IsScope new) inner [] (entered-scope old scopes held.1 level scope inside at new keeps tree name branch down inner root other) (All-nil (IsScope new))))

        all-texts : scope_texts new all ≡ take (suc level) was.1 ++ join (get_or was.1 level []) name ∷ []
        all-texts =
            ap (scope_texts new) is ∙ map-append (λ k. name_of (path new k)) left (inner ∷ [])
            ∙ (λ i. outer-texts i ++ (entered-text old scopes held.1 level scope inside at new keeps tree name branch down inner root other ∙ ap (λ texts. join (get_or texts level []) name) texts) i ∷ [])

pub invariant_of-self : goal.invariant_of-self
invariant_of-self c =
    let was = c.self.inside in
    outer was.branches.tree c.insert_below.new.tree was.branches.definitions was.scopes.items c.self.invariant c.args.self.now c.self.view_is c.in_err-branch.ensures.keeps c.in_err-branch.ensures.tree
    c.args.level c.truncate.new.self.items c.truncate.ensures.items

pub returns-in_err-branch-clause-names : goal.returns-in_err-branch-clause-names
returns-in_err-branch-clause-names c =
    let was = c.self.inside in
    still was.branches.tree c.insert_below.new.tree was.branches.definitions was.scopes.items c.self.invariant c.args.self.now c.self.view_is c.in_err-branch.ensures.keeps c.in_err-branch.ensures.tree

pub invariant_of-self-in_err-push : goal.invariant_of-self-in_err-push
invariant_of-self-in_err-push c =
    let was = c.self.inside in
    let new = c.insert_below.new.tree in
    let left = outer was.branches.tree new was.branches.definitions was.scopes.items c.self.invariant c.args.self.now c.self.view_is c.in_ok-branch.ensures.keeps c.in_ok-branch.ensures.tree
    c.args.level c.truncate.new.self.items c.truncate.ensures.items in
    (left.0, subst (AreScopes new) (sym {A = List ℕ} c.in_err-push.ensures.items) left.1)

pub returns-in_err-push-clause-names : goal.returns-in_err-push-clause-names
returns-in_err-push-clause-names c =
    let was = c.self.inside in
    still was.branches.tree c.insert_below.new.tree was.branches.definitions was.scopes.items c.self.invariant c.args.self.now c.self.view_is c.in_ok-branch.ensures.keeps c.in_ok-branch.ensures.tree

pub invariant_of-self-2 : goal.invariant_of-self-2
invariant_of-self-2 c =
    let was = c.self.inside in (
      (outer was.branches.tree c.insert_below.new.tree was.branches.definitions was.scopes.items c.self.invariant c.args.self.now c.self.view_is c.in_ok-branch.ensures.keeps c.in_ok-branch.ensures.tree
          c.args.level c.truncate.new.self.items c.truncate.ensures.items).0,
      all-open was.branches.tree c.insert_below.new.tree was.branches.definitions was.scopes.items c.self.invariant c.args.self.now c.self.view_is c.in_ok-branch.ensures.keeps c.in_ok-branch.ensures.tree
          c.args.level c.truncate.new.self.items c.truncate.ensures.items c.requires c.index-scope.result.now c.index-scope.ensures c.args.name.now c.in_ok-branch.branch c.in_ok-branch.ensures.descendant
          c.opened.result c.opened.ensures.root c.opened.ensures.other c.push.new.self.items c.in_ok-push.ensures.items,
    )

pub returns-clause-names : goal.returns-clause-names
returns-clause-names c =
    let was = c.self.inside in
    still was.branches.tree c.insert_below.new.tree was.branches.definitions was.scopes.items c.self.invariant c.args.self.now c.self.view_is c.in_ok-branch.ensures.keeps c.in_ok-branch.ensures.tree

pub returns-clause-scopes : goal.returns-clause-scopes
returns-clause-scopes c =
    let was = c.self.inside in
    all-texts was.branches.tree c.insert_below.new.tree was.branches.definitions was.scopes.items c.self.invariant c.args.self.now c.self.view_is c.in_ok-branch.ensures.keeps c.in_ok-branch.ensures.tree
    c.args.level c.truncate.new.self.items c.truncate.ensures.items c.requires c.index-scope.result.now c.index-scope.ensures c.args.name.now c.in_ok-branch.branch c.in_ok-branch.ensures.descendant
    c.opened.result c.opened.ensures.root c.opened.ensures.other c.push.new.self.items c.in_ok-push.ensures.items
