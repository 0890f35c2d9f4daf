-- Open scopes, by their branches.
use Rattle.std.proofs.Common.{◌≡◌, ◌≢◌, ◌<◌, ℕ, List, [], ◌∷◌, length, get_or, refl, sym, ap, ◌∙◌, subst, arith}
use Rattle.std.proofs.lemmas.List.{get_or-map}
use Rattle.std.proofs.lemmas.List.Elements.{All-cons, All-get_or, All-head, All-nil, All-tail}
use Rattle.proto_types.specs.Names.{join}
use Rattle.name_tables.specs.Parts.{name_of, parts}
use Rattle.name_tables.specs.Tree.{Branch, IsDescendant, IsTree, KeepsBranches, path}
use Rattle.name_tables.proofs.NameParts.{parts-some}
use Rattle.name_tables.proofs.Paths.{descendant-append, descendant-some, name-descendant}
use Rattle.name_tables.proofs.TreeChanges.{descendant-kept, length-kept, path-kept}
use Rattle.name_tables.specs.Scopes.{AreScopes, IsScope, scope_parts, scope_texts}
use Rattle.name_tables.proofs.Scoped.{joined-parts}

-- a branch is that of a text that is not empty, where the parts of the text lead to it
text-branch : (bs : List Branch) (text : List ℕ) (k : ℕ) → text ≢ [] → IsDescendant bs 0 (parts text) k → IsDescendant bs 0 (scope_parts text) k
text-branch bs [] k some down = absurd (some refl)
text-branch bs (c ∷ cs) k some down = down

-- a name in a scope is empty only where both are
joined-empty : (text name : List ℕ) → join text name ≡ [] → (text ≡ []) × (name ≡ [])
joined-empty [] name none = (refl, none)
joined-empty (c ∷ cs) name none = cc

module _ (old new : List Branch) (keeps : KeepsBranches old new) (tree : IsTree new) where
  -- a scope has its branch where more come
  pub scope-kept : (k : ℕ) → IsScope old k → IsScope new k
  scope-kept k is = (
    omega (arith, is.0, length-kept old new keeps),
    subst (λ ps. IsDescendant new 0 (scope_parts (name_of ps)) k) (sym (path-kept old new keeps tree k is.0))
        (descendant-kept old new keeps (scope_parts (name_of (path old k))) 0 k is.1),
  )

  pub scopes-kept : (scopes : List ℕ) → AreScopes old scopes → AreScopes new scopes
  scopes-kept [] are = All-nil (IsScope new)
  scopes-kept (k ∷ ks) are = All-cons (IsScope new) k ks (scope-kept k (All-head (IsScope old) k ks are)) (scopes-kept ks (All-tail (IsScope old) k ks are))

  -- and its text
  pub texts-kept : (scopes : List ℕ) → AreScopes old scopes → scope_texts new scopes ≡ scope_texts old scopes
  texts-kept [] are = refl
  texts-kept (k ∷ ks) are =
      λ i. name_of (path-kept old new keeps tree k (All-head (IsScope old) k ks are).0 i) ∷ texts-kept ks (All-tail (IsScope old) k ks are) i

-- the root is the branch of the empty scope
pub root-scope : (bs : List Branch) → 0 < length bs → IsScope bs 0
root-scope bs some = (some, refl)

module _ (bs : List Branch) (tree : IsTree bs) (scope branch : ℕ) (name : List ℕ) (is : IsScope bs scope) (down : IsDescendant bs scope (parts name) branch) where
  -- the parts of the full name of a name in a scope lead to its branch
  pub full-descendant : IsDescendant bs 0 (parts (join (name_of (path bs scope)) name)) branch
  full-descendant =
      subst (λ ps. IsDescendant bs 0 ps branch) (sym (joined-parts (name_of (path bs scope)) name))
      (descendant-append bs (scope_parts (name_of (path bs scope))) (parts name) 0 scope branch is.1 down)

  -- which has that name
  pub full-name : join (name_of (path bs scope)) name ≡ name_of (path bs branch)
  full-name = name-descendant bs tree (join (name_of (path bs scope)) name) branch full-descendant

  -- and is not the root
  pub full-inside : (0 < branch) × (branch < length bs)
  full-inside = descendant-some bs (parts (join (name_of (path bs scope)) name)) 0 branch (parts-some (join (name_of (path bs scope)) name)) full-descendant

  -- it is that of the scope that the name opens
  opened-branch : join (name_of (path bs scope)) name ≢ [] → IsScope bs branch
  opened-branch some =
      (full-inside.1, subst (λ t. IsDescendant bs 0 (scope_parts t) branch) full-name (text-branch bs (join (name_of (path bs scope)) name) branch some full-descendant))

  -- only the root is the branch of the empty scope
  empty-scope : name_of (path bs scope) ≡ [] → scope ≡ 0
  empty-scope none = sym (subst (λ t. IsDescendant bs 0 (scope_parts t) scope) none is.1)

  module _ (inner : ℕ) (root : scope ≡ 0 → name ≡ [] → inner ≡ 0) (other : (scope ≡ 0 → name ≡ [] → ⊥) → inner ≡ branch) where
    -- a name opens the scope of its full name
    pub opened : IsScope bs inner × (name_of (path bs inner) ≡ join (name_of (path bs scope)) name)
    opened = elim (join (name_of (path bs scope)) name) as (λ full. join (name_of (path bs scope)) name ≡ full → IsScope bs inner × (name_of (path bs inner) ≡ full)) [
      | [] ↦ λ none.
          let empty = joined-empty (name_of (path bs scope)) name none in
          let is = root (empty-scope empty.0) empty.1 in
          subst (λ k. IsScope bs k × (name_of (path bs k) ≡ [])) (sym is) (root-scope bs (omega (arith, full-inside.0, full-inside.1)), refl)
      | c ∷ cs ↦ λ same.
          let some : join (name_of (path bs scope)) name ≢ [] = λ none. cc in
          let is = other (λ at empty. some ((λ i. join (name_of (path bs (at i))) (empty i)))) in
          subst (λ k. IsScope bs k × (name_of (path bs k) ≡ c ∷ cs)) (sym is) (opened-branch some, sym full-name ∙ same)
    ] refl

module _ (old : List Branch) (scopes : List ℕ) (are : AreScopes old scopes) (level scope : ℕ) (inside : level < length scopes) (at : scope ≡ get_or scopes level scope) where
  -- the scope with a level is one
  pub scope-at : IsScope old scope
  scope-at = subst (IsScope old) (sym at) (All-get_or (IsScope old) scopes level scope inside are)

  -- its text
  pub text-at : get_or (scope_texts old scopes) level [] ≡ name_of (path old scope)
  text-at = get_or-map (λ k. name_of (path old k)) scopes level scope [] inside ∙ ap (λ k. name_of (path old k)) (sym at)

  module _ (new : List Branch) (keeps : KeepsBranches old new) (tree : IsTree new) where
    still : IsScope new scope
    still = scope-kept old new keeps tree scope scope-at

    text-still : get_or (scope_texts old scopes) level [] ≡ name_of (path new scope)
    text-still = text-at ∙ ap name_of (sym (path-kept old new keeps tree scope scope-at.0))

    module _ (name : List ℕ) (branch : ℕ) (down : IsDescendant new scope (parts name) branch) where
      module _ (inner : ℕ) (root : scope ≡ 0 → name ≡ [] → inner ≡ 0) (other : (scope ≡ 0 → name ≡ [] → ⊥) → inner ≡ branch) where
        open-inner : IsScope new inner × (name_of (path new inner) ≡ join (name_of (path new scope)) name)
        open-inner = opened new tree scope branch name still down inner root other

        -- the scope that the name opens is one
        pub entered-scope : IsScope new inner
        entered-scope = open-inner.0

        -- its text is the full name
        pub entered-text : name_of (path new inner) ≡ join (get_or (scope_texts old scopes) level []) name
        entered-text = open-inner.1 ∙ ap (λ text. join text name) (sym text-still)
