-- The innermost open scope, and what its text means as a name.
use Rattle.std.proofs.Common.{◌≡◌, ◌≢◌, ◌<◌, ◌-◌, ℕ, List, [], length, get_or, Option, sym, ap, ◌∙◌, arith}
use Rattle.std.proofs.lemmas.List.{length-map}
use Rattle.std.specs.FinMap as map
use Rattle.name_tables.specs.Parts.{name_of, parts}
use Rattle.name_tables.specs.Tree.{Branch, IsDescendant, IsTree, KeepsBranches, path}
use Rattle.name_tables.proofs.NameParts.{parts-some}
use Rattle.name_tables.proofs.Paths.{descendant-some, name-descendant}
use Rattle.pool_types.specs.Contents.{ByText}
use Rattle.pool_types.specs.declared.contents.definition.Definition.{Definition}
use Rattle.name_tables.specs.Branches.{AreBranches, names_of}
use Rattle.name_tables.specs.Entered.{value_at}
use Rattle.name_tables.specs.Scopes.{AreScopes, scope_texts}
use Rattle.name_tables.proofs.BranchNames.{branch-means, branches-kept, names-kept}
use Rattle.name_tables.proofs.OpenScopes.{scope-at, scopes-kept, text-at, texts-kept}

module _ (bs : List Branch) (ds : List (Option Definition)) (scopes : List ℕ) (held : AreBranches bs ds × AreScopes bs scopes)
    (was : ByText Definition × List (List ℕ)) (view : (names_of bs ds, scope_texts bs scopes) ≡ was) (some : 0 < length was.1) where
  same-length : length was.1 ≡ length scopes
  same-length = ap (λ v. length v.1) (sym view) ∙ length-map scopes (λ k. name_of (path bs k))

  -- there is one
  innermost-inside : length scopes - 1 < length scopes
  innermost-inside = omega (arith, some, same-length)

  module _ (scope : ℕ) (at : scope ≡ get_or scopes (length scopes - 1) scope) where
    -- its text is the name of its branch
    pub innermost-text : get_or was.1 (length was.1 - 1) [] ≡ name_of (path bs scope)
    innermost-text =
        ap (λ n. get_or was.1 (n - 1) []) same-length ∙ ap (λ v. get_or v.1 (length scopes - 1) []) (sym view)
        ∙ text-at bs scopes held.1 (length scopes - 1) scope innermost-inside at

    -- which is one of the branches
    pub innermost-branch : scope < length bs
    innermost-branch = (scope-at bs scopes held.1 (length scopes - 1) scope innermost-inside at).0

    -- and leads to what the text means, unless it is the root
    pub innermost-means : scope ≢ 0 → map.get was.0 (get_or was.1 (length was.1 - 1) []) ≡ value_at ds scope
    innermost-means other =
        ap (λ text. map.get was.0 text) innermost-text ∙ ap (λ v. map.get v.0 (name_of (path bs scope))) (sym view)
        ∙ branch-means bs ds held.0 scope (omega (arith, other)) innermost-branch

  -- in a tree that keeps the branches the table and the scopes are what they were
  module _ (new : List Branch) (keeps : KeepsBranches bs new) (tree : IsTree new) where
    pub still-held : AreBranches new ds × AreScopes new scopes
    still-held = (branches-kept bs ds held.0 new keeps tree, scopes-kept bs new keeps tree scopes held.1)

    pub still-names : names_of new ds ≡ was.0
    still-names = names-kept bs ds held.0 new keeps tree ∙ ap (λ v. v.0) view

    pub still-texts : scope_texts new scopes ≡ was.1
    still-texts = texts-kept bs new keeps tree scopes held.1 ∙ ap (λ v. v.1) view

    module _ (scope : ℕ) (at : scope ≡ get_or scopes (length scopes - 1) scope) (branch : ℕ) (down : IsDescendant new 0 (parts (name_of (path bs scope))) branch) where
      -- the branch of its text as a name
      pub innermost-stands : (0 < branch) × (branch < length new)
      innermost-stands = descendant-some new (parts (name_of (path bs scope))) 0 branch (parts-some (name_of (path bs scope))) down

      pub innermost-called : name_of (path new branch) ≡ get_or was.1 (length was.1 - 1) []
      innermost-called = sym (name-descendant new tree (name_of (path bs scope)) branch down) ∙ sym (innermost-text scope at)
