-- What the names of branches mean.
use Rattle.std.proofs.Common.{◌≡◌, ◌≢◌, ◌<◌, ◌≤◌, ◌↔◌, ℕ, zero, suc, List, [], length, take, Option, Some, None, refl, sym, ap, ◌∙◌, subst, arith}
use Rattle.std.specs.FinMap as map
use Rattle.std.proofs.lemmas.List.{length-take-le}
use Rattle.std.proofs.lemmas.Option.{none-some}
use Rattle.name_tables.specs.Parts.{name_of, parts}
use Rattle.name_tables.specs.Tree.{Branch, IsDescendant, IsTree, KeepsBranches, path}
use Rattle.name_tables.proofs.NameParts.{parts-name_of}
use Rattle.name_tables.proofs.Paths.{descendant-one, descendant-path, name-descendant, path-descendant, path-whole}
use Rattle.name_tables.proofs.TreeChanges.{keeps-first, length-kept, path-kept, tree-kept, tree-none}
use Rattle.pool_types.specs.declared.contents.definition.Definition.{Definition}
use Rattle.name_tables.specs.Branches.{AreBranches, names_of}
use Rattle.name_tables.specs.Entered.{Enters, found_before, value_at}
use Rattle.name_tables.specs.NameTables.{without_files_from}
use Rattle.name_tables.specs.NumberedNames.{IsNaming}
use Rattle.name_tables.specs.Within.{IsWithin}
use Rattle.name_tables.specs.declared.branches.Branches.{Branches}
use Rattle.name_tables.proofs.Values.{value-inside}
use Rattle.name_tables.proofs.NumberedNames.{AreAmong, among-same, get-none, get-only, names-alike, names-among, names-entered, names-removed}

-- the name of branch k
abbrev pub name_at : List Branch → ℕ → List ℕ
name_at bs k = name_of (path bs k)

module _ (bs : List Branch) (ds : List (Option Definition)) (are : AreBranches bs ds) where
  -- a branch that means something is inside
  means-inside : (k : ℕ) (d : Definition) → value_at ds k ≡ Some d → k < length bs
  means-inside k d means = omega (arith, value-inside ds k d means, are.inside)

  -- and not the root
  means-below : (k : ℕ) (d : Definition) → value_at ds k ≡ Some d → 0 < k
  means-below zero d means = absurd (none-some d (sym are.root ∙ means))
  means-below (suc k) d means = omega arith

  -- the parts of the name of any branch but the root are those that lead down to it
  parts-path : (k : ℕ) → 0 < k → k < length bs → parts (name_at bs k) ≡ path bs k
  parts-path k below inside =
      let here = path-descendant bs are.tree k inside in
      let some : path bs k ≢ [] = λ none. omega (arith, below, subst (λ ps. IsDescendant bs 0 ps k) none here) in
      parts-name_of (path bs k) some (path-whole bs are.tree k)

  -- so they lead down to it
  pub own-descendant : (k : ℕ) → 0 < k → k < length bs → IsDescendant bs 0 (parts (name_at bs k)) k
  own-descendant k below inside = subst (λ ps. IsDescendant bs 0 ps k) (sym (parts-path k below inside)) (path-descendant bs are.tree k inside)

  -- these are the parts of the name of a branch that means something
  parts-name : (k : ℕ) (d : Definition) → value_at ds k ≡ Some d → parts (name_at bs k) ≡ path bs k
  parts-name k d means = parts-path k (means-below k d means) (means-inside k d means)

  -- those of each text that is its name lead down to it
  named-descendant : (name : List ℕ) (k : ℕ) (d : Definition) → value_at ds k ≡ Some d → name ≡ name_at bs k → IsDescendant bs 0 (parts name) k
  named-descendant name k d means is =
      subst (λ text. IsDescendant bs 0 (parts text) k) (sym is) (own-descendant k (means-below k d means) (means-inside k d means))

  -- no two branches that mean something have the same name
  naming-branches : IsNaming (name_at bs) ds
  naming-branches j k d e means also same =
      descendant-one bs are.tree (parts (name_at bs j)) 0 j k (named-descendant (name_at bs j) j d means refl) (named-descendant (name_at bs j) k e also same)

  -- a name means what the branch means to which its parts lead down
  pub get-descendant : (name : List ℕ) (k : ℕ) → IsDescendant bs 0 (parts name) k → map.get (names_of bs ds) name ≡ value_at ds k
  get-descendant name k down =
      get-only (name_at bs) ds name k (name-descendant bs are.tree name k down)
      (λ j d means is. descendant-one bs are.tree (parts name) 0 j k (named-descendant name j d means is) down)

  -- a name whose parts lead nowhere means nothing
  pub get-absent : (name : List ℕ) → ((k : ℕ) → IsDescendant bs 0 (parts name) k → ⊥) → map.get (names_of bs ds) name ≡ None
  get-absent name nowhere = get-none (name_at bs) ds name (λ k d means is. nowhere k (named-descendant name k d means is))

module _ (bs : List Branch) (ds : List (Option Definition)) (are : AreBranches bs ds) where
  -- the name of a branch means what the branch does
  pub branch-means : (k : ℕ) → 0 < k → k < length bs → map.get (names_of bs ds) (name_at bs k) ≡ value_at ds k
  branch-means k below inside = get-descendant bs ds are (name_at bs k) k (own-descendant bs ds are k below inside)

  -- a branch may mean something else, but for the root
  pub branches-entered : (new : List (Option Definition)) (at : ℕ) (d : Definition) → Enters ds new at d → 0 < at → length new ≤ length bs → AreBranches bs new
  branches-entered new at d enters above inside = record {
    tree = are.tree;
    root = enters.others 0 (λ same. omega arith) ∙ are.root;
    inside = inside;
  }

  -- its name means that then
  pub names-defined : (new : List (Option Definition)) (name : List ℕ) (at : ℕ) (d : Definition) → Enters ds new at d → AreBranches bs new → IsDescendant bs 0 (parts name) at → value_at ds at ≡ None
      → names_of bs new ≡ map.insert (names_of bs ds) name d
  names-defined new name at d enters after down none =
      names-entered (name_at bs) ds new at d enters (naming-branches bs ds are) (naming-branches bs new after) none name (name-descendant bs are.tree name at down)

  -- the same definitions by number
  pub branches-same : (new : List (Option Definition)) → ((k : ℕ) → value_at new k ≡ value_at ds k) → length new ≤ length bs → AreBranches bs new
  branches-same new same inside = record { tree = are.tree; root = same 0 ∙ are.root; inside = inside }

  -- the names mean these
  pub definitions-alike : (new : List (Option Definition)) → ((k : ℕ) → value_at new k ≡ value_at ds k) → names_of bs new ≡ names_of bs ds
  definitions-alike new same = names-alike (name_at bs) ds new same (naming-branches bs ds are)

  -- the same definitions of a tree that keeps the branches
  pub branches-kept : (new : List Branch) → KeepsBranches bs new → IsTree new → AreBranches new ds
  branches-kept new keeps tree = record {
    tree = tree;
    root = are.root;
    inside = omega (arith, are.inside, length-kept bs new keeps);
  }

  -- the names mean what they meant
  pub names-kept : (new : List Branch) → KeepsBranches bs new → IsTree new → names_of new ds ≡ names_of bs ds
  names-kept new keeps tree = names-among (name_at new) ds (name_at bs) ds (naming-branches new ds (branches-kept new keeps tree)) (naming-branches bs ds are)
      (λ k d means. (k, means, ap name_of (path-kept bs new keeps tree k (means-inside bs ds are k d means))))
      (λ k d means. (k, means, sym (ap name_of (path-kept bs new keeps tree k (means-inside bs ds are k d means)))))

  module _ (new : List (Option Definition)) (n : ℕ) (left : (k : ℕ) → value_at new k ≡ found_before (λ (d : Definition). d.file) n (value_at ds k)) (fewer : length new ≤ length ds) where
    -- some branches mean nothing any more
    pub branches-removed : AreBranches bs new
    branches-removed = record {
      tree = are.tree;
      root = left 0 ∙ ap (found_before (λ (d : Definition). d.file) n) are.root;
      inside = omega (arith, fewer, are.inside);
    }

    -- the names are those of the earlier files
    pub names-left : names_of bs new ≡ without_files_from n (names_of bs ds)
    names-left = names-removed (name_at bs) ds new (λ (d : Definition). d.file) n left (naming-branches bs ds are)

-- the branches from a number on are gone, where none of them means anything
module _ (bs : List Branch) (ds : List (Option Definition)) (n : ℕ) (are : AreBranches bs ds) (is : n ≡ length ds) where
  pub branches-first : AreBranches (take n bs) ds
  branches-first = record {
    tree = tree-kept (take n bs) bs (keeps-first bs n) are.tree;
    root = are.root;
    inside = omega (arith, is, length-take-le n bs (omega (arith, is, are.inside)));
  }

  -- the names mean what they meant
  pub names-first : names_of (take n bs) ds ≡ names_of bs ds
  names-first = sym (names-kept (take n bs) ds branches-first bs (keeps-first bs n) are.tree)

module _ (old new : Branches) (here : AreBranches old.tree old.definitions) (there : AreBranches new.tree new.definitions) where
  among-within : IsWithin old new → AreAmong (name_at old.tree) old.definitions (name_at new.tree) new.definitions
  among-within within k d means =
      let also = within k d means in
      (also.0, also.2, sym (ap name_of (descendant-path new.tree there.tree (path old.tree k) 0 also.0 also.1)))

  within-among : AreAmong (name_at old.tree) old.definitions (name_at new.tree) new.definitions → IsWithin old new
  within-among among k d means =
      let also = among k d means in (
        also.0,
        subst (λ ps. IsDescendant new.tree 0 ps also.0) (parts-name old.tree old.definitions here k d means)
            (named-descendant new.tree new.definitions there (name_at old.tree k) also.0 d also.1 also.2),
        also.1,
      )

-- two trees have the same names just where these mean the same in each other
pub names-same : (old new : Branches) → AreBranches old.tree old.definitions → AreBranches new.tree new.definitions
    → (names_of old.tree old.definitions ≡ names_of new.tree new.definitions) ↔ (IsWithin old new × IsWithin new old)
names-same old new here there = (
  λ same. (
    within-among old new here there (among-same (name_at old.tree) old.definitions (naming-branches old.tree old.definitions here) (name_at new.tree) new.definitions same),
    within-among new old there here (among-same (name_at new.tree) new.definitions (naming-branches new.tree new.definitions there) (name_at old.tree) old.definitions (sym same)),
  ),
  λ both. names-among (name_at old.tree) old.definitions (name_at new.tree) new.definitions
      (naming-branches old.tree old.definitions here) (naming-branches new.tree new.definitions there) (among-within old new here there both.0) (among-within new old there here both.1),
)

-- no branches mean nothing
pub branches-none : AreBranches [] []
branches-none = record { tree = tree-none; root = refl; inside = omega arith }
