-- The names of files, as children of a root.
use Rattle.std.specs.Prelude.{◌≡◌, ◌≤◌, ℕ, suc, List, [], length}
use Rattle.std.specs.FinMap as map
use Rattle.std.specs.List.{slice_get}
use Rattle.std.specs.Option.{option_map_or}
use Rattle.std.specs.declared.option.Option.{Option}
use Rattle.std.specs.declared.option.Option.TheVariants.{None, Some}
use Rattle.name_tables.specs.Tree.{Branch, IsChild}
use Rattle.pool_types.specs.Contents.{ByText}
use Rattle.name_tables.specs.Entered.{value_at}
use Rattle.name_tables.specs.NumberedNames.{names_by}

-- the part of branch k
abbrev pub part_at : List Branch → ℕ → List ℕ
part_at branches k = option_map_or (λ b. b.part) (slice_get branches k) []

-- the file of each part
abbrev pub files_of : List Branch → List (Option ℕ) → ByText ℕ
files_of branches files = names_by (part_at branches) files

-- the part of branch k has its file among names, where it has one
abbrev pub IsAmongAt : List Branch → List (Option ℕ) → ByText ℕ → ℕ → Type 0
IsAmongAt branches files names k =
    (file : ℕ) → value_at files k ≡ Some file → map.get names (part_at branches k) ≡ Some file

-- so it is with each part
abbrev pub IsAmong : List Branch → List (Option ℕ) → ByText ℕ → Type 0
IsAmong branches files names = (k : ℕ) → IsAmongAt branches files names k

-- all branches are children of the root, each alone with its part, and only they have a file
pub record AreFileNames (branches : List Branch) (files : List (Option ℕ)) : Type 0 where
  pub child : (k : ℕ) (b : Branch) → slice_get branches (suc k) ≡ Some b → b.parent ≡ 0
  pub single : (name : List ℕ) (k j : ℕ) → IsChild branches 0 name k
      → IsChild branches 0 name j → k ≡ j
  pub root : value_at files 0 ≡ None
  pub inside : length files ≤ length branches
