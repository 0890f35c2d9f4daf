-- The branches of a tree of names, and what their names mean.
use Rattle.std.specs.Prelude.{◌≡◌, ◌≤◌, List, length}
use Rattle.std.specs.declared.option.Option.{Option}
use Rattle.std.specs.declared.option.Option.TheVariants.{None}
use Rattle.name_tables.specs.Parts.{name_of}
use Rattle.name_tables.specs.Tree.{Branch, IsTree, path}
use Rattle.pool_types.specs.Contents.{ByText}
use Rattle.pool_types.specs.declared.contents.definition.Definition.{Definition}
use Rattle.name_tables.specs.Entered.{value_at}
use Rattle.name_tables.specs.NumberedNames.{names_by}

-- what the names of branches mean
abbrev pub names_of : List Branch → List (Option Definition) → ByText Definition
names_of branches definitions = names_by (λ k. name_of (path branches k)) definitions

-- the branches are a tree, and only they mean something, but for the root
pub record AreBranches (branches : List Branch) (definitions : List (Option Definition)) : Type 0
  where
    pub tree : IsTree branches
    pub root : value_at definitions 0 ≡ None
    pub inside : length definitions ≤ length branches
