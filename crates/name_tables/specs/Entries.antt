-- Entries of a name and what it means, in order. The first entry of a name says what it means.
use Rattle.std.specs.Prelude.{◌≡◌, ℕ, List, ◌++◌}
use Rattle.std.specs.FinMap as map
use Rattle.std.specs.Map.{lookup}
use Rattle.std.specs.Str.{bytes_eq}
use Rattle.std.specs.declared.option.Option.{Option}
use Rattle.pool_types.specs.Contents.{ByText}
use Rattle.pool_types.specs.declared.contents.definition.Definition.{Definition}

-- a name and what it means
abbrev pub Entry : Type 0
Entry = List ℕ × Definition

-- what the first entry of a name says
abbrev pub first_of : {X : Type 0} → List (List ℕ × X) → List ℕ → Option X
first_of entries name = lookup (bytes_eq name) entries

-- each name's first entry, as a finite map
abbrev pub names : {X : Type 0} → List (List ℕ × X) → ByText X
names entries = map.from_entries entries

-- the names that are known, and those of entries behind them: what is known stays
abbrev pub names_with : {X : Type 0} → ByText X → List (List ℕ × X) → ByText X
names_with known more = names (map.entries known ++ more)

-- law: the map has for each name what its first entry says
abbrev pub NamesAreFirst : Type 0
NamesAreFirst = (entries : List Entry) (name : List ℕ)
    → map.get (names entries) name ≡ first_of entries name
