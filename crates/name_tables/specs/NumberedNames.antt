-- Names of numbers, and what they have where the numbers have values.
use Rattle.std.specs.Prelude.{◌≡◌, ℕ, zero, suc, List, [], ◌++◌, length}
use Rattle.std.specs.FinMap as map
use Rattle.std.specs.Option.{option_map}
use Rattle.std.specs.declared.option.Option.{Option}
use Rattle.std.specs.declared.option.Option.TheVariants.{Some}
use Rattle.plain_data.specs.Lists.{listed}
use Rattle.pool_types.specs.Contents.{ByText}
use Rattle.name_tables.specs.Entered.{value_at}

-- the names of those of the first n numbers that have a value, and the values
abbrev pub named : {X : Type 0} → (ℕ → List ℕ) → List (Option X) → ℕ → List (List ℕ × X)
named name_at values zero = []
named name_at values (suc k) =
    listed (option_map (λ x. (name_at k, x)) (value_at values k)) ++ named name_at values k

-- the names of all numbers that have a value, as a finite map
abbrev pub names_by : {X : Type 0} → (ℕ → List ℕ) → List (Option X) → ByText X
names_by name_at values = map.from_entries (named name_at values (length values))

-- no two numbers that have a value have the same name
abbrev pub IsNaming : {X : Type 0} → (ℕ → List ℕ) → List (Option X) → Type 0
IsNaming {X} name_at values =
    (j k : ℕ) (x y : X) → value_at values j ≡ Some x → value_at values k ≡ Some y
    → name_at j ≡ name_at k → j ≡ k
