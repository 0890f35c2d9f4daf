-- Values that were entered under numbers, each of a file.
use Rattle.std.specs.Prelude.{◌≡◌, ◌≢◌, ◌<◌, ◌≤◌, ℕ, List, IsTrue, nat_lt, if◌then◌else◌}
use Rattle.std.specs.List.{slice_get}
use Rattle.std.specs.Option.{option_and_then}
use Rattle.std.specs.declared.option.Option.{Option}
use Rattle.std.specs.declared.option.Option.TheVariants.{None, Some}
use Rattle.name_tables.specs.declared.entered.Order.{Order}

-- the value of a number, or none
abbrev pub value_at : {X : Type 0} → List (Option X) → ℕ → Option X
value_at values k = option_and_then (λ found. found) (slice_get values k)

-- a number has a value, and others have what they had
pub record Enters {X : Type 0} (old new : List (Option X)) (at : ℕ) (x : X) : Type 0 where
  pub here : value_at new at ≡ Some x
  pub others : (k : ℕ) → k ≢ at → value_at new k ≡ value_at old k

-- what was found, where it lies in a file before n
abbrev pub found_before : {X : Type 0} → (X → ℕ) → ℕ → Option X → Option X
found_before file_of n found =
    option_and_then (λ x. if nat_lt (file_of x) n then Some x else None) found

-- the files of values rise with the numbers
abbrev pub IsRising : {X : Type 0} → (X → ℕ) → List (Option X) → Type 0
IsRising {X} file_of values =
    (i j : ℕ) (x y : X) → i < j → value_at values i ≡ Some x → value_at values j ≡ Some y
    → file_of x ≤ file_of y

-- what is known of the files of values
pub record AreOrdered {X : Type 0} (file_of : X → ℕ) (values : List (Option X)) (order : Order)
    : Type 0 where
  pub bounded : (k : ℕ) (x : X) → value_at values k ≡ Some x → file_of x ≤ order.newest
  pub rising : IsTrue order.is_rising → IsRising file_of values

-- a number has no value of file n or a later one, and others have what they had
pub record Removes {X : Type 0} (file_of : X → ℕ) (old new : List (Option X)) (at n : ℕ) : Type 0
  where
    pub here : value_at new at ≡ found_before file_of n (value_at old at)
    pub others : (k : ℕ) → k ≢ at → value_at new k ≡ value_at old k
