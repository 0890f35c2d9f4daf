-- The first position of each of some names, or of each of some numbers, in a table.
use Rattle.std.specs.Prelude.{◌≡◌, ℕ, nat_eq, List, position}
use Rattle.std.specs.BTreeMap.{BTreeMap, get, get_by}
use Rattle.std.specs.Cmp.Lexicographic.{slice_cmp}
use Rattle.std.specs.Ordering.{nat_cmp}
use Rattle.std.specs.Str.{bytes_eq}
use Rattle.std.specs.declared.option.Option.{Option}
use denote.Ref.{Bor}

-- the position that a table has for a name
abbrev pub first_of : BTreeMap (Bor (List ℕ)) ℕ → List ℕ → Option ℕ
first_of firsts name = get_by (λ k. slice_cmp nat_cmp name k.now) firsts

-- a table has for each name the position of the first of some names that is equal to it
abbrev pub HasFirsts : BTreeMap (Bor (List ℕ)) ℕ → List (List ℕ) → Type 0
HasFirsts firsts names = (name : List ℕ) → first_of firsts name ≡ position (bytes_eq name) names

-- the position that a table has for a number
abbrev pub first_at : BTreeMap ℕ ℕ → ℕ → Option ℕ
first_at firsts number = get nat_cmp firsts number

-- a table has for each number the position of the first of some numbers that is equal to it
abbrev pub HasFirstNumbers : BTreeMap ℕ ℕ → List ℕ → Type 0
HasFirstNumbers firsts numbers =
    (number : ℕ) → first_at firsts number ≡ position (nat_eq number) numbers
