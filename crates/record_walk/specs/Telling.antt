-- What a check tells: the first faults, which are kept, and how many more there are.
use Rattle.std.specs.Prelude.{ℕ, suc, ◌-◌, Bool, false, List, [], ◌∷◌, ◌++◌, length, take, max}
use Rattle.std.specs.Prelude.{nat_le, if◌then◌else◌}
use Rattle.std.specs.List.{fold}
use Rattle.std.specs.declared.option.Option.{Option}
use Rattle.std.specs.declared.option.Option.TheVariants.{None, Some}
use Rattle.pool_faults.specs.declared.fault.DescriptorErrorKind.{DescriptorErrorKind}

-- what is told: how many faults are kept at most, where there is a limit, those that are kept, and
-- how many more there are
pub record Telling : Type 0 where
  pub most : Option ℕ
  pub first : List DescriptorErrorKind
  pub rest : ℕ

-- nothing is told
abbrev pub nothing_told : Option ℕ → Telling
nothing_told most = record { most = most; first = []; rest = 0 }

-- what is told where no fault is ever told
abbrev pub untold : Telling
untold = nothing_told None

-- whether so many faults are as many as are kept; the first is kept whatever the limit
abbrev pub is_full : Option ℕ → ℕ → Bool
is_full None many = false
is_full (Some most) many = nat_le (max 1 most) many

-- one fault is told, which is kept or counted
unfoldable pub with_fault : Telling → DescriptorErrorKind → Telling
with_fault told fault =
    if is_full told.most (length told.first) then record told { rest = suc told.rest }
    else record told { first = told.first ++ fault ∷ [] }

-- faults are told in turn
abbrev pub with_faults : Telling → List DescriptorErrorKind → Telling
with_faults = fold with_fault

-- the faults that are kept of a list
abbrev pub first_of : Option ℕ → List DescriptorErrorKind → List DescriptorErrorKind
first_of None faults = faults
first_of (Some most) faults = take (max 1 most) faults

-- how many of a list are not kept
abbrev pub rest_of : Option ℕ → List DescriptorErrorKind → ℕ
rest_of None faults = 0
rest_of (Some most) faults = length faults - max 1 most
