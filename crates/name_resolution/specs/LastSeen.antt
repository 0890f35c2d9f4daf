-- By which file each file was seen last. No public contract cites this.
use Rattle.std.specs.Prelude.{ℕ, ◌-◌, ◌==◌, Bool, false, nat_lt, vec_len, slice_index_or}
use Rattle.std.specs.Prelude.{if◌then◌else◌}
use Rattle.std.specs.Bool.{then_some}
use Rattle.std.specs.FinMap as finite
use Rattle.std.specs.Option.{option_map_or}
use Rattle.std.specs.declared.option.Option.{Option}
use Rattle.std.specs.declared.option.Option.TheVariants.{None, Some}
use Rattle.name_resolution.specs.declared.last_seen.LastSeen.{LastSeen}

-- the place of a file in the list of files from the first on, if it stands there
abbrev pub near_place : LastSeen → ℕ → Option ℕ
near_place seen file = if nat_lt file seen.first then None
    else then_some (nat_lt (file - seen.first) (vec_len seen.near)) (file - seen.first)

-- what is kept of a file at a place of the list, or of one that does not stand there
abbrev pub kept_at : LastSeen → ℕ → Option ℕ → Option ℕ
kept_at seen file None = finite.get seen.far file
kept_at seen file (Some place) = slice_index_or seen.near.items place None

-- the file by which a file was seen last, if it was seen
abbrev pub last_seen : LastSeen → ℕ → Option ℕ
last_seen seen file = kept_at seen file (near_place seen file)

-- whether a file was seen last by one with an index
abbrev pub was_seen : LastSeen → ℕ → ℕ → Bool
was_seen seen by file = option_map_or (λ last. last == by) (last_seen seen file) false
