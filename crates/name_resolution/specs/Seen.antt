-- The files that a file is known to see. No public contract cites this.
use Rattle.std.specs.Prelude.{◌≡◌, ◌≤◌, ◌++◌, ℕ, List, [], ◌∷◌, nat_eq, if◌then◌else◌}
use Rattle.std.specs.List.{fold, list_any}
use Rattle.std.specs.Option.{IfSome}
use Rattle.name_resolution.specs.declared.seen.Seen.{Seen}
use Rattle.name_resolution.specs.LastSeen.{last_seen, was_seen}

-- what is kept of who saw a file last fits the list of what a file sees
pub record SeenByNow (seen : Seen) : Type 0 where
  -- a file was seen last by this one if it stands in the list, and only then
  pub files : (b : ℕ) → was_seen seen.last seen.by b ≡ list_any (nat_eq b) seen.files.items
  -- none was seen last by a file behind this one
  pub latest : (b : ℕ) → IfSome (last_seen seen.last b) (λ last. last ≤ seen.by)

-- a list with each file of another put behind it that it does not have yet
abbrev pub with_each : List ℕ → List ℕ → List ℕ
with_each seen files = fold (λ xs b. if list_any (nat_eq b) xs then xs else xs ++ b ∷ []) seen files

-- each file of a list is seen
pub record SeesEach (list : List ℕ) (old new : Seen) : Type 0 where
  pub by : new.by ≡ old.by
  pub files : SeenByNow old → new.files.items ≡ with_each old.files.items list
  pub seen : SeenByNow old → SeenByNow new
