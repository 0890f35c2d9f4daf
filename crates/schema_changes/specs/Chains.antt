-- Pools that follow one another, each a newer version of the one before.
use Rattle.std.specs.Prelude.{◌≡◌, ℕ, Bool, ◌==◌, ◌&&◌, List, [], ◌∷◌, ⊤}
use Rattle.std.specs.List.{list_any, enumerate_from}
use Rattle.pool_types.specs.Contents.{Contents}
use Rattle.schema_changes.specs.Parts.{parts_of}
use Rattle.schema_changes.specs.Pairs.{are_matched}
use Rattle.schema_changes.specs.Unchanged.{LookUp}
use Rattle.schema_changes.specs.Pools.{wire_changes, NamesMean}

-- the last of some pools
abbrev pub last_of : Contents → List Contents → Contents
last_of p [] = p
last_of p (q ∷ qs) = last_of q qs

-- whether a message of the first pool has one that it is a pair with in each later one, the last of
-- which has an index
unfoldable pub goes_on : Contents → List Contents → ℕ → ℕ → Bool
goes_on p [] m n = m == n
goes_on p (q ∷ qs) m n =
    list_any (λ e. are_matched (parts_of p) m (parts_of q) e.0 && goes_on q qs e.0 n)
    (enumerate_from 0 q.messages)

-- the maps and the names of each of these pools lead to what has the number or the name
abbrev pub AllLookUp : Contents → List Contents → Type 0
AllLookUp p [] = LookUp (parts_of p) × NamesMean p
AllLookUp p (q ∷ qs) = (LookUp (parts_of p) × NamesMean p) × AllLookUp q qs

-- no pool changes anything of the one before
abbrev pub NoneChanges : Contents → List Contents → Type 0
NoneChanges p [] = ⊤
NoneChanges p (q ∷ qs) = (wire_changes p q ≡ []) × NoneChanges q qs
