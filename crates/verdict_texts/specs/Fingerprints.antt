-- What tells the faults of a report of GitLab's code quality from each other.
use Rattle.std.specs.Prelude.{◌≡◌, ℕ, ◌+◌, ◌<◌, ◌^◌, Bool, false, not, ◌==◌, ◌&&◌, List, [], ◌∷◌}
use Rattle.std.specs.Prelude.{◌++◌, codes, length, map, if◌then◌else◌}
use Rattle.std.specs.Fmt.{decimal}
use Rattle.std.specs.HashMap.{HashMap, get_by}
use Rattle.std.specs.List.{count_by, IsDistinct}
use Rattle.std.specs.Option.{unwrap_or}
use Rattle.std.specs.Str.{bytes_eq}
use denote.Ref.{Bor}
use Rattle.verdict_texts.specs.declared.telling.ToldFault.{ToldFault}
use Rattle.verdict_texts.specs.declared.fingerprints.Marked as lent

-- a fault, and the mark that tells it from the faults with other marks
pub record Marked : Type 0 where
  pub mark : List ℕ
  pub told : ToldFault

-- the same, of a fault that is lent to the code
abbrev pub marked : lent.Marked → Marked
marked one = record { mark = one.mark; told = one.told.now }

-- how many of some marks are equal to one
abbrev pub times : List ℕ → List (List ℕ) → ℕ
times mark marks = count_by (bytes_eq mark) marks

-- whether a text begins with `#`
abbrev pub has_sign : List ℕ → Bool
has_sign [] = false
has_sign (c ∷ cs) = c == 35

-- the fingerprint of the nth fault with a mark: the mark, and `#n` in front of it from the second
-- fault on, or where the mark itself begins with `#`
unfoldable pub fingerprint : List ℕ → ℕ → List ℕ
fingerprint mark n = if (n == 1 && not (has_sign mark)) then mark
    else codes "#" ++ (decimal n ++ (codes " " ++ mark))

-- faults with their fingerprints in place of their marks, after faults with other marks
abbrev pub apart_after : List (List ℕ) → List Marked → List Marked
apart_after before [] = []
apart_after before (one ∷ all) =
    record one { mark = fingerprint one.mark (times one.mark before + 1) }
    ∷ apart_after (one.mark ∷ before) all

-- the faults of a report, with their fingerprints in place of their marks
abbrev pub apart : List Marked → List Marked
apart all = apart_after [] all

-- law: no two faults of a report have one fingerprint (a slice has fewer than 2 ^ 64)
abbrev pub FingerprintsDiffer : Type 0
FingerprintsDiffer = (all : List Marked) → length all < 2 ^ 64
    → IsDistinct bytes_eq (map (λ one. one.mark) (apart all))

-- how often a text is counted in a table
abbrev pub counted : {S : Type 0} → HashMap (Bor (List ℕ)) ℕ S → List ℕ → ℕ
counted counts text = unwrap_or (get_by (λ key. bytes_eq text key.now) counts) 0
