-- Numbers for people: a comma before each three digits from the end.
use Rattle.std.specs.Prelude.{ℕ, zero, suc, ◌/◌, ◌%◌, ◌==◌, nat_lt, List, ◌++◌, codes}
use Rattle.std.specs.Prelude.{if◌then◌else◌}
use Rattle.std.specs.Fmt.{decimal}

-- a comma and the last three digits of a number
abbrev pub last_group : ℕ → List ℕ
last_group n = codes "," ++ (decimal (n / 100 % 10) ++ (decimal (n / 10 % 10) ++ decimal (n % 10)))

-- a number with so many commas at most
abbrev pub grouped_in : ℕ → ℕ → List ℕ
grouped_in zero n = decimal n
grouped_in (suc k) n =
    if nat_lt n 1000 then decimal n else grouped_in k (n / 1000) ++ last_group n

-- a number with a comma before each three digits from its end; it has no more commas than it counts
unfoldable pub grouped : ℕ → List ℕ
grouped n = grouped_in n n

-- a number of things, with their words for one and for more
abbrev pub grouped_count : ℕ → List ℕ → List ℕ → List ℕ
grouped_count n one many = grouped n ++ (codes " " ++ (if n == 1 then one else many))
