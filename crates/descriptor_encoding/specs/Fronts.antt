-- What bytes are put in front of.
use Rattle.std.specs.Prelude.{ℕ, ◌+◌, List, [], ◌++◌, length}
use Rattle.std.specs.declared.option.Option.{Option}
use Rattle.std.specs.declared.option.Option.TheVariants.{None, Some}

-- what bytes are put in front of: the bytes so far, or how many these are
pub data Front : Type 0 where
  Kept : List ℕ → Front
  Counted : ℕ → Front

-- bytes in front of those so far
abbrev pub in_front : List ℕ → Front → Front
in_front bytes (Kept rest) = Kept (bytes ++ rest)
in_front bytes (Counted n) = Counted (length bytes + n)

-- how many bytes there are so far
abbrev pub size : Front → ℕ
size (Kept bytes) = length bytes
size (Counted n) = n

-- the bytes so far, none of those that were only counted
abbrev pub bytes_of : Front → List ℕ
bytes_of (Kept bytes) = bytes
bytes_of (Counted n) = []

-- what is shown where bytes are held, or only their number
abbrev pub front_of : Option ℕ → List ℕ → Front
front_of None bytes = Kept bytes
front_of (Some n) bytes = Counted n
