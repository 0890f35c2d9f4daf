use Rattle.std.proofs.Common.{◌≡◌, ◌++◌, string_bytes, take}
use Rattle.std.specs.List.{flat_map}
use Rattle.pool_descriptions.specs.Named.{reserved_range_line}
use Rattle.pool_descriptions.proofs.ranges.write_reserved_ranges.Given as goal

-- the ranges so far are told
abbrev pub invariant-loop-range : goal.invariant-loop-range
invariant-loop-range l =
    string_bytes l.text ≡ string_bytes l.initial.text ++ flat_map reserved_range_line (take l.range-index l.ranges)
