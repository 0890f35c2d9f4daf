use Rattle.std.proofs.Common.{◌≡◌, ◌++◌, string_bytes, take}
use Rattle.std.specs.List.{flat_map}
use Rattle.pool_descriptions.specs.Items.{value_line}
use Rattle.pool_descriptions.proofs.enumeration.write_values.Given as goal

-- the values so far are told
abbrev pub invariant-loop-value : goal.invariant-loop-value
invariant-loop-value l =
    string_bytes l.text ≡ string_bytes l.initial.text ++ flat_map (value_line l.pool) (take l.value-index l.values)
