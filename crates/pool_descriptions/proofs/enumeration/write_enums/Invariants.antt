use Rattle.std.proofs.Common.{◌≡◌, ◌++◌, string_bytes, take}
use Rattle.std.specs.List.{flat_map}
use Rattle.pool_descriptions.specs.Items.{enum_text}
use Rattle.pool_descriptions.proofs.enumeration.write_enums.Given as goal

-- the enums so far are told
abbrev pub invariant-loop-enumeration : goal.invariant-loop-enumeration
invariant-loop-enumeration l =
    string_bytes l.text ≡ string_bytes l.initial.text ++ flat_map (enum_text l.pool) (take l.enumeration-index l.pool.enums)
