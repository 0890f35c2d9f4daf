use Rattle.std.proofs.Common.{◌≡◌, string_bytes, take}
use Rattle.std.specs.List.{flat_map}
use Rattle.descriptor_check.specs.Described.{unknown_line}
use Rattle.descriptor_check.proofs.described.unknown_names.Given as goal

-- the names so far are told
abbrev pub invariant-loop-name : goal.invariant-loop-name
invariant-loop-name l =
    string_bytes l.text ≡ flat_map (unknown_line l.pool) (take l.name-index l.names)
