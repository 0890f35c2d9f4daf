use Rattle.std.proofs.Common.{◌≡◌, ◌++◌, string_bytes, take}
use Rattle.std.specs.List.{flat_map}
use Rattle.pool_descriptions.specs.Named.{name_text}
use Rattle.descriptor_check.proofs.described.write_names.Given as goal

-- the names so far are told
abbrev pub invariant-loop-name : goal.invariant-loop-name
invariant-loop-name l =
    string_bytes l.text ≡ string_bytes l.initial.text ++ flat_map (name_text l.pool) (take l.name-index l.names)
