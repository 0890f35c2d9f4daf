use Rattle.std.proofs.Common.{◌≡◌, ◌++◌, string_bytes, take}
use Rattle.std.specs.List.{flat_map}
use Rattle.pool_descriptions.specs.Items.{extended_at}
use Rattle.pool_descriptions.proofs.message.write_extended.Given as goal

-- the extensions so far are told
abbrev pub invariant-loop-index : goal.invariant-loop-index
invariant-loop-index l =
    string_bytes l.text ≡ string_bytes l.initial.text ++ flat_map (extended_at l.pool) (take l.index-index l.extensions)
