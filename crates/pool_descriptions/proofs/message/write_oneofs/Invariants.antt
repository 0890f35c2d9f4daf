use Rattle.std.proofs.Common.{◌≡◌, ◌++◌, string_bytes, take}
use Rattle.std.specs.List.{flat_map}
use Rattle.pool_descriptions.specs.Items.{oneof_line}
use Rattle.pool_descriptions.proofs.message.write_oneofs.Given as goal

-- the oneofs so far are told
abbrev pub invariant-loop-oneof : goal.invariant-loop-oneof
invariant-loop-oneof l =
    string_bytes l.text ≡ string_bytes l.initial.text ++ flat_map (oneof_line l.message.fields) (take l.oneof-index l.message.oneofs)
