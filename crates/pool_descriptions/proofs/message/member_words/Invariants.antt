use Rattle.std.proofs.Common.{◌≡◌, string_bytes, take}
use Rattle.std.specs.List.{flat_map}
use Rattle.pool_descriptions.specs.Items.{member_words}
use Rattle.pool_descriptions.proofs.message.member_words.Given as goal

-- the fields so far are told
abbrev pub invariant-loop-position : goal.invariant-loop-position
invariant-loop-position l =
    string_bytes l.text ≡ flat_map (member_words l.fields) (take l.position-index l.positions)
