use Rattle.std.proofs.Common.{◌≡◌, ◌++◌, string_bytes, take}
use Rattle.std.specs.List.{flat_map}
use Rattle.pool_descriptions.specs.Items.{field_line}
use Rattle.pool_descriptions.proofs.message.write_fields.Given as goal

-- the fields so far are told
abbrev pub invariant-loop-field : goal.invariant-loop-field
invariant-loop-field l =
    string_bytes l.text ≡ string_bytes l.initial.text ++ flat_map (field_line l.pool l.message.oneofs) (take l.field-index l.message.fields)
