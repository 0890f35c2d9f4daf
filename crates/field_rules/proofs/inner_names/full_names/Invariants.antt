use Rattle.std.proofs.Common.{◌≡◌, ◌++◌, take, string_bytes}
use Rattle.std.specs.List.{flat_map}
use Rattle.field_rules.specs.InnerNames.{dot}
use Rattle.field_rules.proofs.inner_names.full_names.Given as goal

-- the names so far stand in the text
abbrev pub invariant-loop-record : goal.invariant-loop-record
invariant-loop-record g l =
    string_bytes l.text ≡ flat_map (λ r. l.front.0.now ++ dot l.front.1 ++ g.R.Named.own_name r) (take l.record-index l.records)
