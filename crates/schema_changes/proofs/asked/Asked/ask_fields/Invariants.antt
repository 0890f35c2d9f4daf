use Rattle.std.proofs.Common.{◌≡◌}
use Rattle.schema_changes.proofs.asked.Asked.ask_fields.Given as goal

-- the pools stay
abbrev pub invariant-loop-field : goal.invariant-loop-field
invariant-loop-field l = l.self ≡ l.initial.self
