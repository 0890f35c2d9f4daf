use Rattle.std.proofs.Common.{◌≡◌, ◌++◌, take, flat_map}
use Rattle.schema_changes.specs.Pools.{message_named}
use Rattle.pool_changes.specs.AtLevels.{message_json, message_source}
use Rattle.pool_changes.specs.Comparing.{message_told}
use Rattle.pool_changes.specs.Pools.{pools_of}
use Rattle.pool_changes.specs.Sides.{versions, reader, writer}
use Rattle.pool_changes.proofs.sides.Telling.tell_messages.Given as goal

-- the messages so far are told
abbrev pub invariant-loop-index : goal.invariant-loop-index
invariant-loop-index l = record {
  asked : l.asked ≡ pools_of (versions l.self);
  wire : l.told.wire ≡ l.initial.told.wire
      ++ flat_map (λ x. message_told (versions l.self) x (message_named (reader (versions l.self)) x.id.full_name))
      (take l.index (writer (versions l.self)).messages);
  json : l.told.behind.json ≡ l.initial.told.behind.json
      ++ flat_map (λ x. message_json (versions l.self) x (message_named (reader (versions l.self)) x.id.full_name))
      (take l.index (writer (versions l.self)).messages);
  source : l.told.behind.source ≡ l.initial.told.behind.source
      ++ flat_map (λ x. message_source (versions l.self) x (message_named (reader (versions l.self)) x.id.full_name))
      (take l.index (writer (versions l.self)).messages);
}
