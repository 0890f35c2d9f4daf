use Rattle.std.proofs.Common.{◌≡◌, ◌++◌, take, flat_map}
use Rattle.pool_changes.specs.AtLevels.{enum_json, enum_source}
use Rattle.pool_changes.specs.Removed.{enum_named}
use Rattle.pool_changes.specs.Sides.{versions, reader, writer}
use Rattle.pool_changes.proofs.sides.Telling.tell_enums.Given as goal

-- the enums so far are told
abbrev pub invariant-loop-index : goal.invariant-loop-index
invariant-loop-index l = record {
  json : l.told.json ≡ l.initial.told.json
      ++ flat_map (λ e. enum_json (versions l.self) e (enum_named (reader (versions l.self)) e.id.full_name))
      (take l.index (writer (versions l.self)).enums);
  source : l.told.source ≡ l.initial.told.source
      ++ flat_map (λ e. enum_source (versions l.self) e (enum_named (reader (versions l.self)) e.id.full_name))
      (take l.index (writer (versions l.self)).enums);
}
