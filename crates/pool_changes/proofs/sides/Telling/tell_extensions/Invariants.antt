use Rattle.std.proofs.Common.{◌≡◌, ◌++◌, take, flat_map}
use Rattle.pool_changes.specs.AtLevels.{extension_json, extension_source}
use Rattle.pool_changes.specs.FieldParts.{extension_part_at}
use Rattle.pool_changes.specs.Sides.{versions, writer}
use Rattle.pool_changes.proofs.sides.Telling.tell_extensions.Given as goal

-- the extensions so far are told
abbrev pub invariant-loop-index : goal.invariant-loop-index
invariant-loop-index l = record {
  json : l.told.json ≡ l.initial.told.json
      ++ flat_map (λ i. extension_json (versions l.self) l.pair.after.now l.pair.found.now (extension_part_at (writer (versions l.self)) i))
      (take l.index-index l.pair.before.now.extensions);
  source : l.told.source ≡ l.initial.told.source
      ++ flat_map (λ i. extension_source (versions l.self) l.pair.before.now l.pair.after.now l.pair.found.now (extension_part_at (writer (versions l.self)) i))
      (take l.index-index l.pair.before.now.extensions);
}
