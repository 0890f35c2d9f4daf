use Rattle.std.proofs.Common.{◌≡◌, ◌++◌, take, flat_map}
use Rattle.pool_changes.specs.AtLevels.{numbered_json, numbered_source}
use Rattle.pool_changes.specs.FieldParts.{field_part}
use Rattle.pool_changes.specs.Sides.{versions}
use Rattle.pool_changes.proofs.sides.Telling.tell_fields.Given as goal

-- the fields so far are told
abbrev pub invariant-loop-field : goal.invariant-loop-field
invariant-loop-field l = record {
  json : l.told.json ≡ l.initial.told.json
      ++ flat_map (λ f. numbered_json (versions l.self) l.pair.after.now l.pair.found.now (field_part f))
      (take l.field-index l.pair.before.now.fields);
  source : l.told.source ≡ l.initial.told.source
      ++ flat_map (λ f. numbered_source (versions l.self) l.pair.before.now l.pair.after.now l.pair.found.now (field_part f))
      (take l.field-index l.pair.before.now.fields);
}
