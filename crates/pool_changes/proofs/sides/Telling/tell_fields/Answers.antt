use Rattle.std.proofs.Common.{◌++◌, ap, ◌∙◌}
use Rattle.pool_changes.specs.AtLevels.{numbered_json, numbered_source}
use Rattle.pool_changes.specs.FieldParts.{field_part}
use Rattle.pool_changes.specs.Sides.{versions}
use Rattle.pool_changes.proofs.Steps.{told-next}
use Rattle.pool_changes.proofs.sides.Telling.tell_fields.Goals as goal

-- each list has what one more of them changes
pub loop-field-preserved : goal.loop-field-preserved
loop-field-preserved c =
    let v = versions c.args.self in
    let x = c.args.pair.before.now in
    let y = c.args.pair.after.now in
    let found = c.args.pair.found.now in
    record {
      json = told-next (λ f. numbered_json v y found (field_part f)) c.as_slice-field-items.result.now x.fields c.loop-field.field-index c.field-item.result c.field-item.result c.args.told.now.json c.loop-field.told.json c.tell_entry.new.told.json
          c.as_slice-field-items.ensures c.loop-field-test.true c.field-item.is c.loop-field.invariant.json
          (c.in_ok-tell_entry.ensures.json ∙ ap (λ p. c.loop-field.told.json ++ numbered_json v y found p) c.field_part.ensures);
      source = told-next (λ f. numbered_source v x y found (field_part f)) c.as_slice-field-items.result.now x.fields c.loop-field.field-index c.field-item.result c.field-item.result c.args.told.now.source c.loop-field.told.source c.tell_entry.new.told.source
          c.as_slice-field-items.ensures c.loop-field-test.true c.field-item.is c.loop-field.invariant.source
          (c.in_ok-tell_entry.ensures.source ∙ ap (λ p. c.loop-field.told.source ++ numbered_source v x y found p) c.field_part.ensures);
    }
