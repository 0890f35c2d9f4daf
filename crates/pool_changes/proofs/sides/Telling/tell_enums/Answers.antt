use Rattle.std.proofs.Common.{◌≡◌, ap, ◌∙◌}
use Rattle.pool_changes.specs.AtLevels.{enum_json, enum_source}
use Rattle.pool_changes.specs.Removed.{enum_named}
use Rattle.pool_changes.specs.Sides.{versions, reader, writer}
use Rattle.pool_changes.proofs.Steps.{told-next}
use Rattle.pool_changes.proofs.sides.Telling.tell_enums.Goals as goal

-- each list has what one more of them changes
pub loop-index-preserved : goal.loop-index-preserved
loop-index-preserved c =
    let v = versions c.args.self in
    let same : c.enums-enums.result.now ≡ (writer v).enums = c.enums-enums.ensures.items ∙ ap (λ p. p.enums) c.writer.ensures in
    record {
      json = told-next (λ e. enum_json v e (enum_named (reader v) e.id.full_name)) c.enums-enums.result.now (writer v).enums c.loop-index.index c.index-enums-index.result c.index-enums-index.result c.args.told.now.json c.loop-index.told.json c.tell_enum.new.told.json
          same c.loop-index-test.true c.index-enums-index.is c.loop-index.invariant.json c.in_ok-tell_enum.ensures.json;
      source = told-next (λ e. enum_source v e (enum_named (reader v) e.id.full_name)) c.enums-enums.result.now (writer v).enums c.loop-index.index c.index-enums-index.result c.index-enums-index.result c.args.told.now.source c.loop-index.told.source c.tell_enum.new.told.source
          same c.loop-index-test.true c.index-enums-index.is c.loop-index.invariant.source c.in_ok-tell_enum.ensures.source;
    }
