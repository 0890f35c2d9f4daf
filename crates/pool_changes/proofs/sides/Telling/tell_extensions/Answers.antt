use Rattle.std.proofs.Common.{◌≡◌, ◌++◌, get_or, option_map, ap, refl, ◌∙◌}
use Rattle.pool_changes.specs.AtLevels.{extension_json, extension_source}
use Rattle.pool_changes.specs.FieldParts.{extension_part_at, part}
use Rattle.pool_changes.specs.Sides.{versions, writer}
use Rattle.pool_changes.proofs.Steps.{told-next}
use Rattle.pool_changes.proofs.sides.Telling.tell_extensions.Goals as goal

-- each list has what one more of them changes
pub loop-index-preserved : goal.loop-index-preserved
loop-index-preserved c =
    let v = versions c.args.self in
    let x = c.args.pair.before.now in
    let y = c.args.pair.after.now in
    let found = c.args.pair.found.now in
    let index = get_or c.as_slice-index-items.result.now c.loop-index.index-index 0 in
    let e : option_map part c.extension_part_at-extension.result ≡ extension_part_at (writer v) index =
    c.extension_part_at-extension.ensures ∙ ap (λ p. extension_part_at p index) c.writer.ensures in
    record {
      json = told-next (λ i. extension_json v y found (extension_part_at (writer v) i)) c.as_slice-index-items.result.now x.extensions c.loop-index.index-index 0 index c.args.told.now.json c.loop-index.told.json c.tell_extension.new.told.json
          c.as_slice-index-items.ensures c.loop-index-test.true refl c.loop-index.invariant.json
          (c.in_ok-tell_extension.ensures.json ∙ ap (λ p. c.loop-index.told.json ++ extension_json v y found p) e);
      source = told-next (λ i. extension_source v x y found (extension_part_at (writer v) i)) c.as_slice-index-items.result.now x.extensions c.loop-index.index-index 0 index c.args.told.now.source c.loop-index.told.source c.tell_extension.new.told.source
          c.as_slice-index-items.ensures c.loop-index-test.true refl c.loop-index.invariant.source
          (c.in_ok-tell_extension.ensures.source ∙ ap (λ p. c.loop-index.told.source ++ extension_source v x y found p) e);
    }
