use Rattle.std.proofs.Common.{◌≡◌, ap, ◌∙◌}
use Rattle.schema_changes.specs.Pools.{message_named}
use Rattle.pool_changes.specs.AtLevels.{message_json, message_source}
use Rattle.pool_changes.specs.Comparing.{message_told}
use Rattle.pool_changes.specs.Sides.{versions, reader, writer}
use Rattle.pool_changes.proofs.Steps.{told-next}
use Rattle.pool_changes.proofs.sides.Telling.tell_messages.Goals as goal

-- each list has what one more of them changes
pub loop-index-preserved : goal.loop-index-preserved
loop-index-preserved c =
    let v = versions c.args.self in
    let same : c.messages-messages.result.now ≡ (writer v).messages = c.messages-messages.ensures.items ∙ ap (λ p. p.messages) c.writer.ensures in
    let x = c.index-messages-index.result in
    record {
      asked = c.tell_message.ensures.asked ∙ c.loop-index.invariant.asked;
      wire = told-next (λ m. message_told v m (message_named (reader v) m.id.full_name)) c.messages-messages.result.now (writer v).messages c.loop-index.index x x c.args.told.now.wire c.loop-index.told.wire c.tell_message.new.told.wire
          same c.loop-index-test.true c.index-messages-index.is c.loop-index.invariant.wire c.in_ok-tell_message.ensures.wire;
      json = told-next (λ m. message_json v m (message_named (reader v) m.id.full_name)) c.messages-messages.result.now (writer v).messages c.loop-index.index x x c.args.told.now.behind.json c.loop-index.told.behind.json c.tell_message.new.told.behind.json
          same c.loop-index-test.true c.index-messages-index.is c.loop-index.invariant.json c.in_ok-tell_message.ensures.json;
      source = told-next (λ m. message_source v m (message_named (reader v) m.id.full_name)) c.messages-messages.result.now (writer v).messages c.loop-index.index x x c.args.told.now.behind.source c.loop-index.told.behind.source c.tell_message.new.told.behind.source
          same c.loop-index-test.true c.index-messages-index.is c.loop-index.invariant.source c.in_ok-tell_message.ensures.source;
    }
