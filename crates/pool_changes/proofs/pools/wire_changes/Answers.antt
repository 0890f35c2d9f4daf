use Rattle.std.proofs.Common.{◌+◌, refl, ◌∙◌}
use Rattle.schema_changes.proofs.Named.{changes-step}
use Rattle.pool_changes.proofs.pools.wire_changes.Goals as goal

-- one more message is compared
pub loop-index-preserved : goal.loop-index-preserved
loop-index-preserved c = record {
  asked = c.tell_message.ensures.asked ∙ c.loop-index.invariant.asked;
  told = changes-step c.args.old.now c.args.new.now c.loop-index.index (c.loop-index.index + 1) c.messages-messages.result.now c.index-messages-index.result
      c.loop-index.changes.items c.tell_message.new.changes.items refl c.loop-index-test.true c.index-messages-index.is c.loop-index.invariant.told c.in_ok-tell_message.ensures.told;
}
