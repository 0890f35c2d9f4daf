use Rattle.std.proofs.Common.{◌≡◌, take}
use Rattle.schema_changes.specs.Parts.{parts_of}
use Rattle.schema_changes.specs.Pools.{changes_from}
use Rattle.pool_changes.proofs.pools.wire_changes.Given as goal

-- the messages so far are told
abbrev pub invariant-loop-index : goal.invariant-loop-index
invariant-loop-index l = record {
  asked : l.asked ≡ record { older = parts_of l.old; newer = parts_of l.new };
  told : l.changes.items ≡ changes_from l.old l.new 0 (take l.index l.messages);
}
