use Rattle.std.proofs.Common.{◌-◌, ◌<◌, length}
use Rattle.name_tables.specs.Nodes.{rows, child_key}
use Rattle.name_tables.proofs.Slots.{IsSought}
use Rattle.name_tables.proofs.nodes.find_slot.Given as goal

abbrev pub invariant-loop-at : goal.invariant-loop-at
invariant-loop-at l = record {
  inside : l.slot.node < length l.nodes;
  sought : IsSought (rows l.texts l.nodes) (child_key (rows l.texts l.nodes) l.key.parent l.key.part.now) l.slot l.level;
}

abbrev pub decreases-loop-at : goal.decreases-loop-at
decreases-loop-at l = length l.nodes - l.slot.node
