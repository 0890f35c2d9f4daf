use Rattle.std.proofs.Common.{◌≡◌, take}
use Rattle.plain_data.specs.Lists.{flat_map_after}
use Rattle.verdict_texts.specs.Places.{left_behind}
use Rattle.verdict_texts.specs.Telling.{told_after}
use Rattle.verdict_texts.proofs.telling.tell_each.Given as goal

-- the faults so far are told, and of the indexes those are left that stand behind their places
abbrev pub invariant-loop-fault : goal.invariant-loop-fault
invariant-loop-fault l = record {
  told : l.told ≡ flat_map_after (told_after l.known.0 l.fn.places.names.now l.fn.places.indexes.now) (take l.fault-index l.faults);
  names : l.left.names.now ≡ l.fn.places.names.now;
  left : l.left.indexes.now ≡ left_behind (take l.fault-index l.faults) l.fn.places.indexes.now;
}
