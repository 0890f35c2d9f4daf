use Rattle.std.proofs.Common.{◌≡◌, drop, length, take}
use Rattle.pool_contents.specs.Growing.{new_records, records_from, rolled_back}
use Rattle.pool_contents.proofs.growing.GrowingPool.give_back.Given as goal

-- the records so far are given back, and the others are still there
abbrev pub invariant-loop-index : goal.invariant-loop-index
invariant-loop-index l =
    let old = l.initial.self in
    record {
      given : take l.index l.records ≡ take l.index (new_records old);
      left : drop l.index (records_from old.base.files l.self.inner.files.items) ≡ drop l.index (new_records old);
      kept : rolled_back l.self ≡ rolled_back old;
      base : l.self.base ≡ old.base;
      many : length l.self.inner.files.items ≡ length old.inner.files.items;
    }
