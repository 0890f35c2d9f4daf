use Rattle.std.proofs.Common.{◌≡◌, ◌++◌, drop, map, take}
use Rattle.pool_contents.specs.Growing.{rolled_back}
use Rattle.pool_contents.specs.Unlinked.{unlinked}
use Rattle.pool_contents.specs.Inner.{contents_in}
use Rattle.pool_contents.proofs.growing.GrowingPool.add_files.Given as goal

-- the files so far are there, as they are, and the others are still to come
abbrev pub invariant-loop-index : goal.invariant-loop-index
invariant-loop-index l =
    let old = l.initial.self in
    record {
      is : contents_in l.self.inner ≡ record (contents_in old.inner) { files = old.inner.files.items ++ map unlinked (take l.index l.initial.new) };
      kept : rolled_back l.self ≡ rolled_back old;
      left : drop l.index l.new ≡ drop l.index l.initial.new;
    }
