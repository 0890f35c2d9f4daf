use Rattle.std.proofs.Common.{◌≡◌}
use Rattle.pool_contents.specs.Extended.{extended_between}
use Rattle.pool_contents.specs.Growing.{first_extension}
use Rattle.pool_contents.specs.Inner.{contents_in}
use Rattle.pool_contents.proofs.growing.GrowingPool.extend_messages.Given as goal

-- the extensions so far are in the lists of the messages that they extend
abbrev pub invariant-loop-index : goal.invariant-loop-index
invariant-loop-index l =
    let old = l.initial.self in
    record {
      is : contents_in l.self.inner
          ≡ record (contents_in old.inner) { messages = extended_between (first_extension old) l.index old.inner.extensions.items old.inner.messages.items };
      base : l.self.base ≡ old.base;
    }
