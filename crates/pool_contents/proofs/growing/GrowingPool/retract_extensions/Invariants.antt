use Rattle.std.proofs.Common.{◌≡◌, ◌≤◌, List}
use Rattle.pool_types.specs.declared.contents.message.MessageDescriptorInner.{MessageDescriptorInner}
use Rattle.pool_contents.specs.Extended.{NumbersLieBefore, extended_between}
use Rattle.pool_contents.specs.Inner.{contents_in}
use Rattle.pool_contents.proofs.growing.GrowingPool.retract_extensions.Given as goal

-- the extensions up to an index are still in the lists of the messages that they extend
abbrev pub invariant-loop-self : goal.invariant-loop-self
invariant-loop-self l =
    let old = l.initial.self in
    let xs = old.inner.extensions.items in
    record {
      within : l.end ≤ l.initial.end;
      back : (ms : List MessageDescriptorInner) → NumbersLieBefore old.base.extensions ms → old.inner.messages.items ≡ extended_between old.base.extensions l.initial.end xs ms
          → l.self.inner.messages.items ≡ extended_between old.base.extensions l.end xs ms;
      others : contents_in l.self.inner ≡ record (contents_in old.inner) { messages = l.self.inner.messages.items };
      base : l.self.base ≡ old.base;
    }

-- those that are left
abbrev pub decreases-loop-self : goal.decreases-loop-self
decreases-loop-self l = l.end
