use Rattle.std.proofs.Common.{arith}
use Rattle.pool_contents.proofs.Extending.{retracted-here, retracted-nowhere}
use Rattle.pool_contents.proofs.growing.GrowingPool.retract_extension.Goals as goal

-- the message lacks its last extension
pub returns-then-message-len-clause-back : goal.returns-then-message-len-clause-back
returns-then-message-len-clause-back c =
    let old = c.args.self.now in
    λ ms numbers made. retracted-here old.inner.messages.items ms old.inner.extensions.items c.args.extension c.index-item.result.now c.index_mut.result.now c.remove_extension.new.message
    (omega (arith, c.if-message-len.true, c.len.ensures)) c.index_mut.ensures.value c.requires.here c.index-item.ensures c.remove_extension.ensures numbers made

-- there is no such message
pub returns-else-message-len-clause-back : goal.returns-else-message-len-clause-back
returns-else-message-len-clause-back c =
    let old = c.args.self.now in
    λ ms numbers made. retracted-nowhere old.inner.messages.items ms old.inner.extensions.items c.args.extension c.index-item.result.now
    (omega (arith, c.if-message-len.false, c.len.ensures)) c.requires.here c.index-item.ensures made
