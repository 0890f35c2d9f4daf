use Rattle.std.proofs.Common.{◌<◌, length, ◌∙◌, arith}
use Rattle.std.proofs.lemmas.Result.{on_ok_weaker}
use Rattle.pool_contents.specs.Inner.{contents_in}
use Rattle.pool_contents.proofs.Extending.{extended-one, message-given, message-missing}
use Rattle.pool_contents.proofs.growing.GrowingPool.extend_message.Goals as goal

-- the message has one more extension
pub returns-then-message-len-clause-ok : goal.returns-then-message-len-clause-ok
returns-then-message-len-clause-ok c =
    let old = c.args.self.now in
    let ms = old.inner.messages.items in
    let xs = old.inner.extensions.items in
    let x = c.index-item.result.now in
    let below : x.extendee < length ms = omega (arith, c.if-message-len.true, c.len.ensures) in
    on_ok_weaker c.add_extension.result (λ given.
    let messages = message-given ms x.extendee (c.args.extension, x) c.index_mut.result.now c.add_extension.new.message below c.index_mut.ensures.value given
    ∙ extended-one c.args.extension x xs ms c.requires.here c.index-item.ensures in
    λ i. record (contents_in old.inner) { messages = messages i }) c.add_extension.ensures.ok

-- there is no such message
pub returns-clause-ok : goal.returns-clause-ok
returns-clause-ok c =
    let old = c.args.self.now in
    let ms = old.inner.messages.items in
    let x = c.index-item.result.now in
    let messages = message-missing ms x.extendee (c.args.extension, x) (omega (arith, c.if-message-len.false, c.len.ensures))
    ∙ extended-one c.args.extension x old.inner.extensions.items ms c.requires.here c.index-item.ensures in
    λ i. record (contents_in old.inner) { messages = messages i }
