use Rattle.std.proofs.Common.{◌≡◌, ◌≤◌, ◌<◌, ◌+◌, length, ap, sym, refl, ◌∙◌, arith}
use Rattle.std.proofs.lemmas.List.{length-take-le}
use Rattle.pool_types.specs.Contents.{Contents}
use Rattle.record_walk.proofs.Listings.{after-ok}
use Rattle.pool_contents.specs.Extended.{extended_between}
use Rattle.pool_contents.specs.Growing.{first_extension}
use Rattle.pool_contents.specs.Inner.{contents_in}
use Rattle.pool_contents.specs.declared.growing.GrowingPool.{GrowingPool}
use Rattle.pool_contents.proofs.Extending.{extended-all, extended-more, extended-none}
use Rattle.pool_contents.proofs.growing.GrowingPool.extend_messages.Goals as goal

first-is : (p : GrowingPool) → first_extension p ≡ p.base.extensions
first-is p = length-take-le p.base.extensions p.inner.extensions.items p.extensions_within

pub loop-index-init : goal.loop-index-init
loop-index-init c =
    let p = c.args.self.now in
    let xs = p.inner.extensions.items in
    let ms = p.inner.messages.items in
    let none = ap (λ end. extended_between (first_extension p) end xs ms) (sym (first-is p)) ∙ extended-none (first_extension p) xs ms in
    record {
      is = λ i. record (contents_in p.inner) { messages = sym none i };
      base = refl;
    }

-- there are as many extensions as there were
pub extend_message-extended-requires : goal.extend_message-extended-requires
extend_message-extended-requires c =
    let many = ap (λ (x : Contents). length x.extensions) c.loop-index.invariant.is in
    omega (arith, many, c.loop-index-test.true, c.len-index-end.ensures)

-- one more is in the list of its message
pub loop-index-preserved : goal.loop-index-preserved
loop-index-preserved c =
    let p = c.args.self.now in
    let k = c.loop-index.index in
    let xs = p.inner.extensions.items in
    let is = c.loop-index.invariant.is in
    let from : first_extension p ≤ k = omega (arith, first-is p, c.loop-index.auto.index) in
    let below : k < length xs = omega (arith, c.loop-index-test.true, c.len-index-end.ensures) in
    let next = ap (λ (y : Contents). extended_between k (k + 1) y.extensions y.messages) is ∙ extended-more (first_extension p) k xs p.inner.messages.items from below in
    record {
      is = after-ok c.extend_message-extended.result c.if-is_err.ensures.value c.extend_message-extended.ensures.ok ∙ (λ i. record (is i) { messages = next i });
      base = c.extend_message-extended.ensures.base ∙ c.loop-index.invariant.base;
    }

pub returns-clause-ok : goal.returns-clause-ok
returns-clause-ok c =
    let p = c.args.self.now in
    let xs = p.inner.extensions.items in
    let all = extended-all (first_extension p) xs p.inner.messages.items c.loop-index.index (omega (arith, c.loop-index-test.false, c.len-index-end.ensures)) in
    c.loop-index.invariant.is ∙ (λ i. record (contents_in p.inner) { messages = all i })
