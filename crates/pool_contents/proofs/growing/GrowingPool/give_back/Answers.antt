use Rattle.std.proofs.Common.{◌≤◌, ◌+◌, ◌<◌, drop, length, ap, sym, ◌∙◌, arith}
use Rattle.std.proofs.lemmas.List.{length-set, take-set-le}
use Rattle.record_walk.specs.declared.counts.Counts.{Counts}
use Rattle.pool_types.specs.declared.contents.file.FileDescriptorInner.{FileDescriptorInner}
use Rattle.pool_contents.specs.Growing.{new_records, records_from, rolled_back}
use Rattle.pool_contents.proofs.Returned.{given-more, left-more, record-at, records-set, same-here}
use Rattle.pool_contents.proofs.growing.GrowingPool.give_back.Goals as goal

-- one more record is given back
pub loop-index-preserved : goal.loop-index-preserved
loop-index-preserved c =
    let old = c.args.self.now in
    let was = c.loop-index.invariant in
    let q = c.loop-index.self in
    let k = c.loop-index.index in
    let fs = q.inner.files.items in
    let first = old.base.files in
    let item = c.index_mut-item.result.now in
    let left_there : FileDescriptorInner = record item { raw = c.swap.new.y } in
    let records = c.loop-index.records in
    let all = new_records old in
    let here : k < length records = omega (arith, c.loop-index-test.true, c.loop-index.auto.records) in
    let there : k < length all = omega (arith, c.loop-index-test.true, c.requires) in
    let raw = ap (λ (f : FileDescriptorInner). f.raw) c.index_mut-item.ensures.value ∙ sym (record-at first k fs item)
    ∙ same-here k (records_from first fs) all item.raw was.left in
    let before : q.base.files ≤ first + k = omega (arith, ap (λ (n : Counts). n.files) was.base) in
    record {
      given = given-more records all k _ item.raw here there was.given (c.swap.ensures.x_after ∙ raw);
      left = ap (drop (k + 1)) (records-set first k fs left_there) ∙ left-more k (records_from first fs) all _ was.left;
      kept = (λ i. record (rolled_back q) { files = take-set-le q.base.files fs (first + k) left_there before i }) ∙ was.kept;
      base = was.base;
      many = length-set fs (first + k) left_there ∙ was.many;
    }
