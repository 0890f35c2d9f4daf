use Rattle.std.proofs.lemmas.Grind.{common_steps}
use Rattle.std.proofs.Common.{[], ◌∷◌, ◌++◌, ap, ◌∙◌, arith}
use Rattle.pool_types.specs.Contents.{Contents}
use Rattle.pool_contents.proofs.Returned.{added-more, left-more}
use Rattle.pool_contents.proofs.growing.GrowingPool.add_files.Goals as goal

-- one more file is there, and an empty one in its place
pub loop-index-preserved : goal.loop-index-preserved
loop-index-preserved c =
    let was = c.loop-index.invariant in
    let k = c.loop-index.index in
    let new = c.args.new.now in
    let fs = c.reserve.new.self.items in
    let file = c.replace-file.result in
    let taken = c.replace-file.ensures.value in
    let files = c.in_ok-push.ensures.items
    ∙ (λ i. ap (λ (x : Contents). x.files) was.is i ++ c.unlinked.ensures i ∷ [])
    ∙ added-more fs c.loop-index.new new k file c.index-new-index.result c.loop-index-test.true was.left taken in
    record {
      is = λ i. record (was.is i) { files = files i };
      kept = grind (arith, common_steps);
      left = left-more k c.loop-index.new new _ was.left;
    }
