use Rattle.std.proofs.Common.{◌∙◌, ◌++◌, take, arith}
use Rattle.descriptor_linker.proofs.Pieces.{Took-more, rest-taken}
use Rattle.descriptor_linker.proofs.runs.write_all.Goals as goal

pub loop-rest-preserved : goal.loop-rest-preserved
loop-rest-preserved g c =
    let before = c.loop-rest.invariant in
    let wrote = c.in_ok-taken.ensures in
    let rest = c.loop-rest.rest.now in
    let n = c.in_ok-taken.taken in
    let front = before.2.0 ++ take n rest in (
      wrote.failures ∙ before.0,
      wrote.busy (omega arith) ∙ before.1,
      (front, rest-taken _ _ rest n before.2.1, Took-more _ _ _ _ _ before.2.2 wrote.took),
    )
