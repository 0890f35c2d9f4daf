use Rattle.std.proofs.Common.{◌≡◌, ◌++◌, take, ap, ◌∙◌, arith}
use Rattle.std.proofs.lemmas.Grind.{common_steps}
use Rattle.std.proofs.lemmas.Int.{to_z-of_z}
use Rattle.std.proofs.lemmas.List.{take_all}
use Rattle.protoc_rules.specs.Faults.{each_told}
use Rattle.protoc_rules.specs.Spans.{earlier_overlap}
use Rattle.protoc_rules.proofs.Told.{told_further}
use Rattle.protoc_rules.proofs.spans.tell_pairs.Goals as goal

pub loop-position-preserved : goal.loop-position-preserved
loop-position-preserved c =
    let fits = c.ranges.tag in
    let next = told_further (earlier_overlap c.args.id.now c.args.tag c.args.spans.now) c.args.spans.now c.loop-position.position c.loop-position-test.true in
    let told = simp to_z-of_z at c.in_ok-tell_overlap.ensures in
    simp to_z-of_z (grind (arith, common_steps, next, told))

pub returns : goal.returns
returns c =
    let tell = earlier_overlap c.args.id.now c.args.tag c.args.spans.now in
    let fits = c.ranges.tag in
    let told : c.loop-position.found ≡ c.args.found.now ++ each_told tell (take c.loop-position.position c.args.spans.now) =
    simp to_z-of_z at c.loop-position.invariant in
    told ∙ ap (λ xs. c.args.found.now ++ each_told tell xs) (take_all c.loop-position.position c.args.spans.now c.loop-position-test.false)
