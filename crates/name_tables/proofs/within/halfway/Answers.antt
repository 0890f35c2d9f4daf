use Rattle.std.proofs.Common.{◌≤◌, ◌≢◌, ℕ, subst, sym, arith}
use Rattle.name_tables.specs.Tree.{HasParent}
use Rattle.name_tables.proofs.Counterparts.{over-more, over-next}
use Rattle.name_tables.specs.Within.{IsAbove}
use Rattle.name_tables.proofs.within.halfway.Goals.{then-is_power_of_two, else-is_power_of_two}
use Rattle.name_tables.proofs.within.halfway.Goals as goal

pub loop-end-init : goal.loop-end-init
loop-end-init c =
    let some : c.args.at ≢ 0 = omega arith in
    let over = over-next c.args.branches.now c.requires.tree c.args.at c.parent-end.result some c.parent-end.ensures in
    (over, over, λ _. c.parent-end.ensures, omega (arith, over.0))

pub loop-end-preserved : goal.loop-end-preserved
loop-end-preserved c =
    let branches = c.args.branches.now in
    let at = c.args.at in
    let end = c.loop-end.end in
    let above = c.parent-end-in-loop-end in
    let some : end ≢ 0 = omega arith in
    let over : IsAbove branches end at = c.loop-end.invariant.0 in
    let before = over-next branches c.requires.tree end above.result some above.ensures in
    let IsMiddle : (k : ℕ) → Type 0 = λ k. IsAbove branches k at × (k ≤ c.args.from → HasParent branches at k) in
    let middle : IsMiddle c.if-is_power_of_two.middle = elim c.if-is_power_of_two.branch [
      | then-is_power_of_two w ↦ subst IsMiddle (sym w.middle-is) (over, λ low. absurd (omega (arith, low)))
      | else-is_power_of_two w ↦ subst IsMiddle (sym w.middle-is) (c.loop-end.invariant.1, c.loop-end.invariant.2)
    ] in
    (over-more branches c.requires.tree at end above.result some over above.ensures, middle.0, middle.1, omega (arith, c.loop-end.invariant.3, before.0))
