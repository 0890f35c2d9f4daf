use Rattle.std.proofs.Common.{rules, arith}
use mir.Syntax.{w32}
use Rattle.std.proofs.lemmas.Int.{to_z_pos}
use Rattle.std.proofs.lemmas.Grind.{common_steps}
use Rattle.link_script.proofs.NumberLists.{few-value, digits-only, digits-cut}
use Rattle.link_script.proofs.script.values.first_number.Goals as goal

pub overflow_cast-result : goal.overflow_cast-result
overflow_cast-result c =
    let small = few-value _ c.leading_digits-count.result.0 9 (omega arith) c.leading_digits-count.ensures.digits in
    record { sfits = omega (arith, small) }

pub overflow_cast-result-2 : goal.overflow_cast-result-2
overflow_cast-result-2 c =
    let small = few-value _ c.leading_digits-count.result.0 9 (omega arith) c.leading_digits-count.ensures.digits in
    record { sfits = omega (arith, small) }

pub returns-then-count-text : goal.returns-then-count-text
returns-then-count-text c =
    let n = c.leading_digits-count.result.0 in
    let digits = c.leading_digits-count.ensures.digits in
    let small = few-value _ n 9 (omega arith) digits in
    let whole = to_z_pos w32 c.leading_digits-count.result.1 (omega (arith, small)) in
    let only = digits-only c.args.text.now n (omega arith) (omega arith) (omega arith) (search rules) in
    grind (arith, common_steps, whole, only)

pub returns : goal.returns
returns c =
    let n = c.leading_digits-count.result.0 in
    let digits = c.leading_digits-count.ensures.digits in
    let small = few-value _ n 9 (omega arith) digits in
    let whole = to_z_pos w32 c.leading_digits-count.result.1 (omega (arith, small)) in
    let cut = digits-cut c.args.text.now c.parted.result.1.now n (omega arith) (omega arith) (omega arith) (search rules) (search rules) (search rules) in
    grind (arith, common_steps, whole, cut)
