use Rattle.std.proofs.Common.{Ok, Err, arith}
use Rattle.std.proofs.lemmas.Grind.{common_steps}
use Rattle.link_script.proofs.NumberLists.{number-cut, number-only, shorter}
use Rattle.link_script.proofs.script.values.any_first_number.Goals as goal

pub returns-in_err-given_number-in-Some : goal.returns-in_err-given_number-in-Some
returns-in_err-given_number-in-Some c =
    let cut = number-cut (Err c.in_err-given_number-in-Some.field-0.0) c.args.text.now c.in-Some.number.now c.in-Some.rest.now c.in-Some.ensures c.in_err-given_number-in-Some.ensures in
    grind (arith, common_steps, cut)

pub returns-in_err-given_number-in-None : goal.returns-in_err-given_number-in-None
returns-in_err-given_number-in-None c =
    let only = number-only (Err c.in_err-given_number-in-None.field-0.0) c.args.text.now c.in-None.ensures c.in_err-given_number-in-None.ensures in
    grind (arith, common_steps, only)

pub returns-in_ok-given_number-in-Some : goal.returns-in_ok-given_number-in-Some
returns-in_ok-given_number-in-Some c =
    let text = c.args.text.now in
    let cut = number-cut (Ok c.in_ok-given_number-in-Some.field-0) text c.in-Some.number.now c.in-Some.rest.now c.in-Some.ensures c.in_ok-given_number-in-Some.ensures in
    let less = shorter text c.in-Some.number.now c.in-Some.rest.now c.in-Some.ensures in
    grind (arith, common_steps, cut, less)

pub returns-in_ok-given_number-in-None : goal.returns-in_ok-given_number-in-None
returns-in_ok-given_number-in-None c =
    let only = number-only (Ok c.in_ok-given_number-in-None.field-0) c.args.text.now c.in-None.ensures c.in_ok-given_number-in-None.ensures in
    grind (arith, common_steps, only)
