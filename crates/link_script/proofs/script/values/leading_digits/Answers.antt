use Rattle.std.proofs.Common.{◌<◌, length, get_or, arith, rules}
use Rattle.std.proofs.lemmas.Int.Digits.{digits_more, digits_value_more}
use Rattle.link_script.proofs.NumberLists.{few-value, digit-worth}
use Rattle.link_script.proofs.script.values.leading_digits.Goals as goal

pub overflow_mul-value : goal.overflow_mul-value
overflow_mul-value c =
    let small = few-value c.args.text.now c.loop-count.count 8 (omega arith) c.loop-count.invariant.digits in
    grind (arith, small)

pub overflow_add-value : goal.overflow_add-value
overflow_add-value c =
    let small = few-value c.args.text.now c.loop-count.count 8 (omega arith) c.loop-count.invariant.digits in
    let worth = digit-worth (get_or c.args.text.now c.loop-count.count 0) (search rules) in
    grind (arith, small, worth)

pub loop-count-preserved : goal.loop-count-preserved
loop-count-preserved c =
    let text = c.args.text.now in
    let count = c.loop-count.count in
    let inside : count < length text = omega arith in
    let worth = digit-worth (get_or text count 0) (search rules) in
    record {
      few = omega arith;
      digits = digits_more 10 text count inside c.loop-count.invariant.digits worth.1;
      value = rw (digits_value_more 10 text count inside, worth.0, ← c.loop-count.invariant.value);
    }
