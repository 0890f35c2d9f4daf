use Rattle.std.proofs.Common.{◌≡◌, Ok, None, Some, sym, arith, rules}
use Rattle.std.proofs.lemmas.Result.{err_from_is_err_and}
use Rattle.field_rules.specs.EscapeCode.{next_byte}
use Rattle.field_rules.proofs.Reading.{next-none, next-some, next-shorter, next-fault}
use Rattle.field_rules.proofs.escapes.unescape_c_escape_string.Goals as goal

pub returns-in_err-byte : goal.returns-in_err-byte
returns-in_err-byte c =
    let p = err_from_is_err_and c.from_residual.result c.from_residual.ensures.1 in
    rw (p.1, p.2) (next-fault c.args.text.now c.loop-bytes.bytes.items c.loop-bytes.rest.now c.in_err-byte.field-0.0 c.loop-bytes.invariant (sym c.in_err-byte.ensures))

pub loop-bytes-smaller : goal.loop-bytes-smaller
loop-bytes-smaller c =
    let next : next_byte c.loop-bytes.rest.now ≡ Ok (Some (c.in-Some.byte, c.in-Some.after.now)) = sym (rw c.in-Some.is at c.in_ok-byte.ensures) in
    omega (arith, next-shorter c.loop-bytes.rest.now c.in-Some.byte c.in-Some.after.now next)

pub loop-bytes-preserved : goal.loop-bytes-preserved
loop-bytes-preserved c =
    let next : next_byte c.loop-bytes.rest.now ≡ Ok (Some (c.in-Some.byte, c.in-Some.after.now)) = sym (rw c.in-Some.is at c.in_ok-byte.ensures) in
    rw c.in_ok-push.ensures.items (next-some c.args.text.now c.loop-bytes.bytes.items c.loop-bytes.rest.now c.in-Some.byte c.in-Some.after.now c.loop-bytes.invariant next)

pub returns : goal.returns
returns c =
    let next : next_byte c.loop-bytes.rest.now ≡ Ok None = sym (rw c.in_default.is at c.in_ok-byte.ensures) in
    next-none c.args.text.now c.loop-bytes.bytes.items c.loop-bytes.rest.now c.loop-bytes.invariant next

pub loop-bytes-init : goal.loop-bytes-init
loop-bytes-init c = search rules
