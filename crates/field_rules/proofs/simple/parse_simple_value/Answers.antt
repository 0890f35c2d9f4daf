use Rattle.std.proofs.Common.{sym}
use Rattle.std.proofs.lemmas.Result.{err_from_is_err_and}
use Rattle.field_rules.proofs.Values.{value-of-bytes, value-of-refused}
use Rattle.field_rules.proofs.simple.parse_simple_value.Goals as goal

pub returns-in_err-bytes-in-Bytes : goal.returns-in_err-bytes-in-Bytes
returns-in_err-bytes-in-Bytes c =
    let p = err_from_is_err_and c.from_residual-in_err-bytes-in-Bytes.result c.from_residual-in_err-bytes-in-Bytes.ensures.1 in
    rw (p.1, p.2, c.in-Bytes.is) (value-of-refused c.args.text.now c.in_err-bytes-in-Bytes.field-0.0 c.in_err-bytes-in-Bytes.ensures)

pub returns-in_ok-bytes-in-Bytes : goal.returns-in_ok-bytes-in-Bytes
returns-in_ok-bytes-in-Bytes c =
    rw (c.in-Bytes.is, c.from_vec.ensures) (sym (value-of-bytes c.args.text.now c.in_ok-bytes-in-Bytes.bytes.items c.in_ok-bytes-in-Bytes.ensures))
