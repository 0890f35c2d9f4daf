use Rattle.std.proofs.Common.{arith}
use Rattle.descriptor_encoding.proofs.Varints.{varint-last, digit-put}
use Rattle.descriptor_encoding.proofs.wire.+varint.Goals as goal

pub put_varint-returns-then-number-lt128 : goal.put_varint-returns-then-number-lt128
put_varint-returns-then-number-lt128 t c = rw (varint-last c.args.number (omega arith)) c.put_byte.ensures

pub put_long_varint-returns : goal.put_long_varint-returns
put_long_varint-returns t c = grind (arith, digit-put, c.put_byte.ensures, c.in_ok-put_varint.ensures)
