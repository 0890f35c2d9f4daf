use Rattle.std.proofs.Common.{◌+◌, ◌*◌}
use Rattle.descriptor_encoding.proofs.wire.+varint.Given as goal

-- a number, and then its parts
abbrev pub decreases-put_varint : goal.decreases-put_varint
decreases-put_varint l = 2 * l.number + 1

abbrev pub decreases-put_long_varint : goal.decreases-put_long_varint
decreases-put_long_varint l = 2 * l.number
