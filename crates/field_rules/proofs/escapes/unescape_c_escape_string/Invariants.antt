use Rattle.std.proofs.Common.{length}
use Rattle.field_rules.proofs.Reading.{Reads}
use Rattle.field_rules.proofs.escapes.unescape_c_escape_string.Given as goal

-- the bytes so far stand for what was read of the text
abbrev pub invariant-loop-bytes : goal.invariant-loop-bytes
invariant-loop-bytes l = Reads l.text l.bytes.items l.rest

abbrev pub decreases-loop-bytes : goal.decreases-loop-bytes
decreases-loop-bytes l = length l.rest
