use Rattle.std.proofs.Common.{◌≡◌, ◌≤◌, length}
use Rattle.wire_format.specs.Fields.{fields}
use Rattle.wire_format.proofs.fields.field_of_tokens.Given as goal

abbrev pub invariant-loop-field : goal.invariant-loop-field
invariant-loop-field l = record {
  same : fields l.levels l.ends l.bytes ≡ fields l.levels l.ends l.rest;
  shorter : length l.rest ≤ length l.bytes;
}

abbrev pub decreases-loop-field : goal.decreases-loop-field
decreases-loop-field l = length l.rest
