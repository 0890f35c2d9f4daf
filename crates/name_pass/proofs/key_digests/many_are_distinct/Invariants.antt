use Rattle.std.proofs.Common.{◌≡◌, map, take}
use Rattle.name_pass.specs.KeyDigests.{digest_at}
use Rattle.name_pass.proofs.key_digests.many_are_distinct.Given as goal

-- the digests of the fields so far
abbrev pub invariant-loop-field : goal.invariant-loop-field
invariant-loop-field l = l.digests.items ≡ map digest_at (take l.field-index l.fields)
