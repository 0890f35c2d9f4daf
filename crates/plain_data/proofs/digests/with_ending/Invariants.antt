use Rattle.std.proofs.Common.{◌≡◌, drop}
use Rattle.plain_data.specs.Digests.{digest_from}
use Rattle.plain_data.proofs.digests.with_ending.Given as goal

-- the bytes that are left make the digest of the whole
abbrev pub invariant-loop-byte : goal.invariant-loop-byte
invariant-loop-byte l = digest_from l.digest (drop l.byte-index l.text) ≡ digest_from l.initial.digest l.text
