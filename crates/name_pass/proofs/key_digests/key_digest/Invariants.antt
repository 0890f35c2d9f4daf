use Rattle.std.proofs.Common.{◌≡◌, drop}
use Rattle.name_pass.specs.KeyDigests.{digest_from, digest_of}
use Rattle.name_pass.proofs.key_digests.key_digest.Given as goal

abbrev pub invariant-loop-byte : goal.invariant-loop-byte
invariant-loop-byte l = digest_from l.digest (drop l.byte-index l.name) ≡ digest_of l.name
