use Rattle.std.proofs.Common.{◌≡◌, map, take, length}
use Rattle.name_pass.specs.KeyDigests.{digest_at}
use Rattle.name_pass.proofs.key_digests.few_are_distinct.Given as goal

-- the digests of the fields so far stand first
abbrev pub invariant-loop-position : goal.invariant-loop-position
invariant-loop-position l = record {
  many : length l.digests ≡ 32;
  front : take l.position l.digests ≡ map digest_at (take l.position l.fields);
}
