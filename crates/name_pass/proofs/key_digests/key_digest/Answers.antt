use Rattle.std.proofs.Common.{ap, sym, arith, ◌∙◌}
use Rattle.std.proofs.lemmas.List.{drop_all}
use Rattle.name_pass.specs.KeyDigests.{digest_from}
use Rattle.name_pass.proofs.KeyBytes.{digest-key}
use Rattle.name_pass.proofs.key_digests.key_digest.Goals as goal

-- the digest of all bytes of the name is that of its key
pub returns : goal.returns
returns c =
    let ends = c.loop-byte-test.false in
    ap (digest_from c.loop-byte.digest) (sym (drop_all c.loop-byte.byte-index c.args.name.now (omega arith))) ∙ c.loop-byte.invariant ∙ sym (digest-key c.args.name.now _)
