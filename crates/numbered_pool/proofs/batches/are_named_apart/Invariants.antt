use Rattle.std.proofs.Common.{◌≡◌, map, take}
use Rattle.plain_data.specs.Digests.{digest_after}
use Rattle.proto_types.specs.Readers.{text_of}
use Rattle.numbered_pool.proofs.batches.are_named_apart.Given as goal

-- the digests of the files so far
abbrev pub invariant-loop-file : goal.invariant-loop-file
invariant-loop-file l = l.digests.items ≡ map (λ f. digest_after 0 (text_of f.name)) (take l.file-index l.files)
