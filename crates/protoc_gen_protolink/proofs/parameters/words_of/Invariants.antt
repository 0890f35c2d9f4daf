use Rattle.std.proofs.Common.{◌≡◌, flat_map, map, take}
use Rattle.protoc_gen_protolink.specs.Parameters.{part_words}
use Rattle.protoc_gen_protolink.proofs.parameters.words_of.Given as goal

-- the words of the parts so far
abbrev pub invariant-loop-part : goal.invariant-loop-part
invariant-loop-part l =
    l.words ≡ flat_map part_words (map (λ part. part.now) (take l.part-index l.part-items))
