use Rattle.std.proofs.Common.{◌≡◌, List, [], ◌∷◌, map, nat_eq, refl, subst, ap, ◌∙◌, arith}
use Rattle.std.proofs.lemmas.List.{take_all}
use Rattle.std.specs.List.{IsDistinct}
use Rattle.plain_data.specs.Digests.{digest_after}
use Rattle.plain_data.proofs.Distinct.{distinct-keys}
use Rattle.proto_types.specs.Readers.{text_of}
use Rattle.proto_types.specs.declared.file.FileDescriptorProto.{FileDescriptorProto}
use Rattle.numbered_pool.proofs.batches.are_named_apart.Goals as goal

digests-of : (fs : List FileDescriptorProto) → map (λ f. digest_after 0 (text_of f.name)) fs ≡ map (digest_after 0) (map (λ f. text_of f.name) fs)
digests-of [] = refl
digests-of (f ∷ fs) = ap (λ ds. digest_after 0 (text_of f.name) ∷ ds) (digests-of fs)

-- the digests are those of all names
pub returns : goal.returns
returns c = λ yes.
    let files = c.args.files.now in
    let all = c.loop-file.invariant ∙ ap (map (λ f. digest_after 0 (text_of f.name))) (take_all c.loop-file.file-index files (omega (arith, c.loop-file-test.false))) in
    distinct-keys (digest_after 0) (map (λ f. text_of f.name) files) (subst (IsDistinct nat_eq) (c.deref_mut.ensures.value ∙ all ∙ digests-of files) (c.are_distinct.ensures.distinct.0 yes))
