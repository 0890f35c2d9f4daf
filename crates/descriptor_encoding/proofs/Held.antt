-- The fields of records that items hold.
use Rattle.std.proofs.Common.{◌≡◌, ℕ, List, [], ◌∷◌, map, refl, ap, ◌∙◌}
use Rattle.std.proofs.lemmas.List.{append-nil}
use Rattle.wire_format.specs.Encoding.{Numbered, encoding}
use Rattle.pool_types.specs.declared.contents.file.FileDescriptorInner.{FileDescriptorInner}
use Rattle.descriptor_encoding.specs.Encoding.{linked_encoding}
use Rattle.descriptor_encoding.specs.Fronts.{Front, Kept, bytes_of, in_front}
use Rattle.descriptor_encoding.specs.Parts.{messages_listed}
use Rattle.descriptor_encoding.specs.Files.{file_listed}

held : (fs : List FileDescriptorInner) → map (λ (f : FileDescriptorInner). file_listed f.raw) fs ≡ map file_listed (map (λ (f : FileDescriptorInner). f.raw) fs)
held [] = refl
held (f ∷ fs) = ap (λ (ls : List (List Numbered)). file_listed f.raw ∷ ls) (held fs)

pub held_listed : (n : ℕ) (fs : List FileDescriptorInner)
    → encoding (messages_listed n (map (λ (f : FileDescriptorInner). file_listed f.raw) fs)) ≡ encoding (messages_listed n (map file_listed (map (λ (f : FileDescriptorInner). f.raw) fs)))
held_listed n fs = ap (λ (ls : List (List Numbered)). encoding (messages_listed n ls)) (held fs)

-- the bytes in front of which none were
pub all_put : (fs : List FileDescriptorInner) (out : Front) → out ≡ in_front (encoding (messages_listed 1 (map (λ (f : FileDescriptorInner). file_listed f.raw) fs))) (Kept [])
    → bytes_of out ≡ linked_encoding fs
all_put fs out is = ap bytes_of is ∙ append-nil (encoding (messages_listed 1 (map (λ (f : FileDescriptorInner). file_listed f.raw) fs))) ∙ held_listed 1 fs
