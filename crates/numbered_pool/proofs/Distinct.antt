-- Files of which no two have one name are a batch as they are.
use Rattle.std.proofs.Common.{◌≡◌, ℕ, ◌+◌, List, [], ◌∷◌, map, refl, sym, ap, subst, ◌∙◌}
use Rattle.std.specs.List.{IsDistinct, enumerate_from}
use Rattle.std.specs.Str.{bytes_eq}
use Rattle.joined_files.specs.Joining.{files_joined, name_in}
use Rattle.joined_files.specs.declared.joining.JoinedFiles.{JoinedFiles}
use Rattle.joined_files.proofs.Distinct.{joined-distinct}
use Rattle.proto_types.specs.Readers.{text_of}
use Rattle.proto_types.specs.declared.file.FileDescriptorProto.{FileDescriptorProto}
use Rattle.numbered_pool.specs.Batches.{batch_of, called}

names-called : (i : ℕ) (fs : List FileDescriptorProto) → map name_in (map called (enumerate_from i fs)) ≡ map (λ f. text_of f.name) fs
names-called i [] = refl
names-called i (f ∷ fs) = ap (λ names. text_of f.name ∷ names) (names-called (i + 1) fs)

files-called : (i : ℕ) (fs : List FileDescriptorProto) → map (λ f. f.file) (map called (enumerate_from i fs)) ≡ fs
files-called i [] = refl
files-called i (f ∷ fs) = ap (λ gs. f ∷ gs) (files-called (i + 1) fs)

-- the batch
abbrev whole : List FileDescriptorProto → JoinedFiles
whole fs = record { files = fs; unequal = [] }

pub distinct : (fs : List FileDescriptorProto) → IsDistinct bytes_eq (map (λ f. text_of f.name) fs) → whole fs ≡ batch_of fs
unfolding batch_of
distinct fs apart =
    let named = subst (IsDistinct bytes_eq) (sym (names-called 0 fs)) apart in
    sym (ap files_joined (joined-distinct (map called (enumerate_from 0 fs)) named) ∙ ap whole (files-called 0 fs))
