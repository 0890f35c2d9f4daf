-- The files of a batch are those of the sets that were read.
use Rattle.std.proofs.Common.{◌≡◌, ℕ, Bool, true, false, cond, is_some, map, List, [], ◌∷◌, Option, None, Some, Result, Ok, Err, refl, subst}
use Rattle.std.specs.List.{AllByRecursion}
use Rattle.wire_format.specs.declared.fault.WireFault.{WireFault}
use Rattle.proto_types.specs.declared.file.FileDescriptorProto.{FileDescriptorProto}
use Rattle.proto_types.specs.declared.file.FileDescriptorSet.{FileDescriptorSet}
use Rattle.descriptor_decoding.specs.Decoding.{file_set_of}
use Rattle.joined_files.specs.Differences.{difference}
use Rattle.joined_files.specs.Joining.{Joined, files_joined, is_named, join, joined, kept, kept_by, name_in, none_joined, with_set}
use Rattle.joined_files.specs.declared.differences.FilePart.{FilePart}
use Rattle.joined_files.specs.declared.joining.JoinedFiles.{JoinedFiles}
use Rattle.joined_files.specs.declared.unequal.SetFile.{SetFile}
use Rattle.descriptor_check.specs.Batches.{and_then, batch_behind, batch_of, files_read, input_files, some_files}
use Rattle.descriptor_check.specs.declared.batches.NotASet.{NotASet}
use Rattle.descriptor_check.specs.declared.inputs.Input.{Input}

-- what is true of the files of each set that is read is true of those of a batch
module _ (P : FileDescriptorProto → Type 0) (read : (bytes : List ℕ) (set : FileDescriptorSet) → file_set_of bytes ≡ Ok set → AllByRecursion P set.file) where
  some-all : (name : List ℕ) (fs new : List FileDescriptorProto) → AllByRecursion P fs → some_files name fs ≡ Ok new → AllByRecursion P new
  some-all name [] new all is = absurd (cc)
  some-all name (f ∷ fs) new all is =
      let same : f ∷ fs ≡ new = cc in
      subst (AllByRecursion P) same all

  read-all : (input : Input) (r : Result FileDescriptorSet WireFault) (new : List FileDescriptorProto) → file_set_of input.bytes ≡ r → files_read input r ≡ Ok new → AllByRecursion P new
  read-all input (Ok set) new reads is = some-all input.name set.file new (read input.bytes set reads) is
  read-all input (Err fault) new reads is = absurd (cc)

  -- the files of sets
  abbrev AllIn : List SetFile → Type 0
  AllIn fs = AllByRecursion (λ f. P f.file) fs

  placed-all : (b : Bool) (f g : FileDescriptorProto) → P f → P g → P (cond b f g)
  placed-all true f g one other = one
  placed-all false f g one other = other

  kept-all : (d : Option FilePart) (g f : SetFile) → P g.file → P f.file → P (kept_by d g f).file
  kept-all None g f one other = placed-all (is_some g.file.source_code_info) g.file f.file one other
  kept-all (Some part) g f one other = one

  join-all : (files : List SetFile) (f : SetFile) → AllIn files → P f.file → AllIn (join files f)
  join-all [] f all one = (one, tt)
  join-all (g ∷ gs) f all one =
      elim (is_named (name_in f) g) as (λ b. AllIn (cond b (kept g f ∷ gs) (g ∷ join gs f)))
      [ true ↦ (kept-all (difference g.file f.file) g f all.0 one, all.1) | false ↦ (all.0, join-all gs f all.1 one) ]

  fold-all : (j : Joined) (set : List ℕ) (new : List FileDescriptorProto) → AllIn j.files → AllByRecursion P new → AllIn (with_set j set new).files
  fold-all j set [] all more = all
  fold-all j set (f ∷ fs) all more =
      let file : SetFile = record { set = set; file = f } in
      fold-all (joined j file) set fs (join-all j.files file all more.0) more.1

  records-all : (files : List SetFile) → AllIn files → AllByRecursion P (map (λ (f : SetFile). f.file) files)
  records-all [] all = tt
  records-all (f ∷ fs) all = (all.0, records-all fs all.1)

  -- one input more, by what holds of the inputs behind it
  input-all : (j : Joined) (i : Input) (is : List Input) (batch : JoinedFiles)
      → ((k : Joined) → AllIn k.files → batch_behind k is ≡ Ok batch → AllByRecursion P batch.files) → AllIn j.files
      → (r : Result (List FileDescriptorProto) NotASet) → input_files i ≡ r → and_then r (λ new. batch_behind (with_set j i.name new) is) ≡ Ok batch → AllByRecursion P batch.files
  input-all j i is batch behind all (Ok new) reads made =
      behind (with_set j i.name new) (fold-all j i.name new all (read-all i (file_set_of i.bytes) new refl reads)) made
  input-all j i is batch behind all (Err n) reads made = absurd (cc)

  behind-all : (inputs : List Input) (j : Joined) (batch : JoinedFiles) → AllIn j.files → batch_behind j inputs ≡ Ok batch → AllByRecursion P batch.files
  behind-all [] j batch all made =
      let same : files_joined j ≡ batch = cc in
      subst (λ (b : JoinedFiles). AllByRecursion P b.files) same (records-all j.files all)
  behind-all (i ∷ is) j batch all made = input-all j i is batch (λ k. behind-all is k batch) all (input_files i) refl made

  pub batch-all : (inputs : List Input) (batch : JoinedFiles) → batch_of inputs ≡ Ok batch → AllByRecursion P batch.files
  unfolding batch_of
  batch-all inputs batch made = behind-all inputs none_joined batch tt made
