-- The batch of some inputs: the files of their sets, joined.
use Rattle.std.specs.Prelude.{◌≡◌, ℕ, List, [], ◌∷◌, Result, Ok, Err}
use Rattle.std.specs.Option.{option_map_or}
use Rattle.wire_format.specs.declared.fault.WireFault.{WireFault}
use Rattle.joined_files.specs.Joining.{Joined, files_joined, none_joined, with_set}
use Rattle.joined_files.specs.declared.joining.JoinedFiles.{JoinedFiles}
use Rattle.proto_types.specs.declared.file.FileDescriptorProto.{FileDescriptorProto}
use Rattle.proto_types.specs.declared.file.FileDescriptorSet.{FileDescriptorSet}
use Rattle.descriptor_decoding.specs.Decoding.{file_set_of}
use Rattle.descriptor_check.specs.declared.inputs.Input.{Input}
use Rattle.descriptor_check.specs.declared.batches.Flaw.{Flaw}
use Rattle.descriptor_check.specs.Guises.{guise_of}
use Rattle.descriptor_check.specs.declared.batches.Flaw.TheVariants.{Bytes, Foreign, NoFiles}
use Rattle.descriptor_check.specs.declared.batches.NotASet.{NotASet}
use Rattle.descriptor_check.specs.declared.batches.BatchError.{BatchError}
use Rattle.descriptor_check.specs.declared.batches.BatchError.TheVariants as error

-- the files of a set that has some
abbrev pub some_files : List ℕ → List FileDescriptorProto
    → Result (List FileDescriptorProto) NotASet
some_files name [] = Err (record { name = name; flaw = NoFiles })
some_files name (f ∷ fs) = Ok (f ∷ fs)

-- what is wrong with bytes that have a fault, by what they look like
abbrev pub flaw_of : List ℕ → WireFault → Flaw
flaw_of bytes fault = option_map_or (λ guise. Foreign guise fault) (guise_of bytes) (Bytes fault)

-- the files of a set that was read, or what is wrong with its bytes
abbrev pub files_read : Input → Result FileDescriptorSet WireFault
    → Result (List FileDescriptorProto) NotASet
files_read input (Ok set) = some_files input.name set.file
files_read input (Err fault) =
    Err (record { name = input.name; flaw = flaw_of input.bytes fault })

-- the files of an input, or why it is no set
abbrev pub input_files : Input → Result (List FileDescriptorProto) NotASet
input_files input = files_read input (file_set_of input.bytes)

-- what follows where something is there
abbrev pub and_then : {A B E : Type 0} → Result A E → (A → Result B E) → Result B E
and_then (Ok x) f = f x
and_then (Err e) f = Err e

-- the files so far and those of further inputs, or the first input that is no set
abbrev pub batch_behind : Joined → List Input → Result JoinedFiles NotASet
batch_behind joined [] = Ok (files_joined joined)
batch_behind joined (i ∷ is) =
    and_then (input_files i) (λ files. batch_behind (with_set joined i.name files) is)

-- the batch of some inputs and what was left out of it, or the first that is no set
unfoldable pub batch_of : List Input → Result JoinedFiles NotASet
batch_of inputs = batch_behind none_joined inputs

-- an input that is no set, as an error
abbrev pub no_set : Input → Flaw → BatchError
no_set input flaw = error.NotASet (record { name = input.name; flaw = flaw })

-- what a call gave is a result, unless memory was refused
abbrev pub Reads : {M : Type 0} → Result M BatchError → Result M NotASet → Type 0
Reads (Ok m) r = r ≡ Ok m
Reads (Err (error.NotASet n)) r = r ≡ Err n
Reads (Err error.OutOfMemory) r = Unit {0}
