-- The messages that bytes encode.
use Rattle.std.specs.Prelude.{ℕ, List, length, Result}
use Rattle.wire_format.specs.declared.fault.WireFault.{WireFault}
use Rattle.proto_types.specs.File.{no_file, no_file_set}
use Rattle.proto_types.specs.declared.file.FileDescriptorProto.{FileDescriptorProto}
use Rattle.proto_types.specs.declared.file.FileDescriptorSet.{FileDescriptorSet}
use Rattle.descriptor_decoding.specs.Merging.{Merge, merged_from}
use Rattle.descriptor_decoding.specs.Files.{file_merged, file_set_merged}

-- What the fields that the bytes say make of an empty message, or the first fault. A hundred levels
-- of messages and groups may lie in the message.
abbrev pub message_of : {M : Type 0} → (ℕ → Merge M) → M → List ℕ → Result M WireFault
message_of merged empty bytes = merged_from 100 (merged 100) (length bytes) bytes empty

-- the set of files that bytes encode, or the first fault
abbrev pub file_set_of : List ℕ → Result FileDescriptorSet WireFault
file_set_of = message_of file_set_merged no_file_set

-- the file that bytes encode, or the first fault
abbrev pub file_of : List ℕ → Result FileDescriptorProto WireFault
file_of = message_of file_merged no_file
