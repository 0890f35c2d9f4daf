-- Files as one batch, in which each name stands once.
use Rattle.std.specs.Prelude.{ℕ, ◌+◌, List, ◌++◌, codes, map}
use Rattle.std.specs.Fmt.{decimal}
use Rattle.std.specs.List.{enumerate_from}
use Rattle.joined_files.specs.Joining.{files_joined, joined_all}
use Rattle.joined_files.specs.declared.joining.JoinedFiles.{JoinedFiles}
use Rattle.joined_files.specs.declared.unequal.SetFile.{SetFile}
use Rattle.proto_types.specs.declared.file.FileDescriptorProto.{FileDescriptorProto}

-- what a file is called among others, by its position from 0: its number from 1
abbrev pub file_words : ℕ → List ℕ
file_words position = codes "file " ++ decimal (position + 1)

-- a file with its position, under what it is called
abbrev pub called : ℕ × FileDescriptorProto → SetFile
called (position, f) = record { set = file_words position; file = f }

-- the batch of some files, and what was left out of it
unfoldable pub batch_of : List FileDescriptorProto → JoinedFiles
batch_of fs = files_joined (joined_all (map called (enumerate_from 0 fs)))
