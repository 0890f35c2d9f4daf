use Rattle.std.proofs.Common.{length}
use Rattle.proto_types.specs.File.{no_file, no_file_set}
use Rattle.descriptor_decoding.specs.Decoding.{file_of, file_set_of}
use Rattle.descriptor_decoding.specs.Files.{file_merged, file_set_merged}
use Rattle.descriptor_encoding.specs.Whole.{IsFile, IsSet}
use Rattle.descriptor_encoding.proofs.Kept.{if_read, from-kept}
use Rattle.descriptor_encoding.proofs.Read.{file-empty, file-keeps, set-empty, set-keeps}
use Rattle.descriptor_encoding.proofs.laws.read_is_whole.Goals as goal

pub returns : goal.returns
returns c = record {
  set = λ bytes set e. if_read (IsSet 100) (file_set_of bytes) set e (from-kept 100 (file_set_merged 100) (IsSet 100) (set-keeps 100) (length bytes) bytes no_file_set (set-empty 100));
  file = λ bytes file e. if_read (IsFile 100) (file_of bytes) file e (from-kept 100 (file_merged 100) (IsFile 100) (file-keeps 100) (length bytes) bytes no_file (file-empty 100));
}
