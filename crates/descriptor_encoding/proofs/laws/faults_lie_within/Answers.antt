use Rattle.std.proofs.Common.{length}
use Rattle.proto_types.specs.File.{no_file, no_file_set}
use Rattle.descriptor_decoding.specs.Decoding.{file_of, file_set_of}
use Rattle.descriptor_decoding.specs.Files.{file_merged, file_set_merged}
use Rattle.descriptor_encoding.proofs.Lies.{told, from-told}
use Rattle.descriptor_encoding.proofs.Told.{file-tells, set-tells}
use Rattle.descriptor_encoding.proofs.laws.faults_lie_within.Goals as goal

pub returns : goal.returns
returns c = record {
  set = λ bytes f e. told (length bytes) (file_set_of bytes) f e (from-told 100 (file_set_merged 100) (set-tells 100) (length bytes) bytes no_file_set);
  file = λ bytes f e. told (length bytes) (file_of bytes) f e (from-told 100 (file_merged 100) (file-tells 100) (length bytes) bytes no_file);
}
