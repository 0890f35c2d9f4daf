use Rattle.std.proofs.Common.{length}
use Rattle.descriptor_encoding.specs.Encoding.{file_encoding, set_encoding}
use Rattle.descriptor_encoding.proofs.Types.{file-again, set-again}
use Rattle.descriptor_encoding.proofs.laws.written_is_read.Goals as goal

pub returns : goal.returns
returns c = record {
  set = λ set whole short. set-again 100 set whole (length (set_encoding set)) short;
  file = λ file whole short. file-again 100 file whole (length (file_encoding file)) short;
}
