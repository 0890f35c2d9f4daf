use Rattle.descriptor_decoding.proofs.Ascii.{four-low}
use Rattle.descriptor_decoding.proofs.utf8.are_four_ascii.Goals as goal

pub returns : goal.returns
returns c = four-low _ _ _ c.type_inv.bytes c.from_le_bytes-word.ensures
