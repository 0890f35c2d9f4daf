use Rattle.descriptor_decoding.proofs.Ascii.{eight-low}
use Rattle.descriptor_decoding.proofs.utf8.are_eight_ascii.Goals as goal

pub returns : goal.returns
returns c = eight-low _ _ _ c.type_inv.bytes c.from_le_bytes-word.ensures
