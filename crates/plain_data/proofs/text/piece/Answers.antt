use Rattle.std.proofs.Common.{◌∙◌, sym, subst, slice_range}
use Rattle.std.specs.Str.{IsUtf8}
use Rattle.std.proofs.lemmas.Str.{IsUtf8-had}
use Rattle.plain_data.proofs.text.piece.Goals as goal

pub from_utf8_unchecked-requires : goal.from_utf8_unchecked-requires
from_utf8_unchecked-requires c =
    subst (λ bytes. IsUtf8 (slice_range bytes c.args.start c.args.end)) (sym (c.as_bytes.ensures.value ∙ c.as_str.ensures.value)) (IsUtf8-had _ c.requires.2)
