use Rattle.std.proofs.Common.{◌≢◌, ◌<◌, ℕ, length, get_or, subst}
use Rattle.std.proofs.lemmas.List.Splits.{slice_split_none}
use Rattle.name_tables.proofs.NameParts.{is_dot, undotted}
use Rattle.name_tables.proofs.parts.is_part.Goals as goal

pub returns : goal.returns
returns c = λ none.
    slice_split_none is_dot c.args.name.now
    (undotted c.args.name.now (subst (λ bytes. (i : ℕ) → i < length bytes → get_or bytes i 0 ≢ 46) c.as_bytes.ensures.value (c.has_no_dot.ensures none)))
