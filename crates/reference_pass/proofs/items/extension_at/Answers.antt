use Rattle.std.proofs.Common.{ap, sym, ◌∙◌}
use Rattle.std.specs.Option.{option_and_then, option_copied}
use Rattle.std.specs.Prelude.{slice_get}
use Rattle.pool_types.specs.Extension.{has_number}
use Rattle.plain_data.proofs.Positions.{find-position}
use Rattle.reference_pass.proofs.Entries.{got-at}
use Rattle.reference_pass.proofs.items.extension_at.Goals as goal

-- the first has the position that the message and the number lead to
pub returns : goal.returns
returns c =
    let xs = c.args.extensions.now in
    let key = c.args.key in
    got-at xs c.in_ok-position.position c.get.result c.get.ensures.lookup
    ∙ ap (option_and_then (slice_get xs)) (c.in_ok-position.ensures ∙ c.requires key.0 key.1)
    ∙ sym (find-position (has_number key.0 key.1) xs)

pub returns-in_err-position : goal.returns-in_err-position
returns-in_err-position c =
    let xs = c.args.extensions.now in
    let key = c.args.key in
    ap option_copied c.from_residual.ensures
    ∙ ap (option_and_then (slice_get xs)) (c.in_err-position.ensures ∙ c.requires key.0 key.1)
    ∙ sym (find-position (has_number key.0 key.1) xs)
