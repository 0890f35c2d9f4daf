use Rattle.std.proofs.Common.{ap, sym, ◌∙◌}
use Rattle.std.specs.FinMap as map
use Rattle.std.specs.Map.{lookup}
use Rattle.std.specs.Str.{bytes_eq}
use Rattle.plain_data.specs.TextRows.{entries_of}
use Rattle.plain_data.proofs.Rows.{get-made_of}
use Rattle.plain_data.proofs.text_rows.TextRows.get_bytes.Goals as goal

pub returns : goal.returns
returns c =
    c.number_of.ensures
    ∙ (λ i. lookup (bytes_eq c.args.key.now) (entries_of (c.as_slice-bytes.ensures.value i) (c.as_slice-rows.ensures.value i)))
    ∙ sym (get-made_of c.self.inside.bytes.items c.self.inside.rows.items c.args.key.now)
    ∙ ap (λ made. map.get made c.args.key.now) c.self.view_is
