use Rattle.std.proofs.Common.{◌≡◌, ap, sym, ◌∙◌, length, rules}
use Rattle.std.specs.FinMap as map
use Rattle.plain_data.proofs.Rows.{len-made_of}
use Rattle.plain_data.proofs.text_rows.TextRows.len.Goals as goal

pub returns : goal.returns
returns c =
    let is : c.len.result ≡ length c.self.inside.rows.items = search rules in
    is ∙ sym (len-made_of c.self.inside.bytes.items c.self.inside.rows.items c.self.invariant.distinct) ∙ ap map.len c.self.view_is
