use Rattle.std.proofs.Common.{◌≡◌, ap, sym, ◌∙◌, length, rules}
use Rattle.std.proofs.lemmas.List.{length-map}
use Rattle.plain_data.proofs.text_rows.RowList.len.Goals as goal

pub returns : goal.returns
returns c =
    let is : c.len.result ≡ length c.self.inside.rows.items = search rules in
    is ∙ sym (length-map c.self.inside.rows.items _) ∙ ap length c.self.view_is
