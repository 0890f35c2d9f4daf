use Rattle.std.proofs.Common.{ap, sym, ◌∙◌}
use Rattle.std.specs.FinMap as map
use Rattle.plain_data.proofs.Texts.{get-by_text}
use Rattle.name_tables.proofs.hashed_names.HashedNamesNameTable.get.Goals as goal

pub returns : goal.returns
returns c =
    c.get.ensures.value
    ∙ sym (get-by_text c.self.inside.table c.args.name.now)
    ∙ ap (λ names. map.get names c.args.name.now) c.self.view_is
