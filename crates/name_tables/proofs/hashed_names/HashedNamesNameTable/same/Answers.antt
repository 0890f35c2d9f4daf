use Rattle.std.proofs.Common.{sym, ◌∙◌}
use Rattle.pool_types.specs.Exact.{definition-exact}
use Rattle.plain_data.proofs.Texts.{by_text-Decides}
use Rattle.name_tables.proofs.hashed_names.HashedNamesNameTable.same.Goals as goal

pub returns : goal.returns
returns c =
    let decides = by_text-Decides c.self.inside.table c.other.inside.table definition-exact c.eq.result c.eq.ensures in (
      λ yes. sym c.self.view_is ∙ decides.0 yes ∙ c.other.view_is,
      λ same. decides.1 (c.self.view_is ∙ same ∙ sym c.other.view_is),
    )
