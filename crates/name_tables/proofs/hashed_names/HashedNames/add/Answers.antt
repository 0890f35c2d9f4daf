use Rattle.std.proofs.Common.{◌∙◌}
use Rattle.std.specs.FinMap as map
use Rattle.plain_data.proofs.Texts.{by_text-insert}
use Rattle.name_tables.proofs.hashed_names.HashedNames.add.Goals as goal

pub returns-clause-ok : goal.returns-clause-ok
returns-clause-ok c =
    by_text-insert c.self.inside.table c.insert.new.self c.in_ok-key.key c.args.definition c.in_ok-insert.ensures.updates
    ∙ (λ i. map.insert (c.self.view_is i) (c.in_ok-key.ensures.ok i) c.args.definition)
