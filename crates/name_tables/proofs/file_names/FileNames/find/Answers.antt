use Rattle.std.proofs.Common.{ap, sym, refl, ◌∙◌}
use Rattle.std.specs.FinMap as map
use Rattle.name_tables.proofs.NamedFiles.{get-childless, get-file}
use Rattle.name_tables.proofs.file_names.FileNames.find.Goals as goal

pub returns-in_err-at : goal.returns-in_err-at
returns-in_err-at c =
    c.from_residual.ensures
    ∙ sym (get-childless c.self.inside.tree c.self.inside.files c.self.invariant c.args.name.now (c.in_err-at.ensures.none refl))
    ∙ ap (λ names. map.get names c.args.name.now) c.self.view_is

pub returns : goal.returns
returns c =
    c.copied.ensures ∙ c.get.ensures
    ∙ sym (get-file c.self.inside.tree c.self.inside.files c.self.invariant c.args.name.now c.in_ok-at.at c.in_ok-at.ensures.found)
    ∙ ap (λ names. map.get names c.args.name.now) c.self.view_is
