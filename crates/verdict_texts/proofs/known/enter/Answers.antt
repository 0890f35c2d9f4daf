use Rattle.std.proofs.Common.{rules, ◌≡◌, None, [], ◌∷◌, sym, subst}
use Rattle.std.specs.FinMap as map
use Rattle.pool_types.specs.Contents.{ByText}
use Rattle.verdict_texts.specs.Named.{Enters}
use Rattle.verdict_texts.proofs.Entering.{enters-new}
use Rattle.verdict_texts.proofs.Results.{on-ok}
use Rattle.verdict_texts.proofs.known.enter.Goals as goal

-- a name that had none is entered
pub returns : goal.returns
returns c =
    let old = c.args.names.now in
    let name = c.args.name.now in
    let none : map.get old name ≡ None = search rules in
    on-ok c.insert.result (λ is. subst (λ (m : ByText _). Enters old m c.args.at (name ∷ [])) (sym is) (enters-new old name c.args.at none)) c.insert.ensures.ok
