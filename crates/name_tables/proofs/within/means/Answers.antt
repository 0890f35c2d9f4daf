use Rattle.std.proofs.Common.{◌≡◌, Some, ap, sym, ◌∙◌}
use Rattle.std.specs.Option.{option_copied}
use Rattle.std.proofs.lemmas.Option.{same_Some}
use Rattle.pool_types.specs.Exact.{definition-exact}
use Rattle.name_tables.specs.Entered.{value_at}
use Rattle.name_tables.proofs.within.means.Goals as goal

pub returns-in-Some : goal.returns-in-Some
returns-in-Some c =
    let other = c.in-Some.other.now in
    let means : value_at c.args.branches.now.definitions c.args.at ≡ Some other = sym c.get.ensures ∙ ap option_copied c.in-Some.is in
    let exact = definition-exact other c.args.definition.now in (
      λ yes. means ∙ ap Some (exact.0 (sym c.eq.ensures ∙ yes)),
      λ is. c.eq.ensures ∙ exact.1 (same_Some other c.args.definition.now (sym means ∙ is)),
    )
