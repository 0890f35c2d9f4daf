use Rattle.std.proofs.Common.{refl, sym, ◌∙◌}
use Rattle.pool_changes.specs.FieldParts.{part}
use Rattle.pool_changes.specs.Sides.{versions}
use Rattle.pool_changes.proofs.Same.{source_none}
use Rattle.pool_changes.proofs.sides.Telling.is_untold.Goals as goal

-- nothing is told at source where each of its changes has two sides alike
pub returns-clause-source : goal.returns-clause-source
returns-clause-source c none =
    source_none (versions c.args.self) c.args.pair.messages.found.now (part c.args.pair.before) (part c.args.pair.after)
    c.args.pair.messages.before.now c.args.pair.messages.after.now
    (c.if-not-has_names_of.ensures.name refl) (c.if-not-has_kind_of.ensures.typed refl) (c.if-not-has_presence_of.ensures.presence refl)
    (c.if-not-has_oneof_of.ensures refl) (sym c.has_first_of.ensures ∙ none)
