use Rattle.std.proofs.Common.{sym, subst}
use Rattle.std.specs.Str.{IsCharBoundary}
use Rattle.field_rules.proofs.identities.identity_inside.Goals as goal

-- the name ends the name joined to its scope
pub returns-clause-begins : goal.returns-clause-begins
returns-clause-begins c =
    subst (λ text. IsCharBoundary text c.index_inside.result) (sym c.in_ok-join_text.ensures) c.index_inside.ensures.begins
