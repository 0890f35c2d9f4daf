use Rattle.std.proofs.Common.{ap, sym, ◌∙◌, subst}
use Rattle.std.specs.Str.{IsCharBoundary}
use Rattle.proto_types.specs.Names.{join}
use Rattle.field_rules.proofs.identities.identity_of_field.Goals as goal

-- the name of a field ends the name joined to its scope
pub returns-clause-begins : goal.returns-clause-begins
returns-clause-begins c =
    let full_name = c.in_ok-next.ensures.name ∙ ap (join c.args.message.full_name.now) (sym c.name.ensures) in
    subst (λ text. IsCharBoundary text c.index_inside.result) (sym full_name) c.index_inside.ensures.begins
