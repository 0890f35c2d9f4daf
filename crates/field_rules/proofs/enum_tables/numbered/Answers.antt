use Rattle.std.proofs.lemmas.Grind.{common_steps}
use Rattle.std.proofs.Common.{◌≡◌, arith, to_z, of_z, w32, ◌++◌, ◌∷◌, [], sym, ◌∙◌}
use Rattle.std.proofs.lemmas.Int.{to_z-of_z}
use Rattle.proto_types.specs.Readers.{number_of}
use Rattle.field_rules.proofs.Positions.{mapped-next}
use Rattle.field_rules.proofs.enum_tables.numbered.Goals as goal

-- one more value is numbered
pub loop-position-preserved : goal.loop-position-preserved
loop-position-preserved c =
    let i = c.loop-position.position in
    let v = c.index-values-position.result in
    let number : to_z w32 (of_z w32 c.number.result) ≡ number_of v.number = grind (arith, to_z-of_z, c.number.ensures) in
    c.in_ok-push.ensures.items
    ∙ (λ j. c.loop-position.invariant j ++ (number j, i) ∷ [])
    ∙ sym (mapped-next (λ e. (number_of e.1.number, e.0)) c.args.values.now i v c.loop-position-test.true c.index-values-position.is)

pub returns : goal.returns
returns c = grind (arith, common_steps)
