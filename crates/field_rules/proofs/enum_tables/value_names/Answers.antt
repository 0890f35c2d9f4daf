use Rattle.std.proofs.Common.{sym, ◌∙◌, ◌++◌, ◌∷◌, []}
use Rattle.proto_types.specs.Readers.{text_of}
use Rattle.field_rules.proofs.Positions.{mapped-next}
use Rattle.field_rules.proofs.enum_tables.value_names.Goals as goal

-- one more name stands behind the others
pub loop-position-preserved : goal.loop-position-preserved
loop-position-preserved c =
    let i = c.loop-position.position in
    let v = c.index-values-position.result in
    let vs = c.args.values.now in
    c.in_ok-push.ensures.ok
    ∙ (λ j. c.loop-position.invariant j ++ (c.name.ensures j, i) ∷ [])
    ∙ sym (mapped-next (λ e. (text_of e.1.name, e.0)) vs i v c.loop-position-test.true c.index-values-position.is)
