use Rattle.std.proofs.Common.{Some, sym, ◌∙◌, ◌++◌, ◌∷◌, []}
use Rattle.proto_types.specs.Readers.{text_of}
use Rattle.field_rules.proofs.Latest.{keyed-more}
use Rattle.field_rules.proofs.field_names.name_list.Goals as goal

-- one more name stands behind the others
pub loop-position-preserved : goal.loop-position-preserved
loop-position-preserved c =
    let i = c.loop-position.position in
    c.in_ok-push.ensures.ok
    ∙ (λ j. c.loop-position.invariant j ++ (c.name.ensures j, i) ∷ [])
    ∙ sym (keyed-more (λ f. Some (text_of f.name)) c.args.fields.now i c.index-fields-position.result c.loop-position-test.true c.index-fields-position.is)
