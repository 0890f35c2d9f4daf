use Rattle.std.proofs.Common.{sym, ◌∙◌, ◌++◌}
use Rattle.std.specs.Option.{option_map}
use Rattle.field_rules.proofs.Latest.{keyed-more, listed-option}
use Rattle.field_rules.proofs.field_names.json_name_list.Goals as goal

-- one more name stands behind the others, if there is one
pub loop-position-preserved : goal.loop-position-preserved
loop-position-preserved c =
    let i = c.loop-position.position in
    let f = c.index-fields-position.result in
    let own = listed-option (option_map (λ name. (name, i)) f.json_name) in
    c.in_ok-push_json_name.ensures
    ∙ (λ j. c.loop-position.invariant j ++ own j)
    ∙ sym (keyed-more (λ g. g.json_name) c.args.fields.now i f c.loop-position-test.true c.index-fields-position.is)
