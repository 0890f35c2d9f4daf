use Rattle.std.proofs.Common.{ap, ◌∙◌, length, rules}
use Rattle.plain_data.specs.Maps.{inserted}
use Rattle.field_rules.proofs.Duplicates.{none-read}
use Rattle.field_rules.proofs.maps.FieldMaps.new.Goals as goal

-- the maps of names are whole, and no number is in the other
pub returns : goal.returns
returns c =
    let json_names = c.in_ok-json_names.ensures ∙ ap inserted c.in_ok-json_list.ensures in
    record {
      numbers = c.in_ok-with_capacity.ensures;
      names = c.in_ok-names.ensures ∙ ap inserted c.in_ok-name_list.ensures;
      json_names = json_names;
      earlier = none-read c.earlier_names.result c.len-given.result c.in_ok-json_names.json_names c.args.fields.now c.earlier_names.ensures
          (c.len-given.ensures ∙ ap length c.in_ok-json_list.ensures) json_names;
      numbers_fit = search rules;
    }
