use Rattle.std.proofs.Common.{◌≡◌, drop, take}
use Rattle.std.specs.List.{All}
use Rattle.proto_types.specs.declared.tag.enum_.TheConstants.{VALUE}
use Rattle.proto_types.specs.Readers.{number_of}
use Rattle.record_walk.specs.Protos.{of_enum, of_value}
use Rattle.plain_data.specs.Each.{map_enumerated}
use Rattle.field_rules.specs.EnumItems.{value_item}
use Rattle.field_rules.specs.InnerNames.{AreNamesBeside}
use Rattle.field_rules.specs.NamesBegin.{BeginsAtBoundary}
use Rattle.record_walk.specs.Place.{shown_at, part_beside}
use Rattle.field_rules.proofs.enum_items.read_values.Given as goal

-- the values so far are read
abbrev pub invariant-loop-position : goal.invariant-loop-position
invariant-loop-position l =
    let d = shown_at l.place (of_enum l.enumeration) in
    record {
      items : l.items.items ≡ map_enumerated (λ i v. value_item (part_beside d VALUE i (of_value v)) (number_of v.number)) 0 (take l.position l.enumeration.value);
      begin : All (λ v. BeginsAtBoundary v.id) l.items.items;
      names : AreNamesBeside l.names l.beside.around.now (drop l.position l.enumeration.value);
    }
