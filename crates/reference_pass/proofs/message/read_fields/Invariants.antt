use Rattle.std.proofs.Common.{◌≡◌, drop, take}
use Rattle.std.specs.List.{All}
use Rattle.proto_types.specs.declared.message.DescriptorProto.{out-DescriptorProto}
use Rattle.field_rules.specs.InnerNames.{AreNamesOf}
use Rattle.field_rules.specs.MapsOf.{AreMapsOf}
use Rattle.reference_pass.specs.SecondPass.{faults_of_fields}
use Rattle.reference_pass.specs.Items.{field_items}
use Rattle.reference_pass.specs.Reading.{ReadingTells, setting_of}
use Rattle.field_rules.specs.NamesBegin.{BeginsAtBoundary}
use Rattle.record_walk.specs.Place.{inside_of, message_at}
use Rattle.reference_pass.proofs.message.read_fields.Given as goal

-- the fields so far are read, and entered
abbrev pub invariant-loop-position : goal.invariant-loop-position
invariant-loop-position l =
    let s = setting_of l.initial.reading in
    let m = l.of.owner.message.now in
    let so_far = take l.position (out-DescriptorProto m).field in
    record {
      items : l.items.items ≡ field_items s (out-DescriptorProto m).oneof_decl (inside_of l.of.owner.place) so_far;
      begin : All (λ f. BeginsAtBoundary f.id) l.items.items;
      maps : AreMapsOf l.maps (out-DescriptorProto m).field l.position;
      names : AreNamesOf l.names l.of.owner.place.full_name.now (drop l.position (out-DescriptorProto m).field);
      faults : ReadingTells l.initial.reading l.reading (faults_of_fields s (message_at l.of.owner.place m, m) so_far);
    }
