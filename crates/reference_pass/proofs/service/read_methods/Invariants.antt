use Rattle.std.proofs.Common.{◌≡◌, take}
use Rattle.std.specs.List.{All}
use Rattle.reference_pass.specs.SecondPass.{faults_of_methods}
use Rattle.reference_pass.specs.Items.{method_items}
use Rattle.reference_pass.specs.Reading.{ReadingTells, setting_of}
use Rattle.field_rules.specs.NamesBegin.{BeginsAtBoundary}
use Rattle.record_walk.specs.Place.{inside_of}
use Rattle.reference_pass.proofs.service.read_methods.Given as goal

-- the methods so far are read
abbrev pub invariant-loop-position : goal.invariant-loop-position
invariant-loop-position l =
    let s = setting_of l.initial.reading in
    let here = inside_of l.service in
    record {
      items : l.items.items ≡ method_items s here (take l.position l.methods);
      begin : All (λ m. BeginsAtBoundary m.id) l.items.items;
      faults : ReadingTells l.initial.reading l.reading (faults_of_methods s here (take l.position l.methods));
    }
