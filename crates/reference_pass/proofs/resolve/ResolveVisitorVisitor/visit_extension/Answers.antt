use Rattle.std.proofs.Common.{ap, ◌∙◌, ◌++◌, ◌∷◌, []}
use Rattle.record_walk.specs.Shown.{Shown, shown_as}
use Rattle.std.proofs.lemmas.Result.{on_ok_weaker}
use Rattle.record_walk.specs.Protos.{of_extension}
use Rattle.reference_pass.specs.Items.{extension_item}
use Rattle.reference_pass.specs.Reading.{setting_of}
use Rattle.reference_pass.proofs.Seen.{none, one-behind, seen}
use Rattle.reference_pass.proofs.Readings.{same-setting}
use Rattle.reference_pass.proofs.resolve.ResolveVisitorVisitor.visit_extension.Goals as goal

-- its item is made, and what it breaks is told
pub returns-clause-ok : goal.returns-clause-ok
returns-clause-ok c =
    let v = c.args.self.now in
    let x = c.args.extension.now in
    let d : Shown = shown_as c.args.path.now c.args.full_name.now c.args.file c.args.parent c.args.index (of_extension x) in
    let reads = c.in_ok-item.ensures.faults in
    on_ok_weaker c.push_extension.result (λ pushed. seen v c.push_extension.new.self c.read_extension.new.reading d (same-setting reads) c.requires
    (λ i. record {
      messages = none (λ j. (c.push_extension.ensures.messages j).items) i;
      enums = none (λ j. (c.push_extension.ensures.enums j).items) i;
      services = none (λ j. (c.push_extension.ensures.services j).items) i;
      extensions = one-behind v.pool.extensions.now v.items.extensions.items (extension_item (setting_of v.reading) d x ∷ []) (pushed ∙ ap (λ y. v.items.extensions.items ++ y ∷ []) c.in_ok-item.ensures.item) i;
      faults = reads.told.told i;
    })) c.push_extension.ensures.ok
