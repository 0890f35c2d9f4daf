use Rattle.std.proofs.Common.{ap, ◌∙◌, ◌++◌, ◌∷◌, []}
use Rattle.record_walk.specs.Shown.{Shown, shown_as}
use Rattle.std.proofs.lemmas.Result.{on_ok_weaker}
use Rattle.record_walk.specs.Protos.{of_message}
use Rattle.reference_pass.proofs.Seen.{none, none-behind, seen}
use Rattle.reference_pass.proofs.Readings.{same-setting}
use Rattle.reference_pass.proofs.resolve.ResolveVisitorVisitor.visit_message.Goals as goal

-- its item is made, and what it breaks is told
pub returns-clause-ok : goal.returns-clause-ok
returns-clause-ok c =
    let v = c.args.self.now in
    let m = c.args.message.now in
    let d : Shown = shown_as c.args.path.now c.args.full_name.now c.args.file c.args.parent c.args.index (of_message m) in
    let reads = c.in_ok-item.ensures.faults in
    on_ok_weaker c.push_message.result (λ pushed. seen v c.push_message.new.self c.read_message.new.reading d (same-setting reads) c.requires
    (λ i. record {
      messages = (pushed ∙ ap (λ x. v.items.messages.items ++ x ∷ []) c.in_ok-item.ensures.item) i;
      enums = none (λ j. (c.push_message.ensures.enums j).items) i;
      services = none (λ j. (c.push_message.ensures.services j).items) i;
      extensions = none-behind v.pool.extensions.now (λ j. (c.push_message.ensures.extensions j).items) i;
      faults = reads.told.told i;
    })) c.push_message.ensures.ok
