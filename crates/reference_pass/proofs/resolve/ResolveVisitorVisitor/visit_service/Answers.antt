use Rattle.std.proofs.Common.{ap, ◌∙◌, ◌++◌, ◌∷◌, []}
use Rattle.record_walk.specs.Shown.{Shown, shown_as}
use Rattle.std.proofs.lemmas.Result.{on_ok_weaker}
use Rattle.record_walk.specs.Protos.{of_service}
use Rattle.std.specs.declared.option.Option.TheVariants.{None}
use Rattle.reference_pass.proofs.Seen.{none, none-behind, seen}
use Rattle.reference_pass.proofs.Readings.{same-setting}
use Rattle.reference_pass.proofs.resolve.ResolveVisitorVisitor.visit_service.Goals as goal

-- its item is made, and what it breaks is told
pub returns-clause-ok : goal.returns-clause-ok
returns-clause-ok c =
    let v = c.args.self.now in
    let x = c.args.service.now in
    let d : Shown = shown_as c.args.path.now c.args.full_name.now c.args.file None c.args.index (of_service x) in
    let reads = c.in_ok-item.ensures.faults in
    on_ok_weaker c.push_service.result (λ pushed. seen v c.push_service.new.self c.read_service.new.reading d (same-setting reads) c.requires
    (λ i. record {
      messages = none (λ j. (c.push_service.ensures.messages j).items) i;
      enums = none (λ j. (c.push_service.ensures.enums j).items) i;
      services = (pushed ∙ ap (λ y. v.items.services.items ++ y ∷ []) c.in_ok-item.ensures.item) i;
      extensions = none-behind v.pool.extensions.now (λ j. (c.push_service.ensures.extensions j).items) i;
      faults = reads.told.told i;
    })) c.push_service.ensures.ok
