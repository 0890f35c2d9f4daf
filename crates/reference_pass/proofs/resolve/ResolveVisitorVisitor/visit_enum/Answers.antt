use Rattle.std.proofs.Common.{ap, ◌∙◌, ◌++◌, ◌∷◌, []}
use Rattle.record_walk.specs.Shown.{Shown, shown_as}
use Rattle.std.proofs.lemmas.Result.{on_ok_weaker}
use Rattle.record_walk.specs.Protos.{of_enum}
use Rattle.reference_pass.proofs.Seen.{none, none-behind, seen}
use Rattle.reference_pass.proofs.Readings.{reads-told, same-setting}
use Rattle.reference_pass.proofs.resolve.ResolveVisitorVisitor.visit_enum.Goals as goal

-- its item is made, and what it breaks is told
pub returns-clause-ok : goal.returns-clause-ok
returns-clause-ok c =
    let v = c.args.self.now in
    let e = c.args.enumeration.now in
    let d : Shown = shown_as c.args.path.now c.args.full_name.now c.args.file c.args.parent c.args.index (of_enum e) in
    let reads = reads-told {r = v.reading} {found = c.read_enum.new.faults} c.in_ok-item.ensures.faults in
    on_ok_weaker c.push_enum.result (λ pushed. seen v c.push_enum.new.self (record v.reading { faults = c.read_enum.new.faults }) d (same-setting reads) c.requires
    (λ i. record {
      messages = none (λ j. (c.push_enum.ensures.messages j).items) i;
      enums = (pushed ∙ ap (λ x. v.items.enums.items ++ x ∷ []) c.in_ok-item.ensures.item) i;
      services = none (λ j. (c.push_enum.ensures.services j).items) i;
      extensions = none-behind v.pool.extensions.now (λ j. (c.push_enum.ensures.extensions j).items) i;
      faults = reads.told.told i;
    })) c.push_enum.ensures.ok
