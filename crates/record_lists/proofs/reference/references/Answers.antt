use Rattle.std.proofs.Common.{ap, map}
use Rattle.record_lists.specs.Code.{reference_of}
use Rattle.record_lists.proofs.ReferencesFound.{left-all, left-next}
use Rattle.record_lists.proofs.reference.references.Goals as goal

pub loop-declaration-init : goal.loop-declaration-init
loop-declaration-init c =
    left-all _ _ _ _ _ (ap (map reference_of) c.new-found.ensures.items) c.from_ref.ensures.value c.in_ok-declaration-items.ensures
    c.into_iter-declaration-iterator.ensures.into_iter_gives.0

pub loop-declaration-preserved : goal.loop-declaration-preserved
loop-declaration-preserved c = left-next _ _ _ _ _ _ c.loop-declaration.invariant c.in-Some.ensures.steps.0 c.in_ok-add_references.ensures
