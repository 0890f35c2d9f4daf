use Rattle.std.proofs.Common.{◌≡◌, ◌∷◌, [], ◌++◌, List, drop, take, sym, ap, ◌∙◌}
use Rattle.std.specs.Option.{option_copied}
use Rattle.plain_data.specs.Lists.{flat_map_after}
use Rattle.pool_faults.specs.declared.label.Label.{Label}
use Rattle.pool_faults.specs.declared.fault.DescriptorErrorKind.{DescriptorErrorKind}
use Rattle.verdict_texts.specs.Places.{is_of, one_if, place_among, place_of}
use Rattle.verdict_texts.specs.Telling.{told_after, told_fault}
use Rattle.verdict_texts.specs.declared.places.Unplaced.TheVariants.{Index}
use Rattle.verdict_texts.proofs.Placing.{after-next, left-next}
use Rattle.verdict_texts.proofs.telling.tell_each.Goals as goal

-- one more fault is told where it stands, and its place is taken
pub loop-fault-preserved : goal.loop-fault-preserved
loop-fault-preserved c =
    let names : List Label = c.args.places.names.now in
    let indexes : List Label = c.args.places.indexes.now in
    let known = c.args.known.now.0 in
    let xs : List DescriptorErrorKind = c.args.faults.now in
    let i = c.loop-fault.fault-index in
    let x = c.fault-item.result in
    let before = c.loop-fault.invariant in
    let below = c.loop-fault-test.true in
    let is = c.fault-item.is in
    let place : option_copied c.place_among-place.result ≡ place_of names indexes (take i xs) x =
    c.place_among-place.ensures ∙ (λ j. place_among (before.names j) (before.left j) x) in
    record {
      told = c.in_ok-push.ensures.ok ∙ (λ j. before.told j ++ c.in_ok-next.ensures j ∷ []) ∙ ap (λ q. flat_map_after (told_after known names indexes) (take i xs) ++ told_fault known x q ∷ []) place
          ∙ sym (after-next (told_after known names indexes) xs i x below is);
      names = before.names;
      left = c.left_behind-left.ensures ∙ (λ j. drop (one_if (is_of Index x)) (before.left j)) ∙ left-next (is_of Index) indexes xs i x below is;
    }
