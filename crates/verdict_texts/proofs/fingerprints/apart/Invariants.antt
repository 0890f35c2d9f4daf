use Rattle.std.proofs.Common.{◌≡◌, ℕ, List, map, take}
use Rattle.verdict_texts.specs.Fingerprints as spec
use Rattle.verdict_texts.proofs.fingerprints.apart.Given as goal

-- the faults so far have their fingerprints, and their marks are counted
abbrev pub invariant-loop-one : goal.invariant-loop-one
invariant-loop-one l =
    let so_far = map spec.marked (take l.one-index l.all) in
    (map spec.marked l.told.items ≡ spec.apart so_far)
    × ((text : List ℕ) → spec.counted l.counts text ≡ spec.times text (map (λ m. m.mark) so_far))
