use Rattle.std.proofs.Common.{subst}
use Rattle.std.proofs.lemmas.List.Sorted.{IsPermutation-sym}
use Rattle.std.proofs.lemmas.Map.Keys.{IsDistinct-IsPermutation}
use Rattle.std.specs.List.{IsDistinct}
use Rattle.protoc_rules.specs.Spans.{overlap}
use Rattle.protoc_rules.proofs.Distinct.{overlap-flips}
use Rattle.protoc_rules.proofs.spans.are_apart.Goals as goal

pub returns : goal.returns
returns c = λ yes.
    let sorted = c.sort_unstable.new.self.items in
    IsDistinct-IsPermutation overlap overlap-flips sorted c.args.spans.items (IsPermutation-sym c.args.spans.items sorted c.sort_unstable.ensures.permutation)
    (subst (IsDistinct overlap) c.as_slice.ensures.value (c.ascend.ensures yes))
