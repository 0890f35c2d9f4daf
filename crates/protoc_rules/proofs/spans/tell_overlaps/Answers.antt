use Rattle.std.proofs.Common.{rules, ◌++◌, ap, sym, ◌∙◌, append-nil}
use Rattle.std.proofs.lemmas.Int.{to_z-of_z}
use Rattle.protoc_rules.specs.declared.faults.StrictKind.TheVariants as kind
use Rattle.protoc_rules.specs.Spans.{overlap}
use Rattle.protoc_rules.proofs.Distinct.{overlap-flips, pairs-quiet}
use Rattle.protoc_rules.proofs.spans.tell_overlaps.Goals as goal

pub returns-then-branch : goal.returns-then-branch
returns-then-branch c =
    let none = pairs-quiet overlap overlap-flips c.args.spans.now (c.in_ok-show_apart.ensures (search rules)) kind.RangesOverlap c.args.id.now c.args.tag in
    sym (ap (λ told. c.args.found.now ++ told) none ∙ append-nil c.args.found.now)

pub returns : goal.returns
returns c = let fits = c.ranges.tag in simp to_z-of_z at c.tell_pairs.ensures
