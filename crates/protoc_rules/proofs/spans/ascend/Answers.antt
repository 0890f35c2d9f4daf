use Rattle.std.proofs.Common.{◌≡◌, ◌-◌, true, pos, sym, ◌∙◌, arith}
use Rattle.std.proofs.lemmas.Grind.{common_steps}
use Rattle.std.proofs.lemmas.List.{get_or_default}
use Rattle.std.proofs.lemmas.List.Sorted.{all_adjacent_more}
use Rattle.protoc_rules.specs.Spans.{precedes}
use Rattle.protoc_rules.proofs.Distinct.{spans-distinct}
use Rattle.protoc_rules.proofs.spans.ascend.Goals as goal

pub loop-position-preserved : goal.loop-position-preserved
loop-position-preserved c =
    let spans = c.args.spans.now in
    let i = c.loop-position.position in
    all_adjacent_more spans (λ x y. precedes x y ≡ true) i (omega arith) c.loop-position.invariant
    (λ d. let first = get_or_default spans (i - 1) d (pos 0, pos 0) (omega arith) in
    let second = get_or_default spans i d (pos 0, pos 0) (omega arith) in
    let there : c.precedes.result ≡ true = grind (arith, common_steps) in
    (λ j. precedes (first j) (second j)) ∙ sym c.precedes.ensures ∙ there)

pub returns : goal.returns
returns c = λ yes. spans-distinct c.args.spans.now (λ k d below. c.loop-position.invariant k d (omega (arith, below)))
