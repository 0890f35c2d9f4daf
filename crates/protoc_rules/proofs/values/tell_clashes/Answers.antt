use Rattle.std.proofs.Common.{rules, ◌≡◌, arith}
use Rattle.std.proofs.lemmas.Grind.{common_steps}
use Rattle.protoc_rules.specs.Firsts.{HasFirsts}
use Rattle.protoc_rules.specs.Values.{clash_faults}
use Rattle.protoc_rules.proofs.FirstKeys.{entered-next}
use Rattle.protoc_rules.proofs.Told.{told_next}
use Rattle.protoc_rules.proofs.values.tell_clashes.Goals as goal

pub loop-position-preserved : goal.loop-position-preserved
loop-position-preserved c =
    let names = c.args.names.now in
    let i = c.loop-position.position in
    let name = c.index-names-position.result in
    let below = c.loop-position-test.true in
    let is = c.index-names-position.is in
    let same : c.as_slice.result.now ≡ name = search rules in
    let held = c.loop-position.invariant.firsts name in
    let next = told_next (clash_faults c.args.enumeration.now names) names i name below is in
    record {
      firsts =
          entered-next (HasFirsts c.loop-position.firsts) (HasFirsts c.first_with.new.firsts) names i name c.as_slice.result.now below is same
          c.in_ok-first.ensures.firsts c.loop-position.invariant.firsts;
      found = grind (arith, common_steps, next, held);
    }
