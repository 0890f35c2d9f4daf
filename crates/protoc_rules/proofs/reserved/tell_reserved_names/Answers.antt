use Rattle.std.proofs.Common.{rules, ◌≡◌, arith}
use Rattle.std.proofs.lemmas.Grind.{common_steps}
use Rattle.protoc_rules.specs.Firsts.{HasFirsts}
use Rattle.protoc_rules.specs.Reserved.{name_faults, reserved_names}
use Rattle.protoc_rules.proofs.FirstKeys.{entered-next}
use Rattle.protoc_rules.proofs.Told.{told_next}
use Rattle.protoc_rules.proofs.reserved.tell_reserved_names.Goals as goal

-- a name stands first where the table has it
pub tell_name-requires : goal.tell_name-requires
tell_name-requires c =
    let held = c.loop-position.invariant.firsts c.index-names-position.result in
    grind (arith, common_steps, held)

pub loop-position-preserved : goal.loop-position-preserved
loop-position-preserved c =
    let names = c.args.reserved.names.now in
    let i = c.loop-position.position in
    let name = c.index-names-position.result in
    let below = c.loop-position-test.true in
    let is = c.index-names-position.is in
    let same : c.as_bytes.result.now ≡ name = search rules in
    let next = told_next (name_faults c.args.id.now (reserved_names c.args.reserved)) names i name below is in
    record {
      firsts =
          entered-next (HasFirsts c.loop-position.firsts) (HasFirsts c.first_with.new.firsts) names i name c.as_bytes.result.now below is same
          c.in_ok-first.ensures.firsts c.loop-position.invariant.firsts;
      found = grind (arith, common_steps, next);
    }
