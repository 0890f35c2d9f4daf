use Rattle.descriptor_check.proofs.Judged.{judged}
use Rattle.descriptor_check.proofs.strict.judge.Goals as goal

-- the parts of the judgement
pub returns : goal.returns
returns c =
    judged c.args.wanted.now c.args.joined c.as_slice.result.now c.in_ok-types.types
    c.in_ok-verdict.verdict c.in_ok-strict.strict
    c.as_slice.ensures c.in_ok-types.ensures c.in_ok-verdict.ensures c.in_ok-strict.ensures
