use Rattle.descriptor_check.proofs.Judged.{answered}
use Rattle.descriptor_check.proofs.checking.tell_joined.Goals as goal

-- the parts of the answer
pub returns : goal.returns
returns c =
    answered c.args.wanted.now c.args.joined c.as_slice.result.now _ c.in_ok-judgement.judgement
    c.in_ok-answer.answer c.with_complaints.result
    c.as_slice.ensures c.in_ok-lines.ensures
    c.in_ok-judgement.ensures c.in_ok-answer.ensures c.with_complaints.ensures
