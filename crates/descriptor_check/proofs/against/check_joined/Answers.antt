use Rattle.descriptor_check.proofs.Judged.{answered-against}
use Rattle.descriptor_check.proofs.against.check_joined.Goals as goal

-- the parts of the answer
pub returns : goal.returns
returns c =
    answered-against c.args.against.wanted.now c.args.against.olders.now c.args.joined c.as_slice.result.now _
    c.in_ok-judgement.judgement c.in_ok-answer.answer c.with_complaints.result
    c.as_slice.ensures c.in_ok-lines.ensures
    c.in_ok-judgement.ensures c.in_ok-answer.ensures c.with_complaints.ensures
