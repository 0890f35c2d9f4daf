use Rattle.verdict_texts.proofs.Results.{if-ok}
use Rattle.std.proofs.Common.{ap, inr, ◌∙◌}
use Rattle.descriptor_check.specs.Complaints.{no_verdict}
use Rattle.descriptor_check.proofs.NotRead.{one-not-read}
use Rattle.descriptor_check.proofs.runs.check_behind.Goals as goal

-- one of the files could not be read
pub returns-in-Err-Failed : goal.returns-in-Err-Failed
returns-in-Err-Failed g c =
    if-ok c.complain.result
    (λ a is. inr (inr (one-not-read _ _ c.as_slice.result.now c.in-Err-Failed.field-0 c.in-Err-Failed.words a
    c.as_slice.ensures c.in-Err-Failed.ensures.err c.in-Err-Failed.field-0-is (is ∙ ap no_verdict c.as_str.ensures))))
    c.complain.ensures
