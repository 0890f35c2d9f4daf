use Rattle.std.proofs.Common.{◌≡◌, ap, ◌∙◌}
use Rattle.verdict_texts.proofs.Results.{if-ok}
use Rattle.descriptor_check.specs.Complaints.{no_verdict}
use Rattle.descriptor_check.specs.Runs.{failure_words}
use Rattle.descriptor_check.proofs.runs.no_verdict.Goals as goal

-- why is what the words end with
pub returns : goal.returns
returns c =
    let words : c.as_str.result.now ≡ failure_words c.args.name.now c.args.why.now = c.as_str.ensures.value ∙ c.in_ok-words.ensures in
    if-ok c.complain.result (λ a is. (c.args.why.now, is ∙ ap no_verdict words)) c.complain.ensures
