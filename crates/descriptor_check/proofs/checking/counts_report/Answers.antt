use Rattle.std.proofs.Common.{◌≡◌, IfOk, string_bytes, subst}
use Rattle.verdict_texts.specs.Formats.{accepted_report}
use Rattle.descriptor_check.proofs.checking.counts_report.Goals as goal

-- the counts are those of the pool
pub returns : goal.returns
returns c =
    subst (λ counts. IfOk c.accepted_report.result (λ s. string_bytes s ≡ accepted_report c.args.format counts)) c.counts.ensures c.accepted_report.ensures
