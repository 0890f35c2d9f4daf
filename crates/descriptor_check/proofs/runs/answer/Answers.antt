use Rattle.std.proofs.Common.{rules, ◌≡◌, None, inr}
use Rattle.verdict_texts.proofs.Results.{if-ok}
use Rattle.descriptor_check.proofs.runs.answer.Goals as goal

-- the arguments could not be read
pub returns-in-Err-Failed : goal.returns-in-Err-Failed
returns-in-Err-Failed g c =
    let untold : (g.D.CheckDevices.told c.args.devices.now).words ≡ None = search rules in
    if-ok c.no_verdict.result (λ a told. inr (untold, told)) c.no_verdict.ensures
