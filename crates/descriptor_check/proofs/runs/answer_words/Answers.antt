use Rattle.std.proofs.Common.{◌≡◌, subst, sym, ◌∙◌}
use Rattle.verdict_texts.proofs.Results.{if-ok}
use Rattle.descriptor_check.specs.Arguments.{request_of}
use Rattle.descriptor_check.specs.Runs.{Asked}
use Rattle.descriptor_check.specs.declared.arguments.Request.TheVariants.{Help}
use Rattle.descriptor_check.proofs.runs.answer_words.Goals as goal

-- the help is asked for
pub returns-in-Help : goal.returns-in-Help
returns-in-Help g c =
    let asked : Help ≡ request_of c.args.words.now = sym c.in-Help.is ∙ c.in_ok-job.ensures in
    if-ok c.tell_help.result (λ a told. subst (λ r. Asked (g.D.CheckDevices.told c.args.devices.now).bytes_of r a) asked told) c.tell_help.ensures
