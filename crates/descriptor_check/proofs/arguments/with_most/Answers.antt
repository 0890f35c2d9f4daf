use Rattle.std.proofs.Common.{◌≡◌, ◌∙◌, ap, sym}
use Rattle.descriptor_check.specs.Arguments as spec
use Rattle.descriptor_check.specs.declared.arguments.Reading.TheVariants.{Done}
use Rattle.descriptor_check.specs.declared.arguments.Request.TheVariants.{Wrong}
use Rattle.descriptor_check.proofs.arguments.with_most.Goals as goal

-- a word that is no number is told
pub returns-in_ok-words-in-None : goal.returns-in_ok-words-in-None
returns-in_ok-words-in-None c =
    ap (λ told. Done (Wrong told)) (c.from_string.ensures ∙ c.in_ok-words-in-None.ensures.ok)
    ∙ ap (spec.with_most c.args.job c.args.word.now) (sym c.in-None.is ∙ c.max_faults.ensures)
