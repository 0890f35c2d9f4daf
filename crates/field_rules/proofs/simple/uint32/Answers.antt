use Rattle.std.proofs.Common.{ap, ◌∙◌}
use Rattle.std.specs.Option.{ok_or}
use Rattle.field_rules.specs.declared.escape_faults.ValueFault.TheVariants.{Number}
use Rattle.plain_data.proofs.WholeNumbers.{parsed-uint32}
use Rattle.field_rules.proofs.simple.uint32.Goals as goal

pub returns : goal.returns
returns c = c.ok_or.ensures.value ∙ ap (λ o. ok_or o Number) (c.ok.ensures.value ∙ parsed-uint32 c.args.text.now c.parse.result c.parse.ensures.value.0)
