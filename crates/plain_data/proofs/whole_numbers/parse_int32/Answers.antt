use Rattle.std.proofs.Common.{◌∙◌}
use Rattle.plain_data.proofs.WholeNumbers.{parsed-int32}
use Rattle.plain_data.proofs.whole_numbers.parse_int32.Goals as goal

pub returns : goal.returns
returns c = c.ok.ensures.value ∙ parsed-int32 c.args.text.now c.parse.result c.parse.ensures.value.0
