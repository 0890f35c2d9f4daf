use Rattle.std.proofs.Common.{arith}
use Rattle.std.proofs.lemmas.Map.Text.{text_keys}
use Rattle.name_pass.proofs.camel_case.first_holder.Goals as goal

pub returns-clause-holders : goal.returns-clause-holders
returns-clause-holders c = λ text. grind (arith, text_keys)
