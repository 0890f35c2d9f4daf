use Rattle.std.proofs.Common.{arith}
use Rattle.std.proofs.lemmas.Grind.{common_steps}
use Rattle.example_visitor.proofs.field_visitor.FieldVisitor.longest_path.Goals as goal

pub returns : goal.returns
returns c = grind (arith, common_steps)
