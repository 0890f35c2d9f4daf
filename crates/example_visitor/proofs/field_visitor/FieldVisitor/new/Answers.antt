use Rattle.std.proofs.Common.{rules}
use Rattle.example_visitor.proofs.field_visitor.FieldVisitor.new.Goals as goal

pub returns : goal.returns
returns c = search rules
