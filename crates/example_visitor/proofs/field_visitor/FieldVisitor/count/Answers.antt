use Rattle.std.proofs.Common.{rules}
use Rattle.visitor_example.proofs.field_visitor.FieldVisitor.count.Goals as goal

pub returns : goal.returns
returns c = search rules
