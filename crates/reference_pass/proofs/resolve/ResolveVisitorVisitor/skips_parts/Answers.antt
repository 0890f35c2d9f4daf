use Rattle.reference_pass.proofs.Seen.{parts-change-nothing}
use Rattle.reference_pass.proofs.resolve.ResolveVisitorVisitor.skips_parts.Goals as goal

pub returns : goal.returns
returns c = λ _. parts-change-nothing
