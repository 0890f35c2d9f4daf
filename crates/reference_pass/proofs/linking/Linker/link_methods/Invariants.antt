use Rattle.reference_pass.specs.Linking.{lists_of}
use Rattle.reference_pass.proofs.ByItems.{MethodsSoFar}
use Rattle.reference_pass.proofs.linking.Linker.link_methods.Given as goal

-- those before the index are linked, and the others are as they were
abbrev pub invariant-loop-index : goal.invariant-loop-index
invariant-loop-index l = MethodsSoFar (lists_of l.self) l.items l.fn.methods l.index l.methods
