use Rattle.reference_pass.specs.Linking.{lists_of}
use Rattle.reference_pass.proofs.ByItems.{ServicesSoFar}
use Rattle.reference_pass.proofs.linking.Linker.link_services.Given as goal

-- those before the index are linked, and the others are as they were
abbrev pub invariant-loop-index : goal.invariant-loop-index
invariant-loop-index l = ServicesSoFar (lists_of l.self) l.fn.next l.next l.fn.services l.index l.services
