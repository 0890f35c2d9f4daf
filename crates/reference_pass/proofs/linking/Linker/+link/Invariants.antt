use Rattle.reference_pass.specs.Linking.{lists_of}
use Rattle.reference_pass.proofs.ByItems.{MessagesSoFar}
use Rattle.reference_pass.proofs.linking.Linker.+link.Given as goal

-- those before the index are linked, and the others are as they were
abbrev pub invariant-link_messages-loop-index : goal.invariant-link_messages-loop-index
invariant-link_messages-loop-index l = record {
  unvisited : goal.unvisited-link_messages-loop-index l;
  so_far : MessagesSoFar (lists_of l.self) l.fn.next l.next l.fn.messages l.index l.messages;
}
