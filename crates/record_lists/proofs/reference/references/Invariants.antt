use Rattle.std.proofs.Common.{map}
use Rattle.record_lists.specs.Code.{reference_of}
use Rattle.record_lists.proofs.ReferencesFound.{Left}
use Rattle.record_lists.proofs.reference.references.Given as goal

abbrev pub invariant-loop-declaration : goal.invariant-loop-declaration
invariant-loop-declaration l = Left l.file (map reference_of l.found.items) l.declaration-iterator.rest.items
