use Rattle.std.proofs.Common.{◌≡◌, ◌++◌, take, flat_map}
use Rattle.schema_changes.specs.Parts.{parts}
use Rattle.schema_changes.specs.Entries.{extension_in}
use Rattle.schema_changes.specs.Changes.{compared, added_extension_changes}
use Rattle.schema_changes.proofs.compared.Compared.tell_added_extensions.Given as goal

abbrev pub invariant-loop-index : goal.invariant-loop-index
invariant-loop-index l = l.changes.items ≡ l.initial.changes.items ++ flat_map (λ i. added_extension_changes (compared l.self) (extension_in (parts l.self.new) l.self.after.now i)) (take l.index-index l.extensions)
