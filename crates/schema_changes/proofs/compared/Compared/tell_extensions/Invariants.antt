use Rattle.std.proofs.Common.{◌≡◌, ◌++◌, take, flat_map}
use Rattle.schema_changes.specs.Parts.{parts}
use Rattle.schema_changes.specs.Entries.{extension_in}
use Rattle.schema_changes.specs.Changes.{compared, extension_changes}
use Rattle.schema_changes.proofs.compared.Compared.tell_extensions.Given as goal

-- the extensions so far are told
abbrev pub invariant-loop-index : goal.invariant-loop-index
invariant-loop-index l = record {
  asked : l.asked ≡ l.initial.asked;
  told : l.changes.items ≡ l.initial.changes.items ++ flat_map (λ i. extension_changes (compared l.self) (extension_in (parts l.self.old) l.self.before.now i)) (take l.index-index l.extensions);
}
