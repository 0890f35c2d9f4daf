use Rattle.std.proofs.Common.{◌≡◌, ◌++◌, take, flat_map}
use Rattle.schema_changes.specs.Entries.{field_entry}
use Rattle.schema_changes.specs.Changes.{compared, entry_changes}
use Rattle.schema_changes.proofs.compared.Compared.tell_fields.Given as goal

-- the fields so far are told
abbrev pub invariant-loop-field : goal.invariant-loop-field
invariant-loop-field l = record {
  asked : l.asked ≡ l.initial.asked;
  told : l.changes.items ≡ l.initial.changes.items ++ flat_map (λ f. entry_changes (compared l.self) (field_entry f)) (take l.field-index l.fields);
}
