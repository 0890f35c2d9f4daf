use Rattle.std.proofs.Common.{◌≡◌, ◌++◌, take, flat_map}
use Rattle.schema_changes.specs.Entries.{field_entry}
use Rattle.schema_changes.specs.Changes.{compared, added_changes}
use Rattle.schema_changes.proofs.compared.Compared.tell_added_fields.Given as goal

abbrev pub invariant-loop-field : goal.invariant-loop-field
invariant-loop-field l = l.changes.items ≡ l.initial.changes.items ++ flat_map (λ g. added_changes (compared l.self) (field_entry g)) (take l.field-index l.fields)
