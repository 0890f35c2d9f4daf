-- What changes of all messages of a pool, so that bytes are read otherwise.
use Rattle.std.specs.Prelude.{◌≡◌, ℕ, suc, List, [], ◌∷◌, ◌++◌, Option, Some, None, map, slice_get}
use Rattle.std.specs.Prelude.{option_and_then}
use Rattle.std.specs.FinMap as finite
use Rattle.std.specs.List.{filter}
use Rattle.pool_types.specs.Contents.{Contents}
use Rattle.pool_types.specs.declared.contents.definition.DefinitionKind.{DefinitionKind}
use Rattle.pool_types.specs.declared.contents.definition.DefinitionKind.TheVariants as definition
use Rattle.pool_types.specs.declared.contents.message.MessageDescriptorInner.{MessageDescriptorInner}
use Rattle.schema_changes.specs.declared.change.WireChange.{WireChange}
use Rattle.schema_changes.specs.declared.change.MessageChange.{MessageChange}
use Rattle.schema_changes.specs.Parts.{parts_of}
use Rattle.schema_changes.specs.Changes.{message_changes, is_lossy}

-- the message of a pool that a definition is
abbrev pub message_meant : Contents → DefinitionKind → Option MessageDescriptorInner
message_meant p (definition.Message m) = slice_get p.messages m
message_meant p _ = None

-- the message of a pool that a full name means
unfoldable pub message_named : Contents → List ℕ → Option MessageDescriptorInner
message_named p name = option_and_then (λ d. message_meant p d.kind) (finite.get p.names name)

-- a change of the message with an index
abbrev pub of_message : ℕ → WireChange → MessageChange
of_message m c = record { message = m; change = c }

-- what the new message with its name changes of an old one with an index
abbrev pub changes_with : Contents → Contents → ℕ → MessageDescriptorInner
    → Option MessageDescriptorInner → List MessageChange
changes_with old new m x None = []
changes_with old new m x (Some y) =
    map (of_message m)
    (message_changes (record { old = parts_of old; before = x; new = parts_of new; after = y }))

-- what new messages change of old ones, whose indexes count from one on
abbrev pub changes_from : Contents → Contents → ℕ → List MessageDescriptorInner
    → List MessageChange
changes_from old new m [] = []
changes_from old new m (x ∷ xs) =
    changes_with old new m x (message_named new x.id.full_name)
    ++ changes_from old new (suc m) xs

-- the changes of all messages, in the order of the old ones
abbrev pub wire_changes : Contents → Contents → List MessageChange
wire_changes old new = changes_from old new 0 old.messages

-- those of them by which what is written is lost
abbrev pub wire_losses : Contents → Contents → List MessageChange
wire_losses old new = filter (λ c. is_lossy c.change.kind) (wire_changes old new)

-- the full name of each message of a pool means that message
abbrev pub NamesMean : Contents → Type 0
NamesMean p = (n : ℕ) (m : MessageDescriptorInner) → slice_get p.messages n ≡ Some m
    → message_named p m.id.full_name ≡ Some m
