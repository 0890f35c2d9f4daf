-- What a new version changes of an older one in a direction, as it is told.
use Rattle.std.specs.Prelude.{ℕ, Bool, true, false, codes, List, [], ◌∷◌, ◌++◌, length, take, map}
use Rattle.std.specs.Prelude.{Option, Some, None}
use Rattle.std.specs.List.{flat_map}
use Rattle.plain_data.specs.Lists.{only_if}
use Rattle.pool_types.specs.Contents.{Contents}
use Rattle.pool_types.specs.declared.contents.message.MessageDescriptorInner.{MessageDescriptorInner}
use Rattle.schema_changes.specs.Changes.{Compared, message_changes}
use Rattle.schema_changes.specs.MessageSets.{is_message_set}
use Rattle.schema_changes.specs.Parts.{parts_of}
use Rattle.schema_changes.specs.Pools.{message_named}
use Rattle.schema_changes.specs.declared.change.WireChange.{WireChange}
use Rattle.verdict_texts.specs.declared.telling.ToldFault.{ToldFault}
use Rattle.pool_changes.specs.AtLevels.{at_json, at_source}
use Rattle.pool_changes.specs.Members.{by_writer}
use Rattle.pool_changes.specs.Removed.{is_told, message_removed}
use Rattle.pool_changes.specs.Services.{services_changes}
use Rattle.pool_changes.specs.Sides.{Versions, Side, both_of, first_by, writer, reader, there}
use Rattle.pool_changes.specs.Sides.{differing}
use Rattle.pool_changes.specs.Telling.{told_change}
use Rattle.pool_changes.specs.declared.direction.Compatibility.{Compatibility}
use Rattle.pool_changes.specs.declared.direction.Compatibility.TheVariants as compatibility
use Rattle.pool_changes.specs.declared.direction.Direction.{Direction}
use Rattle.pool_changes.specs.declared.direction.Direction.TheVariants.{Backward, Forward}
use Rattle.pool_changes.specs.declared.kinds.ElementChange.TheVariants as element
use Rattle.pool_changes.specs.declared.kinds.Level.{Level}
use Rattle.pool_changes.specs.declared.kinds.Level.TheVariants.{Wire, Json, Source}
use Rattle.pool_changes.specs.declared.told.ToldChanges.{ToldChanges}

-- a change of a message as it is told, if it is told in the direction
abbrev pub told_if : Versions → Compared → WireChange → List ToldFault
told_if v c w =
    only_if (is_told v.direction w.kind) (told_change v.direction (by_writer v.direction c) w)

-- the words for whether a message is a message set on the wire
abbrev pub set_word : Bool → List ℕ
set_word true = codes "message set"
set_word false = codes "plain message"

-- whether a message is one, as a side
abbrev pub set_side : Contents → MessageDescriptorInner → Side
set_side p x = there x.id (set_word (is_message_set (parts_of p) x)) []

-- what changes where one of two messages is a message set, and the other is not
abbrev pub set_changes : Versions → MessageDescriptorInner → MessageDescriptorInner → List ToldFault
set_changes v x y = differing v element.MessageSet (set_side (writer v) x) (set_side (reader v) y)

-- what is told at wire of a message that the reader lacks: the new version does not read what an
-- older one wrote of it. That an older version lacks a message is told at source
abbrev pub lacked_at_wire : Versions → MessageDescriptorInner → List ToldFault
lacked_at_wire v x = first_by v.direction (message_removed v x) []

-- what is told of a message of the writer, by the reader's with its name
abbrev pub message_told : Versions → MessageDescriptorInner → Option MessageDescriptorInner
    → List ToldFault
message_told v x None = lacked_at_wire v x
message_told v x (Some y) = flat_map (told_if v (both_of v x y)) (message_changes (both_of v x y))
    ++ set_changes v x y

-- what is told of all messages
abbrev pub messages_told : Versions → List ToldFault
messages_told v =
    flat_map (λ x. message_told v x (message_named (reader v) x.id.full_name)) (writer v).messages

-- the changes at the level wire: of messages, and then of services
abbrev pub at_wire : Versions → List ToldFault
at_wire v = messages_told v ++ services_changes v

-- changes at json, if a level has them
abbrev pub json_in : Level → List ToldFault → List ToldFault
json_in Wire told = []
json_in Json told = told
json_in Source told = told

-- changes at source, if a level has them
abbrev pub source_in : Level → List ToldFault → List ToldFault
source_in Wire told = []
source_in Json told = []
source_in Source told = told

-- the changes at a level, with those at the levels that it contains before them
abbrev pub told_at : Versions → Level → List ToldFault
told_at v level = at_wire v ++ (json_in level (at_json v) ++ source_in level (at_source v))

-- the changes of two pools at a level
abbrev pub changes : Level → Contents → Contents → List ToldFault
changes level old new = told_at (record { direction = Backward; old = old; new = new }) level

-- how many changes at json a level leaves out, of so many
abbrev pub json_beyond : Level → ℕ → ℕ
json_beyond Wire n = n
json_beyond Json n = 0
json_beyond Source n = 0

-- how many changes at source a level leaves out, of so many
abbrev pub source_beyond : Level → ℕ → ℕ
source_beyond Wire n = n
source_beyond Json n = n
source_beyond Source n = 0

-- what a new version changes of an older one that has a name: so many of the changes at most, how
-- many there are at wire, at wire and json, and at all, and how many the level leaves out
abbrev pub told_changes : Versions → Level → List ℕ → ℕ → ToldChanges
told_changes v level name most = record {
  direction = v.direction;
  level = level;
  against = name;
  told = take most (told_at v level);
  wire = length (at_wire v);
  json = length (at_wire v ++ json_in level (at_json v));
  count = length (told_at v level);
  json_beyond = json_beyond level (length (at_json v));
  source_beyond = source_beyond level (length (at_source v));
}

-- the directions in which two versions are compared for a compatibility, in order
abbrev pub directions : Compatibility → List Direction
directions compatibility.Backward = Backward ∷ []
directions compatibility.Forward = Forward ∷ []
directions compatibility.Full = Backward ∷ Forward ∷ []

-- what a new version changes of an older one that has a name, in each direction of a compatibility:
-- so many of the changes of each direction at most
abbrev pub told_for : Compatibility → Contents → Contents → Level → List ℕ → ℕ → List ToldChanges
told_for c old new level name most =
    map (λ d. told_changes (record { direction = d; old = old; new = new }) level name most)
    (directions c)
