-- What changes at json and at source of a field or an extension that is kept by its number.
use Rattle.std.specs.Prelude.{ℕ, Bool, true, false, not, ◌||◌, ◌&&◌, ◌==◌, List, [], ◌∷◌, ◌++◌}
use Rattle.std.specs.Prelude.{slice_get, Option, Some, if◌then◌else◌}
use Rattle.std.specs.List.{list_all}
use Rattle.std.specs.Option.{is_none, option_map_or}
use Rattle.std.specs.Ordering.{int_eq}
use Rattle.std.specs.Str.{bytes_eq}
use Rattle.pool_types.specs.declared.contents.field.FieldDescriptorInner.{FieldDescriptorInner}
use Rattle.pool_types.specs.declared.contents.message.MessageDescriptorInner.{MessageDescriptorInner}
use Rattle.pool_types.specs.declared.kinds.KindIndex.{KindIndex}
use Rattle.pool_types.specs.declared.kinds.KindIndex.TheVariants as kind
use Rattle.schema_changes.specs.Kinds.{is_repeated, messages_of}
use Rattle.schema_changes.specs.declared.change.WireChange.{WireChange}
use Rattle.schema_changes.specs.declared.change.WireChangeKind.TheVariants as change
use Rattle.verdict_texts.specs.declared.telling.ToldFault.{ToldFault}
use Rattle.pool_changes.specs.FieldParts.{Part, field_part, part_numbered, form_side, json_side}
use Rattle.pool_changes.specs.FieldParts.{json_word, type_word, type_name, repeated_side, name_side}
use Rattle.pool_changes.specs.FieldParts.{type_side, presence_side, default_side}
use Rattle.pool_changes.specs.FieldParts.{first_number, oneof_side}
use Rattle.pool_changes.specs.Removed.{tells}
use Rattle.pool_changes.specs.Sides.{Versions, writer, reader, differing, told_between}
use Rattle.pool_changes.specs.declared.kinds.ElementChange.TheVariants as element

-- whether a parser of JSON reads a number where a kind has names
abbrev pub reads_number : KindIndex → KindIndex → Bool
reads_number kind.Int32 (kind.Enum e) = true
reads_number _ _ = false

-- whether values of two kinds have one form in JSON
abbrev pub are_formed_alike : Versions → KindIndex → KindIndex → Bool
are_formed_alike v k l = bytes_eq (json_word (writer v) k) (json_word (reader v) l)
    && bytes_eq (type_name (writer v) k) (type_name (reader v) l)

-- whether they are of one type
abbrev pub are_typed_alike : Versions → KindIndex → KindIndex → Bool
are_typed_alike v k l = bytes_eq (type_word (writer v) k) (type_word (reader v) l)
    && bytes_eq (type_name (writer v) k) (type_name (reader v) l)

-- whether one of two is repeated, and the other is not
abbrev pub one_repeats : Part → Part → Bool
one_repeats f g = if is_repeated f.entry.cardinality then not (is_repeated g.entry.cardinality)
    else is_repeated g.entry.cardinality

-- whether a parser of JSON reads values of a kind as those of another
abbrev pub keeps_values : Versions → KindIndex → KindIndex → Bool
keeps_values v k l = reads_number k l || are_formed_alike v k l

-- whether JSON has values of two kinds of fields of two messages, which may have other names, in a
-- form that the reader's reads: both may be the two messages themselves
abbrev pub keeps_inner_form : Versions → ℕ → ℕ → KindIndex → KindIndex → Bool
keeps_inner_form v m n k l =
    keeps_values v k l || option_map_or (λ e. e.0 == m && e.1 == n) (messages_of k l) false

-- whether JSON has a field of a message as one of another: by its JSON name, in a form that is
-- read, and as often
abbrev pub is_shown_alike : Versions → ℕ → ℕ → Part → Part → Bool
is_shown_alike v m n f g = bytes_eq f.json_name g.json_name
    && keeps_inner_form v m n f.entry.kind g.entry.kind && not (one_repeats f g)

-- whether JSON has a field as the field of the reader's message with its number
abbrev pub is_shown_in : Versions → ℕ → ℕ → MessageDescriptorInner → FieldDescriptorInner → Bool
is_shown_in v m n y f =
    option_map_or (is_shown_alike v m n (field_part f)) (part_numbered (reader v) y f.number) false

-- whether JSON has each field of a message as the reader's message has it
abbrev pub are_shown_in : Versions → ℕ → ℕ → Option MessageDescriptorInner
    → Option MessageDescriptorInner → Bool
are_shown_in v m n (Some x) (Some y) = list_all (is_shown_in v m n y) x.fields
are_shown_in v m n _ _ = false

-- whether JSON has two messages, by their indexes, alike, which may have other names
abbrev pub have_fields_alike : Versions → ℕ → ℕ → Bool
have_fields_alike v m n =
    are_shown_in v m n (slice_get (writer v).messages m) (slice_get (reader v).messages n)

-- whether two kinds are those of messages that JSON has alike under other names
abbrev pub are_messages_alike : Versions → KindIndex → KindIndex → Bool
are_messages_alike v k l = bytes_eq (json_word (writer v) k) (json_word (reader v) l)
    && option_map_or (λ e. have_fields_alike v e.0 e.1) (messages_of k l) false

-- whether JSON has a field in a form that the reader's reads
abbrev pub keeps_form : Versions → Part → Part → Bool
keeps_form v f g = keeps_values v f.entry.kind g.entry.kind
    || are_messages_alike v f.entry.kind g.entry.kind

-- what changes of its form in JSON, if that is not told at wire
abbrev pub form_changes : Versions → List WireChange → Part → Part → List ToldFault
form_changes v found f g =
    if tells v.direction found f.entry.number change.Kind || keeps_form v f g then [] else
    told_between v element.FieldJson (form_side (writer v) f) (form_side (reader v) g) ∷ []

-- that it is repeated now, if that is not told at wire
abbrev pub repeated_changes : Versions → List WireChange → Part → Part → List ToldFault
repeated_changes v found f g =
    if tells v.direction found f.entry.number change.Cardinality then []
    else differing v element.FieldRepeated (repeated_side f) (repeated_side g)

-- what changes of it at json: its JSON name, its form, and whether it is repeated
abbrev pub part_json : Versions → List WireChange → Part → Part → List ToldFault
part_json v found f g = differing v element.FieldJsonName (json_side f) (json_side g)
    ++ (form_changes v found f g ++ repeated_changes v found f g)

-- what changes of its name, if the JSON name is the same
abbrev pub name_changes : Versions → Part → Part → List ToldFault
name_changes v f g = if bytes_eq f.json_name g.json_name
    then differing v element.FieldName (name_side f) (name_side g) else []

-- what changes of its type, if that is not told at wire or at json
abbrev pub type_changes : Versions → List WireChange → Part → Part → List ToldFault
type_changes v found f g =
    if tells v.direction found f.entry.number change.Kind || not (keeps_form v f g) then []
    else differing v element.FieldType (type_side (writer v) f) (type_side (reader v) g)

-- what changes of its presence, if that is not told at wire or at json
abbrev pub presence_changes : Versions → List WireChange → Part → Part → List ToldFault
presence_changes v found f g =
    if tells v.direction found f.entry.number change.Required || one_repeats f g then []
    else differing v element.FieldPresence (presence_side f) (presence_side g)

-- which oneof it is in, by its messages, if that is not told at wire
abbrev pub oneof_moves : Versions → MessageDescriptorInner → MessageDescriptorInner
    → List WireChange → Part → Part → List ToldFault
oneof_moves v x y found f g = if tells v.direction found f.entry.number change.Oneof then []
    else differing v element.FieldOneof (oneof_side (writer v) x f) (oneof_side (reader v) y g)

-- whether two fields, of which none is given a default value, are read alike where they are missing:
-- the reader's is repeated, or the first numbers of their kinds are one
abbrev pub have_first_alike : Versions → Part → Part → Bool
have_first_alike v f g =
    is_none f.default && is_none g.default
    && (is_repeated g.entry.cardinality
    || int_eq (first_number (writer v) f.entry.kind) (first_number (reader v) g.entry.kind))

-- what changes of what a missing field is read as: a default value that is given, or else the first
-- value of an enum
abbrev pub default_changes : Versions → Part → Part → List ToldFault
default_changes v f g = if have_first_alike v f g then []
    else differing v element.FieldDefault (default_side (writer v) f) (default_side (reader v) g)

-- what changes of it at source, by its messages: its name, its type, its presence, its oneof, and
-- its default value
abbrev pub part_source : Versions → MessageDescriptorInner → MessageDescriptorInner
    → List WireChange → Part → Part → List ToldFault
part_source v x y found f g =
    name_changes v f g
    ++ (type_changes v found f g
    ++ (presence_changes v found f g
    ++ (oneof_moves v x y found f g ++ default_changes v f g)))
