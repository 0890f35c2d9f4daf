-- Where the faults stand whose kinds have no label: a name of a file that another has, an index of
-- an import, and an index of a oneof. Each is a place in the records, in the order of the walk.
use Rattle.std.specs.Prelude.{ℕ, ℤ, Bool, true, false, not, is_some, List, [], ◌∷◌, ◌++◌, length}
use Rattle.std.specs.Prelude.{map, drop, slice_get, if◌then◌else◌}
use Rattle.std.specs.List.{enumerate_from, filter, find, flat_map, list_any}
use Rattle.std.specs.Option.{option_map_or}
use Rattle.std.specs.Str.{bytes_eq}
use Rattle.std.specs.declared.option.Option.{Option}
use Rattle.plain_data.specs.Lists.{at, only_if}
use Rattle.proto_types.specs.Paths.{entry_path}
use Rattle.proto_types.specs.declared.file.FileDescriptorProto.{FileDescriptorProto}
use Rattle.proto_types.specs.declared.message.DescriptorProto.{DescriptorProto, out-DescriptorProto}
use Rattle.proto_types.specs.declared.records.field.FieldDescriptorProto.{FieldDescriptorProto}
use Rattle.proto_types.specs.declared.tag.file.TheConstants as file
use Rattle.proto_types.specs.declared.tag.message.TheConstants as message
use Rattle.pool_faults.specs.Fault.{shown_label}
use Rattle.pool_faults.specs.Labels.{label}
use Rattle.pool_faults.specs.declared.label.Label.{Label}
use Rattle.pool_faults.specs.declared.fault.DescriptorErrorKind.{DescriptorErrorKind}
use Rattle.pool_faults.specs.declared.fault.DescriptorErrorKind.TheVariants as fault
use Rattle.record_walk.specs.Counts.{no_counts}
use Rattle.record_walk.specs.Declarations.{declarations, messages_walk}
use Rattle.record_walk.specs.Protos.{Proto, of_file, of_message}
use Rattle.record_walk.specs.Shown.{Shown}
use Rattle.verdict_texts.specs.Known.{site}
use Rattle.verdict_texts.specs.declared.places.Unplaced.{Unplaced}
use Rattle.verdict_texts.specs.declared.places.Unplaced.TheVariants.{Name, Index}

-- whether an index is no position of a list
abbrev pub is_outside : {X : Type 0} → List X → ℤ → Bool
is_outside xs index = not (is_some (at xs index))

-- the paths of the indexes of the list with a field number that are no positions of the imports
abbrev pub outside_imports : List (List ℕ) → ℤ → List ℤ → List (List ℤ)
outside_imports imports tag indexes = flat_map
    (λ e. only_if (is_outside imports e.1) (entry_path [] tag e.0)) (enumerate_from 0 indexes)

-- whether a field has a oneof index that is no position of its message's oneofs
abbrev pub names_no_oneof : DescriptorProto → FieldDescriptorProto → Bool
names_no_oneof m field =
    option_map_or (is_outside (out-DescriptorProto m).oneof_decl) field.oneof_index false

-- the paths of the fields of the message at a path that have a oneof index which is no position
abbrev pub outside_oneofs : DescriptorProto → List ℤ → List (List ℤ)
outside_oneofs m path = flat_map
    (λ e. only_if (names_no_oneof m e.1) (entry_path path message.FIELD e.0))
    (enumerate_from 0 (out-DescriptorProto m).field)

-- the paths of the indexes that are no positions in the record at a path: of a file those of its
-- public imports and its weak ones, and of a message those of its oneofs
abbrev pub indexes_of : List ℤ → Proto → List (List ℤ)
indexes_of path (of_file f) =
    outside_imports f.dependency file.PUBLIC_DEPENDENCY f.public_dependency
    ++ outside_imports f.dependency file.WEAK_DEPENDENCY f.weak_dependency
indexes_of path (of_message m) = outside_oneofs m path
indexes_of path _ = []

-- the paths of the indexes that are no positions in the records of declarations
abbrev pub indexes_in : List Shown → List (List ℤ)
indexes_in ds = flat_map (λ d. indexes_of d.path d.proto) ds

-- the paths of the indexes that are no positions in the messages of the list with a field number
-- of what stands at a path, and in all messages in them
abbrev pub messages_indexes : List ℤ → ℤ → List DescriptorProto → List (List ℤ)
messages_indexes path tag messages =
    indexes_in (messages_walk (site path []) tag 0 no_counts messages)

-- the paths of the indexes that are no positions in the message at a path, and in all in it
abbrev pub message_indexes : List ℤ → DescriptorProto → List (List ℤ)
message_indexes path m = outside_oneofs m path
    ++ messages_indexes path message.NESTED_TYPE (out-DescriptorProto m).nested_type

-- the paths of a file at which the faults of a kind can stand
abbrev pub paths_of : Unplaced → FileDescriptorProto → List (List ℤ)
paths_of Name f = (file.NAME ∷ []) ∷ []
paths_of Index f = indexes_in (declarations no_counts (f ∷ []))

-- whether a fault is of a kind without a label
abbrev pub is_of : Unplaced → DescriptorErrorKind → Bool
is_of Name (fault.DuplicateFileName _) = true
is_of Name _ = false
is_of Index fault.InvalidImportIndex = true
is_of Index fault.InvalidOneofIndex = true
is_of Index _ = false

-- the places in files at which faults of a kind can stand, in order
abbrev pub places_of : Unplaced → List FileDescriptorProto → List Label
places_of kind files = flat_map (λ f. map (label f) (paths_of kind f)) files

-- the places in files at which faults of a kind can stand, where one of some faults is of it
abbrev pub places_for : List FileDescriptorProto → List DescriptorErrorKind → Unplaced → List Label
places_for files faults kind =
    if list_any (is_of kind) faults then places_of kind files else []

-- where a fault stands: the label that it shows, or the first that names its file, or the first
-- that is left of the indexes
abbrev pub place_among : List Label → List Label → DescriptorErrorKind → Option Label
place_among names left (fault.DuplicateFileName name) = find (λ l. bytes_eq l.file name) names
place_among names left fault.InvalidImportIndex = slice_get left 0
place_among names left fault.InvalidOneofIndex = slice_get left 0
place_among names left other = shown_label other

-- how many places a fault takes
abbrev pub one_if : Bool → ℕ
one_if takes = if takes then 1 else 0

-- the indexes that are left behind earlier faults: but for as many as these have of their kinds
abbrev pub left_behind : List DescriptorErrorKind → List Label → List Label
left_behind earlier indexes = drop (length (filter (is_of Index) earlier)) indexes

-- where a fault stands, by those before it in its batch
abbrev pub place_of : List Label → List Label → List DescriptorErrorKind → DescriptorErrorKind
    → Option Label
place_of names indexes earlier fault = place_among names (left_behind earlier indexes) fault
