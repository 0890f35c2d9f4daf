-- Where something stands: a file's name, a path, and lines and columns in its source.
use Rattle.std.specs.Prelude.{ℕ, ℤ, pos, negsuc, List, [], ◌∷◌, ◌++◌, slice_get, find, int_lt}
use Rattle.std.specs.Prelude.{if◌then◌else◌}
use Rattle.std.specs.Cmp.Lexicographic.{pointwise}
use Rattle.std.specs.List.{list_any}
use Rattle.std.specs.Option.{option_map_or, option_and_then}
use Rattle.std.specs.Ordering.{int_eq}
use Rattle.std.specs.declared.option.Option.{Option}
use Rattle.std.specs.declared.option.Option.TheVariants.{None, Some}
use Rattle.proto_types.specs.File.{file_at}
use Rattle.proto_types.specs.Paths.{entry_path}
use Rattle.proto_types.specs.Readers.{text_of}
use Rattle.proto_types.specs.declared.records.source.Location.{Location}
use Rattle.pool_faults.specs.declared.label.Label.{Label}
use Rattle.proto_types.specs.declared.file.FileDescriptorProto.{FileDescriptorProto}

-- the start line, the start column, the end line and the end column, of four numbers or of three
-- without the end line
abbrev pub four_of : List ℤ → Option (List ℤ)
four_of (line ∷ start ∷ last ∷ []) = Some (line ∷ start ∷ line ∷ last ∷ [])
four_of (line ∷ start ∷ below ∷ last ∷ []) = Some (line ∷ start ∷ below ∷ last ∷ [])
four_of _ = None

-- the span of three or four numbers; it is absent where there are more or fewer, or where one is
-- negative
abbrev pub span_of : List ℤ → Option (List ℤ)
span_of numbers = if list_any (λ n. int_lt n (pos 0)) numbers then None else four_of numbers

-- the locations of the source in a file's record
abbrev pub locations : FileDescriptorProto → List Location
locations f = option_map_or (λ s. s.location) f.source_code_info []

-- the span of the first location of a file with a path; a later location of that path is not looked
-- at
abbrev pub span_at : FileDescriptorProto → List ℤ → Option (List ℤ)
span_at f path = option_and_then (λ l. span_of l.span)
    (find (λ l. pointwise int_eq l.path path) (locations f))

-- the name of a file, a path, and the span of that path
abbrev pub label : FileDescriptorProto → List ℤ → Label
label f path = record { file = text_of f.name; path = path; span = span_at f path }

-- the label of a path in the file with an index
abbrev pub label_in : List FileDescriptorProto → ℕ → List ℤ → Label
label_in files file path = label (file_at files file) path

-- the label of the part with a field number, of what stands at a path of a file
abbrev pub part_label : List FileDescriptorProto → ℕ → List ℤ → ℤ → Label
part_label files file path tag = label_in files file (path ++ tag ∷ [])

-- the label of an entry of a list with a field number, by the position of the entry
abbrev pub entry_label : List FileDescriptorProto → ℕ → List ℤ → ℤ → ℕ → Label
entry_label files file path tag position = label_in files file (entry_path path tag position)

-- the label of the part with a field number, of an entry of a list, by the position of the entry
abbrev pub entry_part_label : List FileDescriptorProto → ℕ → List ℤ → ℤ → ℕ → ℤ → Label
entry_part_label files file path tag position part =
    label_in files file (entry_path path tag position ++ part ∷ [])

-- a number, where it is not negative
abbrev pub non_negative : ℤ → Option ℕ
non_negative (pos n) = Some n
non_negative (negsuc _) = None

-- the line at which a span begins, from 0
abbrev pub start_line : List ℤ → Option ℕ
start_line span = option_and_then non_negative (slice_get span 0)

-- the column at which a span begins, from 0
abbrev pub start_column : List ℤ → Option ℕ
start_column span = option_and_then non_negative (slice_get span 1)

-- the line at which the span of a label begins, if it is known
abbrev pub label_line : Label → Option ℕ
label_line l = option_and_then start_line l.span

-- the column at which the span of a label begins, if it is known
abbrev pub label_column : Label → Option ℕ
label_column l = option_and_then start_column l.span
