-- Names of fields that their names in JSON can't tell apart (the protobuf language rules on
-- proto3's JSON mapping).
use Rattle.std.specs.Prelude.{ℕ, ℤ, not, ◌==◌, List, [], ◌∷◌, ◌++◌, find, filter, if◌then◌else◌}
use Rattle.std.specs.List.{enumerate_from}
use Rattle.std.specs.Option.{option_map}
use Rattle.std.specs.Str.{bytes_eq, str_to_ascii_lowercase}
use Rattle.proto_types.specs.declared.tag.field.TheConstants as field
use Rattle.proto_types.specs.declared.tag.message.TheConstants as message
use Rattle.proto_types.specs.declared.records.field.FieldDescriptorProto.{FieldDescriptorProto}
use Rattle.plain_data.specs.Lists.{flat_map_after, listed}
use Rattle.proto_types.specs.Readers.{text_of}
use Rattle.proto_types.specs.declared.file.FileDescriptorProto.{FileDescriptorProto}
use Rattle.proto_types.specs.declared.message.DescriptorProto.{DescriptorProto, out-DescriptorProto}
use Rattle.proto_types.specs.Paths.{entry_path}
use Rattle.pool_faults.specs.Labels.{label_in}
use Rattle.pool_faults.specs.declared.fault.DescriptorErrorKind.{DescriptorErrorKind}
use Rattle.pool_faults.specs.declared.fault.DescriptorErrorKind.TheVariants.{DuplicateFieldCamelCaseName}
use Rattle.pool_types.specs.Syntaxes.{syntax_at, is_proto3}

-- a field with its position in its message
abbrev pub Placed : Type 0
Placed = ℕ × FieldDescriptorProto

-- what a name is told apart by: the name without underscores, in ASCII's lower case
abbrev pub camel_case_key : List ℕ → List ℕ
camel_case_key name = str_to_ascii_lowercase (filter (λ c. not (c == 95)) name)

-- what the name of a field is told apart by
abbrev pub key_at : Placed → List ℕ
key_at f = camel_case_key (text_of f.1.name)

-- the path of the name of a field, by the path of its message and its position
abbrev pub name_path : List ℤ → ℕ → List ℤ
name_path path position = entry_path path message.FIELD position ++ field.NAME ∷ []

-- the fault of two fields of a message whose names have one key, the earlier first
abbrev pub camel_case_fault : List FileDescriptorProto → ℕ → List ℤ → Placed → Placed
    → DescriptorErrorKind
camel_case_fault files file path first second =
    DuplicateFieldCamelCaseName (text_of first.1.name) (text_of second.1.name)
    (label_in files file (name_path path first.0)) (label_in files file (name_path path second.0))

-- the fault of a field behind others whose names have its key: the earliest of these is told
abbrev pub shared_key_faults : List FileDescriptorProto → ℕ → List ℤ → List Placed → Placed
    → List DescriptorErrorKind
shared_key_faults files file path before f =
    listed (option_map (λ first. camel_case_fault files file path first f)
    (find (λ first. bytes_eq (key_at f) (key_at first)) before))

-- the faults of the fields of the message at a path, one field after another
abbrev pub camel_case_faults : List FileDescriptorProto → ℕ → List ℤ → List FieldDescriptorProto
    → List DescriptorErrorKind
camel_case_faults files file path fields =
    flat_map_after (shared_key_faults files file path) (enumerate_from 0 fields)

-- the faults of a message by itself: in proto3 those of fields whose names have one key, and in
-- proto2 none
abbrev pub message_own_faults : List FileDescriptorProto → ℕ → List ℤ → DescriptorProto
    → List DescriptorErrorKind
message_own_faults files file path m = if is_proto3 (syntax_at files file)
    then camel_case_faults files file path (out-DescriptorProto m).field else []
