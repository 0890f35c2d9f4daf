-- What is told of an index that is no position: in which list it stands, and of how long a list it
-- is no position.
use Rattle.std.specs.Prelude.{ℕ, ℤ, List, [], ◌∷◌, ◌++◌, codes, length, if◌then◌else◌}
use Rattle.std.specs.Fmt.{decimal, signed_decimal}
use Rattle.std.specs.Option.{option_map, option_and_then}
use Rattle.std.specs.Ordering.{int_eq}
use Rattle.std.specs.declared.option.Option.{Option}
use Rattle.std.specs.declared.option.Option.TheVariants.{None}
use Rattle.plain_data.specs.Lists.{at}
use Rattle.proto_types.specs.declared.file.FileDescriptorProto.{FileDescriptorProto}
use Rattle.proto_types.specs.declared.message.DescriptorProto.{DescriptorProto, out-DescriptorProto}
use Rattle.proto_types.specs.declared.tag.file.TheConstants as file
use Rattle.proto_types.specs.declared.tag.message.TheConstants as message
use Rattle.pool_faults.specs.declared.label.Label.{Label}
use Rattle.verdict_texts.specs.FaultKinds.{is_at, no_such_index}
use Rattle.verdict_texts.specs.Known.{only}

-- an index, and the length of the list of which it should be a position
abbrev pub Found : Type 0
Found = ℤ × ℕ

-- the oneof index of the field to which a path of a message leads
abbrev pub oneof_index : DescriptorProto → List ℤ → Option Found
oneof_index m [] = None
oneof_index m (_ ∷ []) = None
oneof_index m (tag ∷ position ∷ path) =
    if int_eq tag message.NESTED_TYPE
    then option_and_then (λ n. oneof_index n path) (at (out-DescriptorProto m).nested_type position)
    else option_and_then
    (λ f. option_map (λ index. (index, length (out-DescriptorProto m).oneof_decl)) f.oneof_index)
    (at (out-DescriptorProto m).field position)

-- the index at a position of a list of indexes of imports
abbrev pub import_index : FileDescriptorProto → List ℤ → ℤ → Option Found
import_index f indexes position =
    option_map (λ index. (index, length f.dependency)) (at indexes position)

-- the index to which a path of a file leads
abbrev pub index_at : FileDescriptorProto → List ℤ → Option Found
index_at f [] = None
index_at f (_ ∷ []) = None
index_at f (tag ∷ position ∷ path) =
    if int_eq tag file.PUBLIC_DEPENDENCY then import_index f f.public_dependency position
    else (if int_eq tag file.WEAK_DEPENDENCY then import_index f f.weak_dependency position
    else option_and_then (λ m. oneof_index m path) (at f.message_type position))

-- the word of descriptor.proto for the index to which a path leads
abbrev pub index_word : List ℤ → List ℕ
index_word path =
    if is_at path 2 file.PUBLIC_DEPENDENCY then codes "public_dependency"
    else (if is_at path 2 file.WEAK_DEPENDENCY then codes "weak_dependency"
    else codes "oneof_index")

-- an index, as it is told
abbrev pub index_words : List ℕ → Found → List ℕ
index_words word found = word ++ (codes " is " ++ (signed_decimal found.0
    ++ (codes ", counted from 0, of a list of " ++ (decimal found.1
    ++ (codes "; " ++ no_such_index)))))

-- what is told of the index at a label, by the only file with its name
abbrev pub index_note : List FileDescriptorProto → Label → Option (List ℕ)
index_note files label = option_map (index_words (index_word label.path))
    (option_and_then (λ f. index_at f label.path) (only files label.file))
