-- The element in which a fault stands, by its full name.
use Rattle.std.specs.Prelude.{ℕ, ℤ, List, [], ◌∷◌, if◌then◌else◌}
use Rattle.std.specs.Option.{option_map, option_map_or, option_and_then}
use Rattle.std.specs.Ordering.{int_eq}
use Rattle.std.specs.declared.option.Option.{Option}
use Rattle.std.specs.declared.option.Option.TheVariants.{None}
use Rattle.plain_data.specs.Lists.{at}
use Rattle.proto_types.specs.Names.{join}
use Rattle.proto_types.specs.Readers.{text_of}
use Rattle.proto_types.specs.declared.file.FileDescriptorProto.{FileDescriptorProto}
use Rattle.proto_types.specs.declared.message.DescriptorProto.{DescriptorProto, out-DescriptorProto}
use Rattle.proto_types.specs.declared.records.enumeration.EnumDescriptorProto.{EnumDescriptorProto}
use Rattle.proto_types.specs.declared.records.service.ServiceDescriptorProto.{ServiceDescriptorProto}
use Rattle.proto_types.specs.declared.tag.file.TheConstants as file
use Rattle.proto_types.specs.declared.tag.message.TheConstants as message
use Rattle.proto_types.specs.declared.tag.enum_.TheConstants as enumeration
use Rattle.proto_types.specs.declared.tag.service.TheConstants as service
use Rattle.pool_faults.specs.declared.label.Label.{Label}
use Rattle.verdict_texts.specs.Known.{only}

-- the name of what a path of an enum stands in: a value, or else the enum
abbrev pub name_in_enum : EnumDescriptorProto → List ℤ → List ℕ
name_in_enum e [] = text_of e.name
name_in_enum e (_ ∷ []) = text_of e.name
name_in_enum e (tag ∷ position ∷ _) = if int_eq tag enumeration.VALUE
    then option_map_or (λ v. text_of v.name) (at e.value position) (text_of e.name)
    else text_of e.name

-- the name of the method in which a path of a service stands
abbrev pub method_name : ServiceDescriptorProto → List ℤ → Option (List ℕ)
method_name s [] = None
method_name s (_ ∷ []) = None
method_name s (tag ∷ position ∷ _) = if int_eq tag service.METHOD
    then option_map (λ m. text_of m.name) (at s.method position) else None

-- the full name of something, or of what stands in it, if there is such
abbrev pub full_or : List ℕ → Option (List ℕ) → List ℕ
full_or full name = option_map_or (join full) name full

-- the name of a field, an extension or a oneof of a message, by the number of its list and its
-- position there
abbrev pub leaf_name : DescriptorProto → ℤ → ℤ → Option (List ℕ)
leaf_name m tag position =
    if int_eq tag message.FIELD
    then option_map (λ f. text_of f.name) (at (out-DescriptorProto m).field position)
    else (if int_eq tag message.EXTENSION
    then option_map (λ f. text_of f.name) (at (out-DescriptorProto m).extension position)
    else (if int_eq tag message.ONEOF_DECL
    then option_map (λ o. text_of o.name) (at (out-DescriptorProto m).oneof_decl position)
    else None))

-- the name of what a path of a message stands in, which is no nested message: a list's number, a
-- position there, and the rest of the path
abbrev pub name_in_message : DescriptorProto → ℤ → ℤ → List ℤ → Option (List ℕ)
name_in_message m tag position path =
    if int_eq tag message.ENUM_TYPE
    then option_map (λ e. name_in_enum e path) (at (out-DescriptorProto m).enum_type position)
    else leaf_name m tag position

-- the name of a message
abbrev pub message_name : DescriptorProto → List ℕ
message_name m = text_of (out-DescriptorProto m).name

-- the full name of what a path of a message stands in: what is innermost of the message, whose full
-- name is given, and what it declares
abbrev pub element_in_message : List ℕ → DescriptorProto → List ℤ → List ℕ
element_in_message full m [] = full
element_in_message full m (_ ∷ []) = full
element_in_message full m (tag ∷ position ∷ path) =
    if int_eq tag message.NESTED_TYPE
    then option_map_or (λ n. element_in_message (join full (message_name n)) n path)
    (at (out-DescriptorProto m).nested_type position) full
    else full_or full (name_in_message m tag position path)

-- the full name of what a path of a file stands in: the innermost declaration, if there is one
abbrev pub element_in : FileDescriptorProto → List ℤ → Option (List ℕ)
element_in f [] = None
element_in f (_ ∷ []) = None
element_in f (tag ∷ position ∷ path) =
    let scope = text_of f.«package» in
    if int_eq tag file.MESSAGE_TYPE
    then option_map (λ m. element_in_message (join scope (message_name m)) m path)
    (at f.message_type position)
    else (if int_eq tag file.ENUM_TYPE
    then option_map (λ e. join scope (name_in_enum e path)) (at f.enum_type position)
    else (if int_eq tag file.SERVICE
    then option_map (λ s. full_or (join scope (text_of s.name)) (method_name s path))
    (at f.service position)
    else (if int_eq tag file.EXTENSION
    then option_map (λ x. join scope (text_of x.name)) (at f.extension position)
    else None)))

-- the full name of what a label stands in, by the only file with its name
abbrev pub element_of : List FileDescriptorProto → Label → Option (List ℕ)
element_of files label =
    option_and_then (λ f. element_in f label.path) (only files label.file)
