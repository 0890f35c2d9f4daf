-- The record that a path of field numbers and positions leads to.
use Rattle.std.specs.Prelude.{◌≡◌, ℕ, ◌-◌, ℤ, nat_le, List, [], ◌∷◌, slice_get, if◌then◌else◌}
use Rattle.std.specs.List.{All}
use Rattle.std.specs.Ordering.{int_eq}
use Rattle.std.specs.Option.{option_map, option_and_then}
use Rattle.std.specs.declared.option.Option.{Option}
use Rattle.std.specs.declared.option.Option.TheVariants.{None, Some}
use Rattle.proto_types.specs.declared.tag.file.TheConstants as file
use Rattle.proto_types.specs.declared.tag.message.TheConstants as message
use Rattle.proto_types.specs.declared.tag.enum_.TheConstants as enumeration
use Rattle.proto_types.specs.declared.tag.service.TheConstants as service
use Rattle.record_walk.specs.declared.counts.Counts.{Counts}
use Rattle.proto_types.specs.declared.file.FileDescriptorProto.{FileDescriptorProto}
use Rattle.proto_types.specs.declared.message.DescriptorProto.{DescriptorProto, out-DescriptorProto}
use Rattle.proto_types.specs.declared.records.enumeration.EnumDescriptorProto.{EnumDescriptorProto}
use Rattle.proto_types.specs.declared.records.service.ServiceDescriptorProto.{ServiceDescriptorProto}
use Rattle.plain_data.specs.Lists.{at}
use Rattle.record_walk.specs.Protos.{Proto, of_file, of_message, of_field, of_oneof, of_service}
use Rattle.record_walk.specs.Protos.{of_method, of_enum, of_value, of_extension}
use Rattle.record_walk.specs.Declarations.{file_walk, declarations}

-- the entry of a list at a position, where the path ends there
abbrev pub last_entry : {X : Type 0} → List X → ℤ → List ℤ → Option X
last_entry xs position [] = at xs position
last_entry xs position (_ ∷ _) = None

-- the record at a position of a list of records in which nothing more stands; a path that goes on
-- behind it leads nowhere
abbrev pub leaf : {X : Type 0} → (X → Proto) → List X → ℤ → List ℤ → Option Proto
leaf of xs position path = option_map of (last_entry xs position path)

-- the record that a path leads to in an enum: the empty path to the enum, 2 and a position to a
-- value
abbrev pub leads_in_enum : EnumDescriptorProto → List ℤ → Option Proto
leads_in_enum e [] = Some (of_enum e)
leads_in_enum e (_ ∷ []) = None
leads_in_enum e (tag ∷ position ∷ path) = if int_eq tag enumeration.VALUE
    then leaf of_value e.value position path else None

-- the record that a path leads to in a service: the empty path to the service, 2 and a position to
-- a method
abbrev pub leads_in_service : ServiceDescriptorProto → List ℤ → Option Proto
leads_in_service s [] = Some (of_service s)
leads_in_service s (_ ∷ []) = None
leads_in_service s (tag ∷ position ∷ path) = if int_eq tag service.METHOD
    then leaf of_method s.method position path else None

-- the record that a path leads to in a message: the empty path to the message; 2 and a position to
-- a field, 3 to a nested message, 4 to an enum, 6 to an extension, 8 to a oneof, and on in a nested
-- message and an enum
abbrev pub leads_in_message : DescriptorProto → List ℤ → Option Proto
leads_in_message m [] = Some (of_message m)
leads_in_message m (_ ∷ []) = None
leads_in_message m (tag ∷ position ∷ path) =
    if int_eq tag message.FIELD then leaf of_field (out-DescriptorProto m).field position path
    else (if int_eq tag message.NESTED_TYPE
    then option_and_then (λ n. leads_in_message n path)
    (at (out-DescriptorProto m).nested_type position)
    else (if int_eq tag message.ENUM_TYPE
    then option_and_then (λ e. leads_in_enum e path) (at (out-DescriptorProto m).enum_type position)
    else (if int_eq tag message.EXTENSION
    then leaf of_extension (out-DescriptorProto m).extension position path
    else (if int_eq tag message.ONEOF_DECL
    then leaf of_oneof (out-DescriptorProto m).oneof_decl position path
    else None))))

-- the record that a path leads to in a file: the empty path to the file; 4 and a position to a
-- message, 5 to an enum, 6 to a service, 7 to an extension, and on in a message, an enum and a
-- service
abbrev pub leads : FileDescriptorProto → List ℤ → Option Proto
leads f [] = Some (of_file f)
leads f (_ ∷ []) = None
leads f (tag ∷ position ∷ path) =
    if int_eq tag file.MESSAGE_TYPE
    then option_and_then (λ m. leads_in_message m path) (at f.message_type position)
    else (if int_eq tag file.ENUM_TYPE
    then option_and_then (λ e. leads_in_enum e path) (at f.enum_type position)
    else (if int_eq tag file.SERVICE
    then option_and_then (λ s. leads_in_service s path) (at f.service position)
    else (if int_eq tag file.EXTENSION then leaf of_extension f.extension position path
    else None)))

-- law: the path of each declaration of a file leads to its record
abbrev pub PathsLead : Type 0
PathsLead = (base : Counts) (f : FileDescriptorProto)
    → All (λ d. leads f d.path ≡ Some d.proto) (file_walk base f)

-- the file with an index, of files that are numbered on from the counts of a pool
abbrev pub file_with : Counts → List FileDescriptorProto → ℕ → Option FileDescriptorProto
file_with base files index =
    if nat_le base.files index then slice_get files (index - base.files) else None

-- law: the path of each declaration of files leads to its record, in the file with its index
abbrev pub PathsLeadIn : Counts → List FileDescriptorProto → Type 0
PathsLeadIn base files = All
    (λ d. option_and_then (λ f. leads f d.path) (file_with base files d.file) ≡ Some d.proto)
    (declarations base files)
