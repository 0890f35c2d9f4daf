-- What files declare, in the order of the walk: a file, its messages, enums, services and
-- extensions; a message, its oneofs, fields, nested messages, enums and extensions; an enum and its
-- values; a service and its methods.
use Rattle.std.specs.Prelude.{◌≡◌, ℕ, suc, ℤ, List, [], ◌∷◌, ◌++◌}
use Rattle.std.specs.declared.option.Option.TheVariants.{None}
use Rattle.proto_types.specs.declared.tag.file.TheConstants as file
use Rattle.proto_types.specs.declared.tag.message.TheConstants as message
use Rattle.proto_types.specs.declared.tag.enum_.TheConstants as enumeration
use Rattle.proto_types.specs.declared.tag.service.TheConstants as service
use Rattle.record_walk.specs.declared.counts.Counts.{Counts}
use Rattle.proto_types.specs.declared.file.FileDescriptorProto.{FileDescriptorProto}
use Rattle.proto_types.specs.declared.message.DescriptorProto.{DescriptorProto, out-DescriptorProto}
use Rattle.proto_types.specs.declared.message.DescriptorProto.{DescriptorProto'}
use Rattle.proto_types.specs.declared.message.DescriptorProto.{Row_of-DescriptorProto}
use Rattle.proto_types.specs.declared.message.DescriptorProto.{end_of-DescriptorProto}
use Rattle.proto_types.specs.declared.message.DescriptorProto.{more_of-DescriptorProto}
use Rattle.proto_types.specs.declared.records.enumeration.EnumDescriptorProto.{EnumDescriptorProto}
use Rattle.proto_types.specs.declared.records.field.FieldDescriptorProto.{FieldDescriptorProto}
use Rattle.proto_types.specs.declared.message.OneofDescriptorProto.{OneofDescriptorProto}
use Rattle.proto_types.specs.declared.records.service.ServiceDescriptorProto.{ServiceDescriptorProto}
use Rattle.proto_types.specs.Readers.{text_of}
use Rattle.record_walk.specs.Protos.{of_message, of_field, of_oneof, of_service, of_method, of_enum}
use Rattle.record_walk.specs.Protos.{of_value, of_extension}
use Rattle.record_walk.specs.Shown.{Shown, Surrounding, shown, file_shown, inside, beside, row}
use Rattle.record_walk.specs.Shown.{parts}
use Rattle.record_walk.specs.Counts.{counted, counting}

-- an enum, and then its values, which are named beside it
abbrev pub enum_walk : Surrounding → ℤ → ℕ → ℕ → EnumDescriptorProto → List Shown
enum_walk here tag position index e =
    let d = shown here tag position index (of_enum e) in d
    ∷ parts of_value (beside here.scope d) enumeration.VALUE e.value

-- the enums of a list from a position on, each with its values, indexed on from an index
abbrev pub enums_walk : Surrounding → ℤ → ℕ → ℕ → List EnumDescriptorProto → List Shown
enums_walk here tag position index [] = []
enums_walk here tag position index (e ∷ es) =
    enum_walk here tag position index e ++ enums_walk here tag (suc position) (suc index) es

-- a service, and then its methods
abbrev pub service_walk : Surrounding → ℕ → ℕ → ServiceDescriptorProto → List Shown
service_walk here position index s =
    let d = shown here file.SERVICE position index (of_service s) in d
    ∷ parts of_method (inside d) service.METHOD s.method

-- the services of a file from a position on, each with its methods, indexed on from an index
abbrev pub services_walk : Surrounding → ℕ → ℕ → List ServiceDescriptorProto → List Shown
services_walk here position index [] = []
services_walk here position index (s ∷ ss) =
    service_walk here position index s ++ services_walk here (suc position) (suc index) ss

-- what stands before the nested messages of a message: the message, its oneofs and its fields
abbrev pub message_front : Surrounding → List OneofDescriptorProto → List FieldDescriptorProto
    → List Shown
message_front here oneofs fields = parts of_oneof here message.ONEOF_DECL oneofs
    ++ parts of_field here message.FIELD fields

-- what stands behind the nested messages of a message, numbered on from counts: its enums and its
-- extensions
abbrev pub message_end : Surrounding → Counts → List EnumDescriptorProto → List FieldDescriptorProto
    → List Shown
message_end here after enums extensions =
    enums_walk here message.ENUM_TYPE 0 after.enums enums
    ++ row of_extension here message.EXTENSION 0 after.extensions extensions

-- a message, its oneofs, its fields, its nested messages, walked in the same way, its enums and its
-- extensions, numbered on from counts; the scope is the full name of the message
abbrev mutual
  pub message_walk : Surrounding → ℤ → ℕ → Counts → DescriptorProto → List Shown
  message_walk here tag position base
      (DescriptorProto' name fields n nested enums ranges extensions options oneofs reserved
      reserved_names) =
      let m = DescriptorProto' name fields n nested enums ranges extensions options oneofs reserved
      reserved_names in
      let d = shown here tag position base.messages (of_message m) in
      let deeper = nested_walk (inside d) 0 (counting base (of_message m)) nested in
      d ∷ (message_front (inside d) oneofs fields ++ deeper
      ++ message_end (inside d) (counted (counting base (of_message m)) deeper) enums extensions)

  -- the nested messages of a message, each with all that stands in it, numbered on from counts
  pub nested_walk : {n : _} → Surrounding → ℕ → Counts → Row_of-DescriptorProto n → List Shown
  nested_walk here position base end_of-DescriptorProto = []
  nested_walk here position base (more_of-DescriptorProto m rest) =
      let first = message_walk here message.NESTED_TYPE position base m in
      first ++ nested_walk here (suc position) (counted base first) rest

-- the messages of a list from a position on, each with all that stands in it, numbered on from
-- counts
abbrev pub messages_walk : Surrounding → ℤ → ℕ → Counts → List DescriptorProto → List Shown
messages_walk here tag position base [] = []
messages_walk here tag position base (m ∷ ms) =
    let first = message_walk here tag position base m in
    first ++ messages_walk here tag (suc position) (counted base first) ms

-- law: the walk of a message is its front, its nested messages one after another, and its end
abbrev pub MessageWalkOpens : Type 0
MessageWalkOpens = (here : Surrounding) (tag : ℤ) (position : ℕ) (base : Counts)
    (m : DescriptorProto) →
    let d = shown here tag position base.messages (of_message m) in
    let deeper = messages_walk (inside d) message.NESTED_TYPE 0 (counting base (of_message m))
    (out-DescriptorProto m).nested_type in
    message_walk here tag position base m
    ≡ d ∷ (message_front (inside d) (out-DescriptorProto m).oneof_decl (out-DescriptorProto m).field
    ++ deeper
    ++ message_end (inside d) (counted (counting base (of_message m)) deeper)
    (out-DescriptorProto m).enum_type (out-DescriptorProto m).extension)

-- what surrounds the declarations of a file: the scope is its package, and the path is empty
abbrev pub in_file : ℕ → FileDescriptorProto → Surrounding
in_file index f = record { file = index; path = []; scope = text_of f.«package»; parent = None }

-- a file, its messages, its enums, its services and its extensions, numbered on from counts
abbrev pub file_walk : Counts → FileDescriptorProto → List Shown
file_walk base f =
    let here = in_file base.files f in
    let messages = messages_walk here file.MESSAGE_TYPE 0 base f.message_type in
    let after = counted base messages in
    file_shown [] base.files f
    ∷ (messages ++ enums_walk here file.ENUM_TYPE 0 after.enums f.enum_type
    ++ services_walk here 0 after.services f.service
    ++ row of_extension here file.EXTENSION 0 after.extensions f.extension)

-- the declarations of files in order; each counted kind is indexed on from the counts of a pool
abbrev pub declarations : Counts → List FileDescriptorProto → List Shown
declarations base [] = []
declarations base (f ∷ fs) = let first = file_walk base f in first
    ++ declarations (counted base first) fs
