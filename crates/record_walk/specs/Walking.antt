-- The list of declarations that a walk makes of a file.
use Rattle.std.specs.Prelude.{◌≡◌, ℕ, ◌≤◌, true, List, ◌++◌, map, string_bytes}
use Rattle.std.specs.List.{list_all}
use Rattle.std.specs.declared.option.Option.{Option}
use Rattle.std.specs.declared.option.Option.TheVariants.{None, Some}
use Rattle.record_walk.specs.declared.counts.Counts.{Counts}
use Rattle.record_walk.specs.declared.walking.part.Part.{Part}
use Rattle.record_walk.specs.declared.walking.part.Part.TheVariants as part
use Rattle.record_walk.specs.declared.walking.records.Records.{Records}
use Rattle.record_walk.specs.declared.walking.records.Records.TheVariants as records
use Rattle.record_walk.specs.declared.walking.site.Site.{Site}
use Rattle.record_walk.specs.declared.walking.located.Located.{Located}
use Rattle.record_walk.specs.Counts.{counted, count_limit, lists_fit}
use Rattle.record_walk.specs.Protos.{Proto, of_file, of_message, of_field, of_oneof, of_service}
use Rattle.record_walk.specs.Protos.{of_method, of_enum, of_value, of_extension}
use Rattle.record_walk.specs.Shown.{Shown, shown_as, row}
use Rattle.record_walk.specs.Declarations.{messages_walk, enums_walk, services_walk, in_file}
use Rattle.proto_types.specs.declared.tag.file.TheConstants as file
use Rattle.proto_types.specs.declared.file.FileDescriptorProto.{FileDescriptorProto}

-- the record that a part of a walk borrows
abbrev pub proto_of : Part → Proto
proto_of (part.Message m _) = of_message m.now
proto_of (part.Field f _) = of_field f.now
proto_of (part.Oneof o _) = of_oneof o.now
proto_of (part.Service s) = of_service s.now
proto_of (part.Method m _) = of_method m.now
proto_of (part.Enum e _) = of_enum e.now
proto_of (part.EnumValue v _) = of_value v.now
proto_of (part.Extension x _) = of_extension x.now

-- the index of what a part of a walk stands in, where it stands in a message, an enum or a service
abbrev pub parent_of : Part → Option ℕ
parent_of (part.Message _ parent) = parent
parent_of (part.Field _ parent) = Some parent
parent_of (part.Oneof _ parent) = Some parent
parent_of (part.Service _) = None
parent_of (part.Method _ parent) = Some parent
parent_of (part.Enum _ parent) = parent
parent_of (part.EnumValue _ parent) = Some parent
parent_of (part.Extension _ parent) = parent

-- the records of a list that a walk borrows
abbrev pub protos_in : Records → List Proto
protos_in (records.Messages ms _) = map of_message ms.now
protos_in (records.Fields fs _) = map of_field fs.now
protos_in (records.Oneofs os _) = map of_oneof os.now
protos_in (records.Services ss) = map of_service ss.now
protos_in (records.Methods ms _) = map of_method ms.now
protos_in (records.Enums es _) = map of_enum es.now
protos_in (records.EnumValues vs _) = map of_value vs.now
protos_in (records.Extensions xs _) = map of_extension xs.now

-- the index of what the records of a list stand in, where they stand in a message, an enum or a
-- service
abbrev pub parent_in : Records → Option ℕ
parent_in (records.Messages _ parent) = parent
parent_in (records.Fields _ parent) = Some parent
parent_in (records.Oneofs _ parent) = Some parent
parent_in (records.Services _) = None
parent_in (records.Methods _ parent) = Some parent
parent_in (records.Enums _ parent) = parent
parent_in (records.EnumValues _ parent) = Some parent
parent_in (records.Extensions _ parent) = parent

-- the index of the next record of a kind: how many of the kind were counted, or the position where
-- the kind is not counted
abbrev pub index_at : Counts → ℕ → Proto → ℕ
index_at c position (of_file _) = c.files
index_at c position (of_message _) = c.messages
index_at c position (of_enum _) = c.enums
index_at c position (of_service _) = c.services
index_at c position (of_extension _) = c.extensions
index_at c position _ = position

-- a record as the declaration that it is where a walk stands
abbrev pub located : Site → Located → Shown
located s l = shown_as s.path.items (string_bytes s.name) s.file (parent_of l.part) l.index
    (proto_of l.part)

-- all that stands in the file with an index, numbered on from counts
abbrev pub within_file : ℕ → Counts → FileDescriptorProto → List Shown
within_file index base f =
    let here = in_file index f in
    let messages = messages_walk here file.MESSAGE_TYPE 0 base f.message_type in
    let after = counted base messages in
    messages ++ enums_walk here file.ENUM_TYPE 0 after.enums f.enum_type
    ++ services_walk here 0 after.services f.service
    ++ row of_extension here file.EXTENSION 0 after.extensions f.extension

-- each count is one that a pool can hold
pub record WithinLimits (c : Counts) : Type 0 where
  pub files : c.files ≤ count_limit
  pub messages : c.messages ≤ count_limit
  pub enums : c.enums ≤ count_limit
  pub services : c.services ≤ count_limit
  pub extensions : c.extensions ≤ count_limit

-- no list of some declarations is too long, and the counts after them are within the limits
pub record Room (base : Counts) (ds : List Shown) : Type 0 where
  pub short : list_all (λ d. lists_fit d.proto) ds ≡ true
  pub within : WithinLimits (counted base ds)
