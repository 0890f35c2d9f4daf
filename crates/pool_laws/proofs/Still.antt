-- Linking makes of a file that is carried to another setting, and whose declarations broke nothing, what it made of it.
use Rattle.std.proofs.Common.{◌≡◌, ◌<◌, ℕ, ℤ, suc, List, [], ◌∷◌, ◌++◌, map, refl, ap, ◌∙◌}
use Rattle.std.specs.List.{AllByRecursion, flat_map}
use Rattle.proto_types.specs.declared.records.field.FieldDescriptorProto.{FieldDescriptorProto}
use Rattle.proto_types.specs.declared.records.service.ServiceDescriptorProto.{ServiceDescriptorProto}
use Rattle.proto_types.specs.declared.tag.file.TheConstants as file
use Rattle.proto_types.specs.declared.tag.message.TheConstants as message
use Rattle.proto_types.specs.Names.{join}
use Rattle.proto_types.specs.Readers.{text_of}
use Rattle.proto_types.specs.Computed.{literals}
use Rattle.proto_types.specs.declared.file.FileDescriptorProto.{FileDescriptorProto}
use Rattle.proto_types.specs.declared.message.DescriptorProto.{DescriptorProto, DescriptorProto', out-DescriptorProto, Row_of-DescriptorProto, end_of-DescriptorProto, more_of-DescriptorProto}
use Rattle.record_walk.specs.declared.counts.Counts.{Counts}
use Rattle.record_walk.specs.Changed.{Changes, changed_fields, changed_file, changed_message, changed_messages, changed_nested, changed_services}
use Rattle.record_walk.specs.Counts.{counted, counting}
use Rattle.record_walk.specs.Declarations.{enums_walk, file_walk, in_file, message_end, message_front, message_walk, messages_walk, nested_walk, service_walk, services_walk}
use Rattle.record_walk.specs.Protos.{of_extension, of_message, of_service}
use Rattle.record_walk.specs.Shown.{Shown, Surrounding, inside, row, shown}
use Rattle.record_walk.specs.Place.{field_at}
use Rattle.reference_pass.specs.SecondPass.{Faults, field_faults, owner_faults}
use Rattle.reference_pass.specs.Linked.{linked, linked_extension, linked_field, linking}
use Rattle.reference_pass.specs.Setting.{Setting}
use Rattle.pool_laws.proofs.Carries.{Carries}
use Rattle.pool_laws.proofs.Extensions.{extension-carried}
use Rattle.pool_laws.proofs.Fields.{carried, kept, breaks-nothing}
use Rattle.pool_laws.proofs.Messages.{parts-of}
use Rattle.reference_pass.proofs.Unbroken.{both-empty}
use Rattle.pool_laws.proofs.Services.{service-carried}
use Rattle.pool_laws.proofs.Told.{mapped-again, told}
use Rattle.pool_laws.proofs.AllOf.{all-front, all-rest}

-- it breaks nothing in the second pass
abbrev pub Unbroken : Setting → Shown → Type 0
Unbroken s d = owner_faults s [] d ≡ []

pub all-unbroken : (s : Setting) (ds : List Shown) → flat_map (owner_faults s []) ds ≡ [] → AllByRecursion (Unbroken s) ds
all-unbroken s [] none = tt
all-unbroken s (d ∷ ds) none = let parts = both-empty (owner_faults s [] d) (flat_map (owner_faults s []) ds) none in (parts.0, all-unbroken s ds parts.1)

module _ {s t : Setting} {c : Changes} {many : ℕ} (carries : Carries s t c many) where
  -- the fields of a message
  module _ (d : Shown) (below : d.file < many) (m : DescriptorProto) where
    abbrev broken : ℕ → FieldDescriptorProto → Faults
    broken i f = field_faults s (d, m) (field_at (inside d) i f) f

    abbrev new : FieldDescriptorProto → FieldDescriptorProto
    new = carried carries d below

    field-linked : (i : ℕ) (f : FieldDescriptorProto) → broken i f ≡ []
        → linked_field t d.file (join d.full_name (text_of (new f).name)) (new f) ≡ linked_field s d.file (join d.full_name (text_of f.name)) f
    field-linked i f none =
        let here = field_at (inside d) i f in
        let name = ap (λ (x : FieldDescriptorProto). text_of x.name) (kept carries d below f) in
        (λ j. linked_field t d.file (join d.full_name (name j)) (new f)) ∙ (carries.typed here below f (breaks-nothing s (d, m) here f none).typed).linked_is

    fields-linked : (i : ℕ) (fs : List FieldDescriptorProto) → told broken i fs ≡ []
        → changed_fields (linked_field t) d.file d.full_name (map new fs) ≡ changed_fields (linked_field s) d.file d.full_name fs
    fields-linked = mapped-again broken (λ f. linked_field t d.file (join d.full_name (text_of f.name)) f) (λ f. linked_field s d.file (join d.full_name (text_of f.name)) f) new field-linked

  -- extensions in surroundings
  extensions-linked : (here : Surrounding) → here.file < many → (tag : ℤ) (i n : ℕ) (xs : List FieldDescriptorProto) → AllByRecursion (Unbroken s) (row of_extension here tag i n xs)
      → changed_fields (linked_extension t) here.file here.scope (changed_fields c.extension here.file here.scope xs) ≡ changed_fields (linked_extension s) here.file here.scope xs
  extensions-linked here below tag i n [] all = refl
  extensions-linked here below tag i n (x ∷ xs) all =
      let d = shown here tag i n (of_extension x) in
      let new = c.extension here.file d.full_name x in
      let name = ap (λ (y : FieldDescriptorProto). text_of y.name) (carries.extensions here.file d.full_name x)
      ∙ ap (λ (y : FieldDescriptorProto). text_of y.name) (carries.kept here.file d.full_name x) in
      let first = (λ j. linked_extension t here.file (join here.scope (name j)) new) ∙ (extension-carried carries d below x [] all.0).linked_is in
      λ j. first j ∷ extensions-linked here below tag (suc i) (suc n) xs all.1 j

  -- services in surroundings
  services-linked : (here : Surrounding) → here.file < many → (i n : ℕ) (vs : List ServiceDescriptorProto) → AllByRecursion (Unbroken s) (services_walk here i n vs)
      → changed_services (linking t) here.file here.scope (changed_services c here.file here.scope vs) ≡ changed_services (linking s) here.file here.scope vs
  services-linked here below i n [] all = refl
  services-linked here below i n (v ∷ vs) all =
      let d = shown here file.SERVICE i n (of_service v) in
      let first = all-front (Unbroken s) (service_walk here i n v) (services_walk here (suc i) (suc n) vs) all in
      let rest = all-rest (Unbroken s) (service_walk here i n v) (services_walk here (suc i) (suc n) vs) all in
      λ j. (service-carried carries.methods d below v first.0).linked_is j ∷ services-linked here below (suc i) (suc n) vs rest j

  -- messages with all that stands in them
  mutual
    unfolding literals

    message-linked : (here : Surrounding) → here.file < many → (tag : ℤ) (i : ℕ) (base : Counts) (m : DescriptorProto) → AllByRecursion (Unbroken s) (message_walk here tag i base m)
        → let full_name = join here.scope (text_of (out-DescriptorProto m).name) in
        changed_message (linking t) here.file full_name (changed_message c here.file full_name m) ≡ changed_message (linking s) here.file full_name m
    message-linked here below tag i base (DescriptorProto' name fields n nested enums ranges extensions options oneofs reserved reserved_names) all =
        let m = DescriptorProto' name fields n nested enums ranges extensions options oneofs reserved reserved_names in
        let d = shown here tag i base.messages (of_message m) in
        let first = counting base (of_message m) in
        let front = message_front (inside d) oneofs fields in
        let deeper = nested_walk (inside d) 0 first nested in
        let after = counted first deeper in
        let behind = message_end (inside d) after enums extensions in
        let inner = all-front (Unbroken s) (front ++ deeper) behind all.1 in
        let last = all-rest (Unbroken s) (front ++ deeper) behind all.1 in
        let fields_are = fields-linked d below m 0 fields all.0 in
        let nested_are = nested-linked (inside d) below 0 first nested (all-rest (Unbroken s) front deeper inner) in
        let extensions_are = extensions-linked (inside d) below message.EXTENSION 0 after.extensions extensions
        (all-rest (Unbroken s) (enums_walk (inside d) message.ENUM_TYPE 0 after.enums enums) (row of_extension (inside d) message.EXTENSION 0 after.extensions extensions) last) in
        λ j. DescriptorProto' name (fields_are j) n (nested_are j) enums ranges (extensions_are j) options oneofs reserved reserved_names

    nested-linked : {n : _} (here : Surrounding) → here.file < many → (i : ℕ) (base : Counts) (nested : Row_of-DescriptorProto n) → AllByRecursion (Unbroken s) (nested_walk here i base nested)
        → changed_nested (linking t) here.file here.scope (changed_nested c here.file here.scope nested) ≡ changed_nested (linking s) here.file here.scope nested
    nested-linked here below i base end_of-DescriptorProto all = refl
    nested-linked here below i base (more_of-DescriptorProto m rest) all =
        let walk = message_walk here message.NESTED_TYPE i base m in
        let new = changed_message c here.file (join here.scope (text_of (out-DescriptorProto m).name)) m in
        let name = (parts-of c here.file (join here.scope (text_of (out-DescriptorProto m).name)) m).name in
        let first = (λ j. changed_message (linking t) here.file (join here.scope (text_of (name j))) new)
        ∙ message-linked here below message.NESTED_TYPE i base m (all-front (Unbroken s) walk (nested_walk here (suc i) (counted base walk) rest) all) in
        let others = nested-linked here below (suc i) (counted base walk) rest (all-rest (Unbroken s) walk (nested_walk here (suc i) (counted base walk) rest) all) in
        λ j. more_of-DescriptorProto (first j) (others j)

  messages-linked : (here : Surrounding) → here.file < many → (tag : ℤ) (i : ℕ) (base : Counts) (ms : List DescriptorProto) → AllByRecursion (Unbroken s) (messages_walk here tag i base ms)
      → changed_messages (linking t) here.file here.scope (changed_messages c here.file here.scope ms) ≡ changed_messages (linking s) here.file here.scope ms
  messages-linked here below tag i base [] all = refl
  messages-linked here below tag i base (m ∷ ms) all =
      let walk = message_walk here tag i base m in
      let new = changed_message c here.file (join here.scope (text_of (out-DescriptorProto m).name)) m in
      let name = (parts-of c here.file (join here.scope (text_of (out-DescriptorProto m).name)) m).name in
      let first = (λ j. changed_message (linking t) here.file (join here.scope (text_of (name j))) new)
      ∙ message-linked here below tag i base m (all-front (Unbroken s) walk (messages_walk here tag (suc i) (counted base walk) ms) all) in
      let others = messages-linked here below tag (suc i) (counted base walk) ms (all-rest (Unbroken s) walk (messages_walk here tag (suc i) (counted base walk) ms) all) in
      λ j. first j ∷ others j

  -- a file
  pub file-linked : (base : Counts) (f : FileDescriptorProto) → base.files < many → flat_map (owner_faults s []) (file_walk base f) ≡ []
      → linked t base.files (changed_file c base.files f) ≡ linked s base.files f
  file-linked base f below none =
      let here = in_file base.files f in
      let all = all-unbroken s (file_walk base f) none in
      let messages = messages_walk here file.MESSAGE_TYPE 0 base f.message_type in
      let after = counted base messages in
      let enums = enums_walk here file.ENUM_TYPE 0 after.enums f.enum_type in
      let services = services_walk here 0 after.services f.service in
      let extensions = row of_extension here file.EXTENSION 0 after.extensions f.extension in
      let three = all-front (Unbroken s) (messages ++ enums ++ services) extensions all.1 in
      let two = all-front (Unbroken s) (messages ++ enums) services three in
      let messages_are = messages-linked here below file.MESSAGE_TYPE 0 base f.message_type (all-front (Unbroken s) messages enums two) in
      let services_are = services-linked here below 0 after.services f.service (all-rest (Unbroken s) (messages ++ enums) services three) in
      let extensions_are = extensions-linked here below file.EXTENSION 0 after.extensions f.extension (all-rest (Unbroken s) (messages ++ enums ++ services) extensions all.1) in
      λ j. record (linked s base.files f) { message_type = messages_are j; service = services_are j; extension = extensions_are j }
