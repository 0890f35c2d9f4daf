-- What files declare, numbered on from other counts: each declaration is moved.
use Rattle.std.proofs.Common.{◌≡◌, ◌<◌, ℕ, ◌+◌, ℤ, suc, List, [], ◌∷◌, ◌++◌, length, refl, ap, ◌∙◌, arith}
use Rattle.proto_types.specs.declared.tag.file.TheConstants as file
use Rattle.proto_types.specs.declared.tag.message.TheConstants as message
use Rattle.proto_types.specs.declared.tag.enum_.TheConstants as enumeration
use Rattle.proto_types.specs.declared.tag.service.TheConstants as service
use Rattle.proto_types.specs.declared.records.enumeration.EnumDescriptorProto.{EnumDescriptorProto}
use Rattle.proto_types.specs.declared.records.field.FieldDescriptorProto.{FieldDescriptorProto}
use Rattle.proto_types.specs.declared.records.service.ServiceDescriptorProto.{ServiceDescriptorProto}
use Rattle.proto_types.specs.Computed.{literals}
use Rattle.proto_types.specs.Names.{join}
use Rattle.proto_types.specs.declared.file.FileDescriptorProto.{FileDescriptorProto}
use Rattle.proto_types.specs.declared.message.DescriptorProto.{DescriptorProto, DescriptorProto', Row_of-DescriptorProto, end_of-DescriptorProto, more_of-DescriptorProto}
use Rattle.proto_types.specs.declared.message.OneofDescriptorProto.{OneofDescriptorProto}
use Rattle.record_walk.specs.declared.counts.Counts.{Counts}
use Rattle.record_walk.specs.Counts.{counted, counting}
use Rattle.record_walk.specs.Declarations.{in_file, enum_walk, enums_walk, service_walk, services_walk, message_front, message_end, message_walk, nested_walk, messages_walk, file_walk, declarations}
use Rattle.record_walk.specs.Protos.{Proto, of_message, of_field, of_oneof, of_service, of_method, of_enum, of_value, of_extension, name_of}
use Rattle.record_walk.specs.Shown.{Shown, Surrounding, shown, row, parts, inside, beside}
use Rattle.proto_types.specs.Paths.{entry_path}
use Rattle.record_walk.proofs.Paths.{one-file}
use Rattle.pool_laws.proofs.Moved.{Moved, AllMoved}
use Rattle.pool_laws.proofs.Paired.{paired-append, paired-four}

module _ (number : ℕ → ℕ) where
  -- what declarations stand in is another, but for the file's number and the parent
  record Around (here there : Surrounding) : Type 0 where
    file : there.file ≡ number here.file
    path : there.path ≡ here.path
    scope : there.scope ≡ here.scope

  shown-moved : (here there : Surrounding) → Around here there → (tag : ℤ) (position i j : ℕ) (proto : Proto) → Moved number (shown here tag position i proto) (shown there tag position j proto)
  shown-moved here there around tag position i j proto = record {
    file = around.file;
    path = λ k. entry_path (around.path k) tag position;
    full_name = λ k. join (around.scope k) (name_of proto);
    proto = refl;
  }

  inside-moved : (d e : Shown) → Moved number d e → Around (inside d) (inside e)
  inside-moved d e moved = record { file = moved.file; path = moved.path; scope = moved.full_name }

  beside-moved : (here there : Surrounding) (d e : Shown) → Around here there → Moved number d e → Around (beside here.scope d) (beside there.scope e)
  beside-moved here there d e around moved = record { file = moved.file; path = moved.path; scope = around.scope }

  row-moved : {X : Type 0} (of : X → Proto) (here there : Surrounding) → Around here there → (tag : ℤ) (position i j : ℕ) (xs : List X)
      → AllMoved number (row of here tag position i xs) (row of there tag position j xs)
  row-moved of here there around tag position i j [] = tt
  row-moved of here there around tag position i j (x ∷ xs) =
      (shown-moved here there around tag position i j (of x), row-moved of here there around tag (suc position) (suc i) (suc j) xs)

  enum-moved : (here there : Surrounding) → Around here there → (tag : ℤ) (position i j : ℕ) (e : EnumDescriptorProto)
      → AllMoved number (enum_walk here tag position i e) (enum_walk there tag position j e)
  enum-moved here there around tag position i j e =
      let d = shown here tag position i (of_enum e) in
      let d2 = shown there tag position j (of_enum e) in
      let moved = shown-moved here there around tag position i j (of_enum e) in
      (moved, row-moved of_value (beside here.scope d) (beside there.scope d2) (beside-moved here there d d2 around moved) enumeration.VALUE 0 0 0 e.value)

  enums-moved : (here there : Surrounding) → Around here there → (tag : ℤ) (position i j : ℕ) (es : List EnumDescriptorProto)
      → AllMoved number (enums_walk here tag position i es) (enums_walk there tag position j es)
  enums-moved here there around tag position i j [] = tt
  enums-moved here there around tag position i j (e ∷ es) =
      paired-append (Moved number) (enum_walk here tag position i e) (enum_walk there tag position j e)
      (enums_walk here tag (suc position) (suc i) es) (enums_walk there tag (suc position) (suc j) es)
      (enum-moved here there around tag position i j e) (enums-moved here there around tag (suc position) (suc i) (suc j) es)

  service-moved : (here there : Surrounding) → Around here there → (position i j : ℕ) (v : ServiceDescriptorProto)
      → AllMoved number (service_walk here position i v) (service_walk there position j v)
  service-moved here there around position i j v =
      let d = shown here file.SERVICE position i (of_service v) in
      let d2 = shown there file.SERVICE position j (of_service v) in
      let moved = shown-moved here there around file.SERVICE position i j (of_service v) in
      (moved, row-moved of_method (inside d) (inside d2) (inside-moved d d2 moved) service.METHOD 0 0 0 v.method)

  services-moved : (here there : Surrounding) → Around here there → (position i j : ℕ) (vs : List ServiceDescriptorProto)
      → AllMoved number (services_walk here position i vs) (services_walk there position j vs)
  services-moved here there around position i j [] = tt
  services-moved here there around position i j (v ∷ vs) =
      paired-append (Moved number) (service_walk here position i v) (service_walk there position j v)
      (services_walk here (suc position) (suc i) vs) (services_walk there (suc position) (suc j) vs)
      (service-moved here there around position i j v) (services-moved here there around (suc position) (suc i) (suc j) vs)

  front-moved : (here there : Surrounding) → Around here there → (oneofs : List OneofDescriptorProto) (fields : List FieldDescriptorProto)
      → AllMoved number (message_front here oneofs fields) (message_front there oneofs fields)
  front-moved here there around oneofs fields =
      paired-append (Moved number) (parts of_oneof here message.ONEOF_DECL oneofs) (parts of_oneof there message.ONEOF_DECL oneofs)
      (parts of_field here message.FIELD fields) (parts of_field there message.FIELD fields)
      (row-moved of_oneof here there around message.ONEOF_DECL 0 0 0 oneofs) (row-moved of_field here there around message.FIELD 0 0 0 fields)

  end-moved : (here there : Surrounding) → Around here there → (b c : Counts) (enums : List EnumDescriptorProto) (extensions : List FieldDescriptorProto)
      → AllMoved number (message_end here b enums extensions) (message_end there c enums extensions)
  end-moved here there around b c enums extensions =
      paired-append (Moved number) (enums_walk here message.ENUM_TYPE 0 b.enums enums) (enums_walk there message.ENUM_TYPE 0 c.enums enums)
      (row of_extension here message.EXTENSION 0 b.extensions extensions) (row of_extension there message.EXTENSION 0 c.extensions extensions)
      (enums-moved here there around message.ENUM_TYPE 0 b.enums c.enums enums) (row-moved of_extension here there around message.EXTENSION 0 b.extensions c.extensions extensions)

  mutual
    unfolding literals

    message-moved : (here there : Surrounding) → Around here there → (tag : ℤ) (position : ℕ) (b c : Counts) (m : DescriptorProto)
        → AllMoved number (message_walk here tag position b m) (message_walk there tag position c m)
    message-moved here there around tag position b c (DescriptorProto' name fields n nested enums ranges extensions options oneofs reserved reserved_names) =
        let m = DescriptorProto' name fields n nested enums ranges extensions options oneofs reserved reserved_names in
        let d = shown here tag position b.messages (of_message m) in
        let d2 = shown there tag position c.messages (of_message m) in
        let moved = shown-moved here there around tag position b.messages c.messages (of_message m) in
        let within = inside-moved d d2 moved in
        let first = counting b (of_message m) in
        let first2 = counting c (of_message m) in
        let front = message_front (inside d) oneofs fields in
        let front2 = message_front (inside d2) oneofs fields in
        let deeper = nested_walk (inside d) 0 first nested in
        let deeper2 = nested_walk (inside d2) 0 first2 nested in (
          moved,
          paired-append (Moved number) (front ++ deeper) (front2 ++ deeper2)
              (message_end (inside d) (counted first deeper) enums extensions) (message_end (inside d2) (counted first2 deeper2) enums extensions)
              (paired-append (Moved number) front front2 deeper deeper2 (front-moved (inside d) (inside d2) within oneofs fields) (nested-moved (inside d) (inside d2) within 0 first first2 nested))
              (end-moved (inside d) (inside d2) within (counted first deeper) (counted first2 deeper2) enums extensions),
        )

    nested-moved : {n : _} (here there : Surrounding) → Around here there → (position : ℕ) (b c : Counts) (nested : Row_of-DescriptorProto n)
        → AllMoved number (nested_walk here position b nested) (nested_walk there position c nested)
    nested-moved here there around position b c end_of-DescriptorProto = tt
    nested-moved here there around position b c (more_of-DescriptorProto m rest) =
        let first = message_walk here message.NESTED_TYPE position b m in
        let first2 = message_walk there message.NESTED_TYPE position c m in
        paired-append (Moved number) first first2 (nested_walk here (suc position) (counted b first) rest) (nested_walk there (suc position) (counted c first2) rest)
        (message-moved here there around message.NESTED_TYPE position b c m) (nested-moved here there around (suc position) (counted b first) (counted c first2) rest)

  messages-moved : (here there : Surrounding) → Around here there → (tag : ℤ) (position : ℕ) (b c : Counts) (ms : List DescriptorProto)
      → AllMoved number (messages_walk here tag position b ms) (messages_walk there tag position c ms)
  messages-moved here there around tag position b c [] = tt
  messages-moved here there around tag position b c (m ∷ ms) =
      let first = message_walk here tag position b m in
      let first2 = message_walk there tag position c m in
      paired-append (Moved number) first first2 (messages_walk here tag (suc position) (counted b first) ms) (messages_walk there tag (suc position) (counted c first2) ms)
      (message-moved here there around tag position b c m) (messages-moved here there around tag (suc position) (counted b first) (counted c first2) ms)

  -- what a file declares, whatever the counts before it are
  pub file-moved : (b c : Counts) (f : FileDescriptorProto) → c.files ≡ number b.files → AllMoved number (file_walk b f) (file_walk c f)
  file-moved b c f is =
      let here = in_file b.files f in
      let there = in_file c.files f in
      let around : Around here there = record { file = is; path = refl; scope = refl } in
      let messages = messages_walk here file.MESSAGE_TYPE 0 b f.message_type in
      let messages2 = messages_walk there file.MESSAGE_TYPE 0 c f.message_type in
      let after = counted b messages in
      let after2 = counted c messages2 in
      let enums = enums_walk here file.ENUM_TYPE 0 after.enums f.enum_type in
      let enums2 = enums_walk there file.ENUM_TYPE 0 after2.enums f.enum_type in
      let services = services_walk here 0 after.services f.service in
      let services2 = services_walk there 0 after2.services f.service in
      let extensions = row of_extension here file.EXTENSION 0 after.extensions f.extension in
      let extensions2 = row of_extension there file.EXTENSION 0 after2.extensions f.extension in (
        record { file = is; path = refl; full_name = refl; proto = refl },
        paired-four (Moved number) messages enums services extensions messages2 enums2 services2 extensions2
            (messages-moved here there around file.MESSAGE_TYPE 0 b c f.message_type)
            (enums-moved here there around file.ENUM_TYPE 0 after.enums after2.enums f.enum_type)
            (services-moved here there around 0 after.services after2.services f.service)
            (row-moved of_extension here there around file.EXTENSION 0 after.extensions after2.extensions f.extension),
      )

  -- what files declare, one after another, where each has the number given
  pub declarations-moved : (b c : Counts) (fs : List FileDescriptorProto) → ((i : ℕ) → i < length fs → c.files + i ≡ number (b.files + i))
      → AllMoved number (declarations b fs) (declarations c fs)
  declarations-moved b c [] are = tt
  declarations-moved b c (f ∷ fs) are =
      let first = file_walk b f in
      let first2 = file_walk c f in
      let next = counted b first in
      let next2 = counted c first2 in
      let here : c.files ≡ number b.files = let zero_left : c.files ≡ c.files + 0 = omega arith in let zero_right : b.files + 0 ≡ b.files = omega arith in
      zero_left ∙ are 0 (omega arith) ∙ ap number zero_right in
      let later : (i : ℕ) → i < length fs → next2.files + i ≡ number (next.files + i) = λ i below.
      let left : next2.files + i ≡ c.files + suc i = omega (arith, one-file c f) in
      let right : b.files + suc i ≡ next.files + i = omega (arith, one-file b f) in
      left ∙ are (suc i) (omega (arith, below)) ∙ ap number right in
      paired-append (Moved number) first first2 (declarations next fs) (declarations next2 fs) (file-moved b c f here) (declarations-moved next next2 fs later)
