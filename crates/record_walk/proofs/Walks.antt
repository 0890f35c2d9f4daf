-- What holds of each declaration that a list of records shows holds of the whole walk.
use Rattle.std.proofs.Common.{ℕ, zero, suc, ◌<◌, ℤ, List, [], ◌∷◌, ◌++◌, sym, subst, arith}
use Rattle.std.specs.List.{All}
use Rattle.std.proofs.lemmas.List.Elements.{All-nil, All-cons, All-append}
use denote.Param.Weighed.{most}
use Rattle.proto_types.specs.declared.tag.file.TheConstants as file
use Rattle.proto_types.specs.declared.tag.message.TheConstants as message
use Rattle.proto_types.specs.declared.tag.enum_.TheConstants as enumeration
use Rattle.proto_types.specs.declared.tag.service.TheConstants as service
use Rattle.proto_types.specs.declared.file.FileDescriptorProto.{FileDescriptorProto}
use Rattle.proto_types.specs.declared.message.DescriptorProto.{DescriptorProto, out-DescriptorProto, size-DescriptorProto, size_is-DescriptorProto}
use Rattle.proto_types.specs.declared.records.enumeration.EnumDescriptorProto.{EnumDescriptorProto}
use Rattle.proto_types.specs.declared.records.service.ServiceDescriptorProto.{ServiceDescriptorProto}
use Rattle.record_walk.specs.declared.counts.Counts.{Counts}
use Rattle.record_walk.specs.Protos.{Proto, of_file, of_message, of_field, of_oneof, of_service, of_method, of_enum, of_value, of_extension}
use Rattle.record_walk.specs.Shown.{Shown, Surrounding, row, parts, shown, file_shown, inside, beside}
use Rattle.record_walk.specs.Counts.{counted, counting}
use Rattle.record_walk.specs.Declarations.{in_file, enum_walk, enums_walk, service_walk, services_walk, message_walk, messages_walk, file_walk}
use Rattle.record_walk.specs.Walking.{within_file}
use Rattle.record_walk.proofs.Leading.{message-walk-opens}

-- a record that stands in a file
abbrev pub IsInside : Proto → Type 0
IsInside (of_file f) = ⊥
IsInside _ = Unit {0}

-- what holds of all that stands in surroundings of some kind, where what stands in that is surrounded so too
module _ (P : Shown → Type 0) (Q : Surrounding → Type 0)
    (of_each : (here : Surrounding) (tag : ℤ) (position index : ℕ) (proto : Proto) → IsInside proto → Q here → P (shown here tag position index proto))
    (within : (here : Surrounding) (tag : ℤ) (position index : ℕ) (proto : Proto) → Q here → Q (inside (shown here tag position index proto)))
    (around : (here : Surrounding) (tag : ℤ) (position index : ℕ) (proto : Proto) → Q here → Q (beside here.scope (shown here tag position index proto))) where
  row-all : {X : Type 0} (of : X → Proto) → ((x : X) → IsInside (of x)) → (here : Surrounding) (tag : ℤ) (position index : ℕ) (xs : List X)
      → Q here → All P (row of here tag position index xs)
  row-all of stands here tag position index [] q = All-nil P
  row-all of stands here tag position index (x ∷ xs) q =
      All-cons P (shown here tag position index (of x)) (row of here tag (suc position) (suc index) xs) (of_each here tag position index (of x) (stands x) q)
      (row-all of stands here tag (suc position) (suc index) xs q)

  enums-all : (here : Surrounding) (tag : ℤ) (position index : ℕ) (es : List EnumDescriptorProto) → Q here → All P (enums_walk here tag position index es)
  enums-all here tag position index [] q = All-nil P
  enums-all here tag position index (e ∷ es) q =
      let d = shown here tag position index (of_enum e) in
      All-append P (enum_walk here tag position index e) (enums_walk here tag (suc position) (suc index) es)
      (All-cons P d (parts of_value (beside here.scope d) enumeration.VALUE e.value) (of_each here tag position index (of_enum e) tt q)
      (row-all of_value (λ _. tt) (beside here.scope d) enumeration.VALUE 0 0 e.value (around here tag position index (of_enum e) q)))
      (enums-all here tag (suc position) (suc index) es q)

  services-all : (here : Surrounding) (position index : ℕ) (ss : List ServiceDescriptorProto) → Q here → All P (services_walk here position index ss)
  services-all here position index [] q = All-nil P
  services-all here position index (s ∷ ss) q =
      let d = shown here file.SERVICE position index (of_service s) in
      All-append P (service_walk here position index s) (services_walk here (suc position) (suc index) ss)
      (All-cons P d (parts of_method (inside d) service.METHOD s.method) (of_each here file.SERVICE position index (of_service s) tt q)
      (row-all of_method (λ _. tt) (inside d) service.METHOD 0 0 s.method (within here file.SERVICE position index (of_service s) q)))
      (services-all here (suc position) (suc index) ss q)

  -- messages and all that stands in them, smaller ones before those that they stand in
  abbrev MessagesAll : ℕ → Type 0
  MessagesAll n = (here : Surrounding) (tag : ℤ) (position : ℕ) (base : Counts) (ms : List DescriptorProto) → most size-DescriptorProto ms < n → Q here
      → All P (messages_walk here tag position base ms)

  message-all : (n : ℕ) → MessagesAll n → (here : Surrounding) (tag : ℤ) (position : ℕ) (base : Counts) (m : DescriptorProto) → size-DescriptorProto m < suc n
      → Q here → All P (message_walk here tag position base m)
  message-all n smaller here tag position base m small q =
      let o = out-DescriptorProto m in
      let size = size_is-DescriptorProto m in
      let d = shown here tag position base.messages (of_message m) in
      let q' = within here tag position base.messages (of_message m) q in
      let first = counting base (of_message m) in
      let oneofs = parts of_oneof (inside d) message.ONEOF_DECL o.oneof_decl in
      let fields = parts of_field (inside d) message.FIELD o.field in
      let deeper = messages_walk (inside d) message.NESTED_TYPE 0 first o.nested_type in
      let after = counted first deeper in
      let enums = enums_walk (inside d) message.ENUM_TYPE 0 after.enums o.enum_type in
      let extensions = row of_extension (inside d) message.EXTENSION 0 after.extensions o.extension in
      subst (All P) (sym (message-walk-opens here tag position base m))
      (All-cons P d (oneofs ++ fields ++ deeper ++ (enums ++ extensions)) (of_each here tag position base.messages (of_message m) tt q)
      (All-append P (oneofs ++ fields ++ deeper) (enums ++ extensions)
      (All-append P (oneofs ++ fields) deeper
      (All-append P oneofs fields
      (row-all of_oneof (λ _. tt) (inside d) message.ONEOF_DECL 0 0 o.oneof_decl q')
      (row-all of_field (λ _. tt) (inside d) message.FIELD 0 0 o.field q'))
      (smaller (inside d) message.NESTED_TYPE 0 first o.nested_type (omega arith) q'))
      (All-append P enums extensions
      (enums-all (inside d) message.ENUM_TYPE 0 after.enums o.enum_type q')
      (row-all of_extension (λ _. tt) (inside d) message.EXTENSION 0 after.extensions o.extension q'))))

  messages-all : (n : ℕ) → MessagesAll n
  messages-all zero here tag position base ms small q = absurd (omega arith)
  messages-all (suc n) here tag position base [] small q = All-nil P
  messages-all (suc n) here tag position base (m ∷ ms) small q =
      let first = message_walk here tag position base m in
      All-append P first (messages_walk here tag (suc position) (counted base first) ms)
      (message-all n (messages-all n) here tag position base m (omega arith) q)
      (messages-all (suc n) here tag (suc position) (counted base first) ms (omega arith) q)

  -- what stands in a file
  pub within-all : (base : Counts) (f : FileDescriptorProto) → Q (in_file base.files f) → All P (within_file base.files base f)
  within-all base f q =
      let here = in_file base.files f in
      let messages = messages_walk here file.MESSAGE_TYPE 0 base f.message_type in
      let after = counted base messages in
      let enums = enums_walk here file.ENUM_TYPE 0 after.enums f.enum_type in
      let services = services_walk here 0 after.services f.service in
      let extensions = row of_extension here file.EXTENSION 0 after.extensions f.extension in
      All-append P (messages ++ enums ++ services) extensions
      (All-append P (messages ++ enums) services
      (All-append P messages enums
      (messages-all (suc (most size-DescriptorProto f.message_type)) here file.MESSAGE_TYPE 0 base f.message_type (omega arith) q)
      (enums-all here file.ENUM_TYPE 0 after.enums f.enum_type q))
      (services-all here 0 after.services f.service q))
      (row-all of_extension (λ _. tt) here file.EXTENSION 0 after.extensions f.extension q)

  -- a file and what it declares
  pub file-all : (base : Counts) (f : FileDescriptorProto) → P (file_shown [] base.files f) → Q (in_file base.files f) → All P (file_walk base f)
  file-all base f own q = All-cons P (file_shown [] base.files f) (within_file base.files base f) own (within-all base f q)
