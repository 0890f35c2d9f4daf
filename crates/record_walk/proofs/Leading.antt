-- The path of each declaration of a file leads to its record.
use Rattle.std.proofs.Common.{◌≡◌, ℕ, zero, suc, ◌+◌, ◌<◌, ℤ, pos, Option, Some, List, [], ◌∷◌, ◌++◌, slice_get, refl, sym, ap, subst, ◌∙◌, arith}
use Rattle.std.specs.List.{All}
use Rattle.std.specs.Option.{option_map, option_and_then}
use Rattle.std.proofs.lemmas.List.{append-nil, append_assoc}
use Rattle.std.proofs.lemmas.List.Elements.{All-nil, All-cons, All-append}
use denote.Param.Weighed.{most}
use Rattle.proto_types.specs.Computed.{literals}
use Rattle.record_walk.specs.declared.counts.Counts.{Counts}
use Rattle.proto_types.specs.declared.file.FileDescriptorProto.{FileDescriptorProto}
use Rattle.proto_types.specs.declared.message.DescriptorProto.{DescriptorProto, DescriptorProto', out-DescriptorProto, Row_of-DescriptorProto, end_of-DescriptorProto, more_of-DescriptorProto, items-the_row-DescriptorProto, items_shown-the_row-DescriptorProto-0, size-DescriptorProto, size_is-DescriptorProto}
use Rattle.proto_types.specs.declared.records.enumeration.EnumDescriptorProto.{EnumDescriptorProto}
use Rattle.proto_types.specs.declared.records.service.ServiceDescriptorProto.{ServiceDescriptorProto}
use Rattle.proto_types.specs.declared.tag.file.TheConstants as file
use Rattle.proto_types.specs.declared.tag.message.TheConstants as message
use Rattle.proto_types.specs.declared.tag.enum_.TheConstants as enumeration
use Rattle.proto_types.specs.declared.tag.service.TheConstants as service
use Rattle.record_walk.specs.Protos.{Proto, of_message, of_field, of_oneof, of_service, of_method, of_enum, of_value, of_extension}
use Rattle.record_walk.specs.Shown.{Shown, Surrounding, row, parts, shown, file_shown, inside, beside}
use Rattle.proto_types.specs.Paths.{entry_path}
use Rattle.record_walk.specs.Counts.{counted, counting}
use Rattle.record_walk.specs.Declarations.{in_file, enum_walk, enums_walk, service_walk, services_walk, message_front, message_end, message_walk, nested_walk, messages_walk, MessageWalkOpens}
use Rattle.record_walk.specs.Leads.{leads, leads_in_message, leads_in_enum, leads_in_service, PathsLead}

-- a message's walk by its parts
row-walk : {n : _} (here : Surrounding) (position : ℕ) (base : Counts) (nested : Row_of-DescriptorProto n)
    → nested_walk here position base nested ≡ messages_walk here message.NESTED_TYPE position base (items-the_row-DescriptorProto n nested)
row-walk here position base end_of-DescriptorProto = refl
row-walk here position base (more_of-DescriptorProto m rest) =
    let first = message_walk here message.NESTED_TYPE position base m in ap (λ ds. first ++ ds) (row-walk here (suc position) (counted base first) rest)

pub message-walk-opens : MessageWalkOpens
unfolding literals
message-walk-opens here tag position base (DescriptorProto' name fields n nested enums ranges extensions options oneofs reserved reserved_names) =
    let m = DescriptorProto' name fields n nested enums ranges extensions options oneofs reserved reserved_names in
    let d = shown here tag position base.messages (of_message m) in
    let first = counting base (of_message m) in
    ap (λ deeper. d ∷ (message_front (inside d) oneofs fields ++ deeper ++ message_end (inside d) (counted first deeper) enums extensions))
    (row-walk (inside d) 0 first nested ∙ ap (messages_walk (inside d) message.NESTED_TYPE 0 first) (sym (items_shown-the_row-DescriptorProto-0 n nested)))

-- the rest of a list from a position on
abbrev From : {X : Type 0} → List X → ℕ → List X → Type 0
From all position rest = (i : ℕ) → slice_get all (position + i) ≡ slice_get rest i

from-start : {X : Type 0} (xs : List X) → From xs 0 xs
from-start xs = λ i. let same : 0 + i ≡ i = omega arith in ap (slice_get xs) same

from-next : {X : Type 0} (all : List X) (position : ℕ) (x : X) (rest : List X) → From all position (x ∷ rest) → From all (suc position) rest
from-next all position x rest from = λ i. let moved : suc position + i ≡ position + suc i = omega arith in ap (slice_get all) moved ∙ from (suc i)

first-of : {X : Type 0} (all : List X) (position : ℕ) (x : X) (rest : List X) → From all position (x ∷ rest) → slice_get all position ≡ Some x
first-of all position x rest from = let here : position ≡ position + 0 = omega arith in ap (slice_get all) here ∙ from 0

-- of the declarations of one file
module _ (f : FileDescriptorProto) where
  -- the path of a declaration leads to its record
  abbrev Leads : Shown → Type 0
  Leads d = leads f d.path ≡ Some d.proto

  -- paths that begin so lead on as from a record there
  abbrev LeadsOn : List ℤ → (List ℤ → Option Proto) → Type 0
  LeadsOn path on = (rest : List ℤ) → leads f (path ++ rest) ≡ on rest

  -- so do those into the entries of a list
  abbrev LeadsInto : {X : Type 0} → (X → List ℤ → Option Proto) → Surrounding → ℤ → List X → Type 0
  LeadsInto on here tag all = (k : ℕ) (rest : List ℤ) → leads f (here.path ++ tag ∷ pos k ∷ rest) ≡ option_and_then (λ x. on x rest) (slice_get all k)

  -- the path itself, and that of an entry
  itself : (path : List ℤ) (on : List ℤ → Option Proto) → LeadsOn path on → leads f path ≡ on []
  itself path on known = ap (leads f) (sym (append-nil path)) ∙ known []

  entry : {X : Type 0} (on : X → List ℤ → Option Proto) (here : Surrounding) (tag : ℤ) (all : List X) → LeadsInto on here tag all
      → (position : ℕ) (x : X) (rest : List X) → From all position (x ∷ rest) → LeadsOn (entry_path here.path tag position) (on x)
  entry on here tag all known position x rest from path =
      ap (leads f) (append_assoc here.path (tag ∷ pos position ∷ []) path) ∙ known position path ∙ ap (option_and_then (λ y. on y path)) (first-of all position x rest from)

  -- entries that nothing more stands in
  row-leads : {X : Type 0} (of : X → Proto) (here : Surrounding) (tag : ℤ) (all : List X) → ((k : ℕ) → leads f (entry_path here.path tag k) ≡ option_map of (slice_get all k))
      → (position index : ℕ) (rest : List X) → From all position rest → All Leads (row of here tag position index rest)
  row-leads of here tag all known position index [] from = All-nil Leads
  row-leads of here tag all known position index (x ∷ rest) from =
      All-cons Leads (shown here tag position index (of x)) (row of here tag (suc position) (suc index) rest)
      (known position ∙ ap (option_map of) (first-of all position x rest from))
      (row-leads of here tag all known (suc position) (suc index) rest (from-next all position x rest from))

  -- enums and their values
  enums-lead : (here : Surrounding) (tag : ℤ) (all : List EnumDescriptorProto) → LeadsInto leads_in_enum here tag all
      → (position index : ℕ) (rest : List EnumDescriptorProto) → From all position rest → All Leads (enums_walk here tag position index rest)
  enums-lead here tag all known position index [] from = All-nil Leads
  enums-lead here tag all known position index (e ∷ rest) from =
      let d = shown here tag position index (of_enum e) in
      let on = entry leads_in_enum here tag all known position e rest from in
      All-append Leads (enum_walk here tag position index e) (enums_walk here tag (suc position) (suc index) rest)
      (All-cons Leads d (parts of_value (beside here.scope d) enumeration.VALUE e.value) (itself d.path (leads_in_enum e) on)
      (row-leads of_value (beside here.scope d) enumeration.VALUE e.value (λ k. on (enumeration.VALUE ∷ pos k ∷ [])) 0 0 e.value (from-start e.value)))
      (enums-lead here tag all known (suc position) (suc index) rest (from-next all position e rest from))

  -- services and their methods
  services-lead : (here : Surrounding) (all : List ServiceDescriptorProto) → LeadsInto leads_in_service here file.SERVICE all
      → (position index : ℕ) (rest : List ServiceDescriptorProto) → From all position rest → All Leads (services_walk here position index rest)
  services-lead here all known position index [] from = All-nil Leads
  services-lead here all known position index (s ∷ rest) from =
      let d = shown here file.SERVICE position index (of_service s) in
      let on = entry leads_in_service here file.SERVICE all known position s rest from in
      All-append Leads (service_walk here position index s) (services_walk here (suc position) (suc index) rest)
      (All-cons Leads d (parts of_method (inside d) service.METHOD s.method) (itself d.path (leads_in_service s) on)
      (row-leads of_method (inside d) service.METHOD s.method (λ k. on (service.METHOD ∷ pos k ∷ [])) 0 0 s.method (from-start s.method)))
      (services-lead here all known (suc position) (suc index) rest (from-next all position s rest from))

  -- messages and all that stands in them, smaller ones before those that they stand in
  abbrev MessagesLead : ℕ → Type 0
  MessagesLead n = (here : Surrounding) (tag : ℤ) (all : List DescriptorProto) → LeadsInto leads_in_message here tag all
      → (position : ℕ) (base : Counts) (rest : List DescriptorProto) → most size-DescriptorProto rest < n → From all position rest → All Leads (messages_walk here tag position base rest)

  message-leads : (n : ℕ) → MessagesLead n → (here : Surrounding) (tag : ℤ) (position : ℕ) (base : Counts) (m : DescriptorProto) → size-DescriptorProto m < suc n
      → LeadsOn (entry_path here.path tag position) (leads_in_message m) → All Leads (message_walk here tag position base m)
  message-leads n smaller here tag position base m small on =
      let o = out-DescriptorProto m in
      let size = size_is-DescriptorProto m in
      let d = shown here tag position base.messages (of_message m) in
      let first = counting base (of_message m) in
      let oneofs = parts of_oneof (inside d) message.ONEOF_DECL o.oneof_decl in
      let fields = parts of_field (inside d) message.FIELD o.field in
      let deeper = messages_walk (inside d) message.NESTED_TYPE 0 first o.nested_type in
      let after = counted first deeper in
      let enums = enums_walk (inside d) message.ENUM_TYPE 0 after.enums o.enum_type in
      let extensions = row of_extension (inside d) message.EXTENSION 0 after.extensions o.extension in
      subst (All Leads) (sym (message-walk-opens here tag position base m))
      (All-cons Leads d (oneofs ++ fields ++ deeper ++ (enums ++ extensions)) (itself d.path (leads_in_message m) on)
      (All-append Leads (oneofs ++ fields ++ deeper) (enums ++ extensions)
      (All-append Leads (oneofs ++ fields) deeper
      (All-append Leads oneofs fields
      (row-leads of_oneof (inside d) message.ONEOF_DECL o.oneof_decl (λ k. on (message.ONEOF_DECL ∷ pos k ∷ [])) 0 0 o.oneof_decl (from-start o.oneof_decl))
      (row-leads of_field (inside d) message.FIELD o.field (λ k. on (message.FIELD ∷ pos k ∷ [])) 0 0 o.field (from-start o.field)))
      (smaller (inside d) message.NESTED_TYPE o.nested_type (λ k rest. on (message.NESTED_TYPE ∷ pos k ∷ rest)) 0 first o.nested_type (omega arith) (from-start o.nested_type)))
      (All-append Leads enums extensions
      (enums-lead (inside d) message.ENUM_TYPE o.enum_type (λ k rest. on (message.ENUM_TYPE ∷ pos k ∷ rest)) 0 after.enums o.enum_type (from-start o.enum_type))
      (row-leads of_extension (inside d) message.EXTENSION o.extension (λ k. on (message.EXTENSION ∷ pos k ∷ [])) 0 after.extensions o.extension (from-start o.extension)))))

  messages-lead : (n : ℕ) → MessagesLead n
  messages-lead zero here tag all known position base rest small from = absurd (omega arith)
  messages-lead (suc n) here tag all known position base [] small from = All-nil Leads
  messages-lead (suc n) here tag all known position base (m ∷ rest) small from =
      let first = message_walk here tag position base m in
      All-append Leads first (messages_walk here tag (suc position) (counted base first) rest)
      (message-leads n (messages-lead n) here tag position base m (omega arith) (entry leads_in_message here tag all known position m rest from))
      (messages-lead (suc n) here tag all known (suc position) (counted base first) rest (omega arith) (from-next all position m rest from))

-- a file and all that it declares
pub paths-lead : PathsLead
paths-lead base f =
    let here = in_file base.files f in
    let messages = messages_walk here file.MESSAGE_TYPE 0 base f.message_type in
    let after = counted base messages in
    let enums = enums_walk here file.ENUM_TYPE 0 after.enums f.enum_type in
    let services = services_walk here 0 after.services f.service in
    let extensions = row of_extension here file.EXTENSION 0 after.extensions f.extension in
    All-cons (Leads f) (file_shown [] base.files f) (messages ++ enums ++ services ++ extensions) refl
    (All-append (Leads f) (messages ++ enums ++ services) extensions
    (All-append (Leads f) (messages ++ enums) services
    (All-append (Leads f) messages enums
    (messages-lead f (suc (most size-DescriptorProto f.message_type)) here file.MESSAGE_TYPE f.message_type (λ k rest. refl) 0 base f.message_type (omega arith) (from-start f.message_type))
    (enums-lead f here file.ENUM_TYPE f.enum_type (λ k rest. refl) 0 after.enums f.enum_type (from-start f.enum_type)))
    (services-lead f here f.service (λ k rest. refl) 0 after.services f.service (from-start f.service)))
    (row-leads f of_extension here file.EXTENSION f.extension (λ k. refl) 0 after.extensions f.extension (from-start f.extension)))
