-- The counts of what messages, enums, services and files declare.
use Rattle.std.proofs.Common.{◌≡◌, ℕ, suc, ℤ, Bool, true, false, ◌&&◌, Option, Some, None, List, [], ◌∷◌, ◌++◌, length, cond, refl, ap, sym, ◌∙◌, arith}
use Rattle.std.specs.List.{list_all}
use Rattle.proto_types.specs.Computed.{literals}
use Rattle.record_walk.specs.declared.counts.Counts.{Counts}
use Rattle.proto_types.specs.declared.message.DescriptorProto.{DescriptorProto, DescriptorProto', out-DescriptorProto, Row_of-DescriptorProto, end_of-DescriptorProto, more_of-DescriptorProto, items-the_row-DescriptorProto, items_shown-the_row-DescriptorProto-0}
use Rattle.proto_types.specs.declared.message.OneofDescriptorProto.{OneofDescriptorProto}
use Rattle.proto_types.specs.declared.records.enumeration.EnumDescriptorProto.{EnumDescriptorProto}
use Rattle.proto_types.specs.declared.records.service.ServiceDescriptorProto.{ServiceDescriptorProto}
use Rattle.proto_types.specs.declared.records.field.FieldDescriptorProto.{FieldDescriptorProto}
use Rattle.proto_types.specs.declared.file.FileDescriptorProto.{FileDescriptorProto}
use Rattle.proto_types.specs.declared.tag.file.TheConstants as file
use Rattle.proto_types.specs.declared.tag.message.TheConstants as message
use Rattle.proto_types.specs.declared.tag.enum_.TheConstants as enumeration
use Rattle.proto_types.specs.declared.tag.service.TheConstants as service
use Rattle.record_walk.specs.Protos.{Proto, of_file, of_message, of_field, of_oneof, of_service, of_method, of_enum, of_value, of_extension}
use Rattle.record_walk.specs.Shown.{Surrounding, shown, file_shown, row, parts, inside, beside}
use Rattle.record_walk.specs.Counts.{no_counts, counted, counting, lists_fit}
use Rattle.record_walk.specs.Declarations.{enum_walk, enums_walk, service_walk, services_walk, message_walk, nested_walk, messages_walk, message_front, message_end, file_walk, in_file, declarations}
use Rattle.record_walk.specs.Totals.{tally}
use Rattle.record_walk.proofs.Counted.{both, both-nothing, one, summed, tally-append, tally-cons, counts_are}

-- entries of a list that are not counted
uncounted : {X : Type 0} (of : X → Proto) → ((x : X) → one (of x) ≡ Some no_counts) → (here : Surrounding) (tag : ℤ) (position index : ℕ) (xs : List X)
    → tally (row of here tag position index xs) ≡ Some no_counts
uncounted of plain here tag position index [] = refl
uncounted of plain here tag position index (x ∷ xs) =
    tally-cons (shown here tag position index (of x)) (row of here tag (suc position) (suc index) xs)
    ∙ (λ i. both (plain x i) (uncounted of plain here tag (suc position) (suc index) xs i))

-- so many extensions, enums, services
abbrev pub so_many_extensions : ℕ → Counts
so_many_extensions n = record no_counts { extensions = n }

abbrev pub so_many_enums : ℕ → Counts
so_many_enums n = record no_counts { enums = n }

abbrev pub so_many_services : ℕ → Counts
so_many_services n = record no_counts { services = n }

extensions-tally : (here : Surrounding) (tag : ℤ) (position index : ℕ) (xs : List FieldDescriptorProto)
    → tally (row of_extension here tag position index xs) ≡ Some (so_many_extensions (length xs))
extensions-tally here tag position index [] = refl
extensions-tally here tag position index (x ∷ xs) =
    tally-cons (shown here tag position index (of_extension x)) (row of_extension here tag (suc position) (suc index) xs)
    ∙ ap (both (one (of_extension x))) (extensions-tally here tag (suc position) (suc index) xs)
    ∙ ap Some (counts_are _ _ refl refl refl refl (omega arith))

abbrev pub enum_fits : EnumDescriptorProto → Bool
enum_fits e = lists_fit (of_enum e)

abbrev pub service_fits : ServiceDescriptorProto → Bool
service_fits s = lists_fit (of_service s)

one_enum : (here : Surrounding) (tag : ℤ) (position index : ℕ) (e : EnumDescriptorProto) → tally (enum_walk here tag position index e) ≡ cond (enum_fits e) (Some (so_many_enums 1)) None
one_enum here tag position index e =
    let d = shown here tag position index (of_enum e) in
    tally-cons d (parts of_value (beside here.scope d) enumeration.VALUE e.value)
    ∙ ap (both (one (of_enum e))) (uncounted of_value (λ _. refl) (beside here.scope d) enumeration.VALUE 0 0 e.value)
    ∙ (elim (enum_fits e) as (λ b. both (cond b (Some (counting no_counts (of_enum e))) None) (Some no_counts) ≡ cond b (Some (so_many_enums 1)) None) [ true ↦ refl | false ↦ refl ])

enum-more : (p q : Bool) (n : ℕ) → both (cond p (Some (so_many_enums 1)) None) (cond q (Some (so_many_enums n)) None) ≡ cond (p && q) (Some (so_many_enums (suc n))) None
enum-more true true n = ap Some (counts_are _ _ refl refl (omega arith) refl refl)
enum-more true false n = refl
enum-more false q n = refl

pub enums-tally : (here : Surrounding) (tag : ℤ) (position index : ℕ) (es : List EnumDescriptorProto)
    → tally (enums_walk here tag position index es) ≡ cond (list_all enum_fits es) (Some (so_many_enums (length es))) None
enums-tally here tag position index [] = refl
enums-tally here tag position index (e ∷ es) =
    tally-append (enum_walk here tag position index e) (enums_walk here tag (suc position) (suc index) es)
    ∙ (λ i. both (one_enum here tag position index e i) (enums-tally here tag (suc position) (suc index) es i))
    ∙ enum-more (enum_fits e) (list_all enum_fits es) (length es)

one_service : (here : Surrounding) (position index : ℕ) (s : ServiceDescriptorProto) → tally (service_walk here position index s) ≡ cond (service_fits s) (Some (so_many_services 1)) None
one_service here position index s =
    let d = shown here file.SERVICE position index (of_service s) in
    tally-cons d (parts of_method (inside d) service.METHOD s.method)
    ∙ ap (both (one (of_service s))) (uncounted of_method (λ _. refl) (inside d) service.METHOD 0 0 s.method)
    ∙ (elim (service_fits s) as (λ b. both (cond b (Some (counting no_counts (of_service s))) None) (Some no_counts) ≡ cond b (Some (so_many_services 1)) None) [ true ↦ refl | false ↦ refl ])

service-more : (p q : Bool) (n : ℕ) → both (cond p (Some (so_many_services 1)) None) (cond q (Some (so_many_services n)) None) ≡ cond (p && q) (Some (so_many_services (suc n))) None
service-more true true n = ap Some (counts_are _ _ refl refl refl (omega arith) refl)
service-more true false n = refl
service-more false q n = refl

pub services-tally : (here : Surrounding) (position index : ℕ) (ss : List ServiceDescriptorProto)
    → tally (services_walk here position index ss) ≡ cond (list_all service_fits ss) (Some (so_many_services (length ss))) None
services-tally here position index [] = refl
services-tally here position index (s ∷ ss) =
    tally-append (service_walk here position index s) (services_walk here (suc position) (suc index) ss)
    ∙ (λ i. both (one_service here position index s i) (services-tally here (suc position) (suc index) ss i))
    ∙ service-more (service_fits s) (list_all service_fits ss) (length ss)

-- of enums, wherever they stand
abbrev pub enums_tally : List EnumDescriptorProto → Option Counts
enums_tally es = cond (list_all enum_fits es) (Some (so_many_enums (length es))) None

abbrev pub services_tally : List ServiceDescriptorProto → Option Counts
services_tally ss = cond (list_all service_fits ss) (Some (so_many_services (length ss))) None

-- of a message, wherever it stands
abbrev mutual
  pub message_tally : DescriptorProto → Option Counts
  message_tally (DescriptorProto' name fields n nested enums ranges extensions options oneofs reserved reserved_names) =
      both (one (of_message (DescriptorProto' name fields n nested enums ranges extensions options oneofs reserved reserved_names)))
      (both (row_tally nested) (both (enums_tally enums) (Some (so_many_extensions (length extensions)))))

  pub row_tally : {n : _} → Row_of-DescriptorProto n → Option Counts
  row_tally end_of-DescriptorProto = Some no_counts
  row_tally (more_of-DescriptorProto m rest) = both (message_tally m) (row_tally rest)

-- of messages
abbrev pub messages_tally : List DescriptorProto → Option Counts
messages_tally ms = summed message_tally ms

front-tally : (here : Surrounding) (oneofs : List OneofDescriptorProto) (fields : List FieldDescriptorProto) → tally (message_front here oneofs fields) ≡ Some no_counts
front-tally here oneofs fields =
    tally-append (parts of_oneof here message.ONEOF_DECL oneofs) (parts of_field here message.FIELD fields)
    ∙ (λ i. both (uncounted of_oneof (λ _. refl) here message.ONEOF_DECL 0 0 oneofs i) (uncounted of_field (λ _. refl) here message.FIELD 0 0 fields i))

end-tally : (here : Surrounding) (after : Counts) (enums : List EnumDescriptorProto) (extensions : List FieldDescriptorProto)
    → tally (message_end here after enums extensions) ≡ both (enums_tally enums) (Some (so_many_extensions (length extensions)))
end-tally here after enums extensions =
    tally-append (enums_walk here message.ENUM_TYPE 0 after.enums enums) (row of_extension here message.EXTENSION 0 after.extensions extensions)
    ∙ (λ i. both (enums-tally here message.ENUM_TYPE 0 after.enums enums i) (extensions-tally here message.EXTENSION 0 after.extensions extensions i))

mutual
  pub message-tally : (here : Surrounding) (tag : ℤ) (position : ℕ) (base : Counts) (m : DescriptorProto) → tally (message_walk here tag position base m) ≡ message_tally m
  message-tally here tag position base (DescriptorProto' name fields n nested enums ranges extensions options oneofs reserved reserved_names) =
      let m = DescriptorProto' name fields n nested enums ranges extensions options oneofs reserved reserved_names in
      let d = shown here tag position base.messages (of_message m) in
      let first = counting base (of_message m) in
      let deeper = nested_walk (inside d) 0 first nested in
      let after = counted first deeper in
      tally-cons d (message_front (inside d) oneofs fields ++ deeper ++ message_end (inside d) after enums extensions)
      ∙ ap (both (one (of_message m)))
      (tally-append (message_front (inside d) oneofs fields ++ deeper) (message_end (inside d) after enums extensions)
      ∙ (λ i. both ((tally-append (message_front (inside d) oneofs fields) deeper
      ∙ (λ j. both (front-tally (inside d) oneofs fields j) (nested-tally (inside d) 0 first nested j))
      ∙ both-nothing (row_tally nested)) i) (end-tally (inside d) after enums extensions i)))

  nested-tally : {n : _} (here : Surrounding) (position : ℕ) (base : Counts) (nested : Row_of-DescriptorProto n) → tally (nested_walk here position base nested) ≡ row_tally nested
  nested-tally here position base end_of-DescriptorProto = refl
  nested-tally here position base (more_of-DescriptorProto m rest) =
      tally-append (message_walk here message.NESTED_TYPE position base m) (nested_walk here (suc position) (counted base (message_walk here message.NESTED_TYPE position base m)) rest)
      ∙ (λ i. both (message-tally here message.NESTED_TYPE position base m i) (nested-tally here (suc position) (counted base (message_walk here message.NESTED_TYPE position base m)) rest i))

pub messages-tally : (here : Surrounding) (tag : ℤ) (position : ℕ) (base : Counts) (ms : List DescriptorProto) → tally (messages_walk here tag position base ms) ≡ messages_tally ms
messages-tally here tag position base [] = refl
messages-tally here tag position base (m ∷ ms) =
    tally-append (message_walk here tag position base m) (messages_walk here tag (suc position) (counted base (message_walk here tag position base m)) ms)
    ∙ (λ i. both (message-tally here tag position base m i) (messages-tally here tag (suc position) (counted base (message_walk here tag position base m)) ms i))

row-messages : {n : _} (nested : Row_of-DescriptorProto n) → row_tally nested ≡ messages_tally (items-the_row-DescriptorProto n nested)
row-messages end_of-DescriptorProto = refl
row-messages (more_of-DescriptorProto m rest) = ap (both (message_tally m)) (row-messages rest)

-- of a message, by its lists
pub message-parts : (m : DescriptorProto) → message_tally m
    ≡ both (one (of_message m)) (both (messages_tally (out-DescriptorProto m).nested_type) (both (enums_tally (out-DescriptorProto m).enum_type) (Some (so_many_extensions (length (out-DescriptorProto m).extension)))))
unfolding literals
message-parts (DescriptorProto' name fields n nested enums ranges extensions options oneofs reserved reserved_names) =
    let m = DescriptorProto' name fields n nested enums ranges extensions options oneofs reserved reserved_names in
    ap (λ deeper. both (one (of_message m)) (both deeper (both (enums_tally enums) (Some (so_many_extensions (length extensions))))))
    (row-messages nested ∙ ap messages_tally (sym (items_shown-the_row-DescriptorProto-0 n nested)))

-- of a file
abbrev pub file_tally : FileDescriptorProto → Option Counts
file_tally f = both (one (of_file f)) (both (both (both (messages_tally f.message_type) (enums_tally f.enum_type)) (services_tally f.service)) (Some (so_many_extensions (length f.extension))))

pub file-tally : (base : Counts) (f : FileDescriptorProto) → tally (file_walk base f) ≡ file_tally f
file-tally base f =
    let here = in_file base.files f in
    let messages = messages_walk here file.MESSAGE_TYPE 0 base f.message_type in
    let after = counted base messages in
    let enums = enums_walk here file.ENUM_TYPE 0 after.enums f.enum_type in
    let services = services_walk here 0 after.services f.service in
    let extensions = row of_extension here file.EXTENSION 0 after.extensions f.extension in
    tally-cons (file_shown [] base.files f) (messages ++ enums ++ services ++ extensions)
    ∙ ap (both (one (of_file f)))
    (tally-append (messages ++ enums ++ services) extensions
    ∙ (λ i. both ((tally-append (messages ++ enums) services
    ∙ (λ j. both ((tally-append messages enums
    ∙ (λ k. both (messages-tally here file.MESSAGE_TYPE 0 base f.message_type k) (enums-tally here file.ENUM_TYPE 0 after.enums f.enum_type k))) j)
    (services-tally here 0 after.services f.service j))) i) (extensions-tally here file.EXTENSION 0 after.extensions f.extension i)))

-- of files
abbrev pub files_tally : List FileDescriptorProto → Option Counts
files_tally fs = summed file_tally fs

pub declarations-tally : (base : Counts) (fs : List FileDescriptorProto) → tally (declarations base fs) ≡ files_tally fs
declarations-tally base [] = refl
declarations-tally base (f ∷ fs) =
    tally-append (file_walk base f) (declarations (counted base (file_walk base f)) fs)
    ∙ (λ i. both (file-tally base f i) (declarations-tally (counted base (file_walk base f)) fs i))
