-- The index of each declaration is how many of its kind stand before it.
use Rattle.std.proofs.Common.{◌≡◌, ℕ, zero, suc, ◌<◌, ℤ, pos, Option, Some, None, List, [], ◌∷◌, ◌++◌, refl, ap, sym, subst, ◌∙◌, arith}
use Rattle.std.specs.List.{last_or}
use denote.Param.Weighed.{most}
use Rattle.proto_types.specs.declared.tag.file.TheConstants as file
use Rattle.proto_types.specs.declared.tag.message.TheConstants as message
use Rattle.proto_types.specs.declared.tag.enum_.TheConstants as enumeration
use Rattle.proto_types.specs.declared.tag.service.TheConstants as service
use Rattle.proto_types.specs.declared.file.FileDescriptorProto.{FileDescriptorProto}
use Rattle.proto_types.specs.declared.records.field.FieldDescriptorProto.{FieldDescriptorProto}
use Rattle.proto_types.specs.declared.message.DescriptorProto.{DescriptorProto, out-DescriptorProto, size-DescriptorProto, size_is-DescriptorProto}
use Rattle.proto_types.specs.declared.records.enumeration.EnumDescriptorProto.{EnumDescriptorProto}
use Rattle.proto_types.specs.declared.records.service.ServiceDescriptorProto.{ServiceDescriptorProto}
use Rattle.record_walk.specs.declared.counts.Counts.{Counts}
use Rattle.record_walk.specs.Protos.{Proto, of_file, of_message, of_field, of_oneof, of_service, of_method, of_enum, of_value, of_extension}
use Rattle.record_walk.specs.Shown.{Shown, Surrounding, row, parts, shown, inside, beside}
use Rattle.record_walk.specs.Counts.{counted, counting}
use Rattle.record_walk.specs.Declarations.{in_file, enum_walk, enums_walk, service_walk, services_walk, message_front, message_end, message_walk, messages_walk, file_walk, declarations}
use Rattle.record_walk.specs.Indexes.{HasIndex, IndexesCountOn}
use Rattle.record_walk.proofs.Counted.{counted-append}
use Rattle.record_walk.proofs.Leading.{message-walk-opens}
use Rattle.record_walk.proofs.Turns.{counted-row, counted-enum, counted-service, counted-front, enums-keep, services-keep}

-- each declaration of a list has the index that those before it leave it, counted on from counts
abbrev Indexed : Counts → List Shown → Type 0
Indexed c [] = Unit {0}
Indexed c (d ∷ ds) = HasIndex c d d.proto × Indexed (counting c d.proto) ds

indexed-append : (c : Counts) (ds es : List Shown) → Indexed c ds → Indexed (counted c ds) es → Indexed c (ds ++ es)
indexed-append c [] es first second = second
indexed-append c (d ∷ ds) es first second = (first.0, indexed-append (counting c d.proto) ds es first.1 second)

-- so it is wherever the list is parted
indexed-at : (c : Counts) (front : List Shown) (d : Shown) (rest : List Shown) → Indexed c (front ++ d ∷ rest) → HasIndex (counted c front) d d.proto
indexed-at c [] d rest all = all.0
indexed-at c (e ∷ front) d rest all = indexed-at (counting c e.proto) front d rest all.1

-- a path ends with its last position
path-ends : (path : List ℤ) (before : Option ℤ) (tag position : ℤ) → last_or before (path ++ tag ∷ position ∷ []) ≡ Some position
path-ends [] before tag position = refl
path-ends (x ∷ path) before tag position = path-ends path (Some x) tag position

-- entries of a kind that is not counted
parts-indexed : {X : Type 0} (of : X → Proto) → ((c : Counts) (x : X) → counting c (of x) ≡ c)
    → ((c : Counts) (d : Shown) (x : X) → last_or None d.path ≡ Some (pos d.index) → HasIndex c d (of x))
    → (c : Counts) (here : Surrounding) (tag : ℤ) (position : ℕ) (xs : List X) → Indexed c (row of here tag position position xs)
parts-indexed of same ends c here tag position [] = tt
parts-indexed of same ends c here tag position (x ∷ xs) = (
  ends c (shown here tag position position (of x)) x (path-ends here.path None tag (pos position)),
  subst (λ k. Indexed k (row of here tag (suc position) (suc position) xs)) (sym (same c x)) (parts-indexed of same ends c here tag (suc position) xs),
)

extensions-indexed : (c : Counts) (here : Surrounding) (tag : ℤ) (position index : ℕ) (xs : List FieldDescriptorProto) → index ≡ c.extensions
    → Indexed c (row of_extension here tag position index xs)
extensions-indexed c here tag position index [] next = tt
extensions-indexed c here tag position index (x ∷ xs) next =
    (next, extensions-indexed (counting c (of_extension x)) here tag (suc position) (suc index) xs (ap suc next))

-- enums and their values
enum-indexed : (c : Counts) (here : Surrounding) (tag : ℤ) (position index : ℕ) (e : EnumDescriptorProto) → index ≡ c.enums
    → Indexed c (enum_walk here tag position index e)
enum-indexed c here tag position index e next =
    (next, parts-indexed of_value (λ _ _. refl) (λ _ _ _ ends. ends) (counting c (of_enum e)) (beside here.scope (shown here tag position index (of_enum e))) enumeration.VALUE 0 e.value)

enums-indexed : (c : Counts) (here : Surrounding) (tag : ℤ) (position index : ℕ) (es : List EnumDescriptorProto) → index ≡ c.enums
    → Indexed c (enums_walk here tag position index es)
enums-indexed c here tag position index [] next = tt
enums-indexed c here tag position index (e ∷ es) next =
    let rest = enums_walk here tag (suc position) (suc index) es in
    indexed-append c (enum_walk here tag position index e) rest (enum-indexed c here tag position index e next)
    (subst (λ k. Indexed k rest) (sym (counted-enum c here tag position index e)) (enums-indexed (counting c (of_enum e)) here tag (suc position) (suc index) es (ap suc next)))

-- services and their methods
service-indexed : (c : Counts) (here : Surrounding) (position index : ℕ) (s : ServiceDescriptorProto) → index ≡ c.services
    → Indexed c (service_walk here position index s)
service-indexed c here position index s next =
    (next, parts-indexed of_method (λ _ _. refl) (λ _ _ _ ends. ends) (counting c (of_service s)) (inside (shown here file.SERVICE position index (of_service s))) service.METHOD 0 s.method)

services-indexed : (c : Counts) (here : Surrounding) (position index : ℕ) (ss : List ServiceDescriptorProto) → index ≡ c.services
    → Indexed c (services_walk here position index ss)
services-indexed c here position index [] next = tt
services-indexed c here position index (s ∷ ss) next =
    let rest = services_walk here (suc position) (suc index) ss in
    indexed-append c (service_walk here position index s) rest (service-indexed c here position index s next)
    (subst (λ k. Indexed k rest) (sym (counted-service c here position index s)) (services-indexed (counting c (of_service s)) here (suc position) (suc index) ss (ap suc next)))

-- counts that differ in files alone: a file is counted before what it declares, which is numbered as if it were not
record Alike (b c : Counts) : Type 0 where
  messages : b.messages ≡ c.messages
  enums : b.enums ≡ c.enums
  services : b.services ≡ c.services
  extensions : b.extensions ≡ c.extensions

one-alike : (b c : Counts) (p : Proto) → Alike b c → Alike (counting b p) (counting c p)
one-alike b c (of_file f) like = record { messages = like.messages; enums = like.enums; services = like.services; extensions = like.extensions }
one-alike b c (of_message m) like = record { messages = ap suc like.messages; enums = like.enums; services = like.services; extensions = like.extensions }
one-alike b c (of_enum e) like = record { messages = like.messages; enums = ap suc like.enums; services = like.services; extensions = like.extensions }
one-alike b c (of_service s) like = record { messages = like.messages; enums = like.enums; services = ap suc like.services; extensions = like.extensions }
one-alike b c (of_extension x) like = record { messages = like.messages; enums = like.enums; services = like.services; extensions = ap suc like.extensions }
one-alike b c (of_field f) like = like
one-alike b c (of_oneof o) like = like
one-alike b c (of_method m) like = like
one-alike b c (of_value v) like = like

alike : (b c : Counts) (ds : List Shown) → Alike b c → Alike (counted b ds) (counted c ds)
alike b c [] like = like
alike b c (d ∷ ds) like = alike (counting b d.proto) (counting c d.proto) ds (one-alike b c d.proto like)

-- the oneofs and fields of a message
front-indexed : (c : Counts) (here : Surrounding) (m : DescriptorProto) → Indexed c (message_front here (out-DescriptorProto m).oneof_decl (out-DescriptorProto m).field)
front-indexed c here m =
    let oneofs = parts of_oneof here message.ONEOF_DECL (out-DescriptorProto m).oneof_decl in
    let fields = parts of_field here message.FIELD (out-DescriptorProto m).field in
    indexed-append c oneofs fields (parts-indexed of_oneof (λ _ _. refl) (λ _ _ _ ends. ends) c here message.ONEOF_DECL 0 (out-DescriptorProto m).oneof_decl)
    (subst (λ k. Indexed k fields) (sym (counted-row of_oneof (λ _ _. refl) c here message.ONEOF_DECL 0 0 (out-DescriptorProto m).oneof_decl))
    (parts-indexed of_field (λ _ _. refl) (λ _ _ _ ends. ends) c here message.FIELD 0 (out-DescriptorProto m).field))

-- its enums and extensions
end-indexed : (c after : Counts) (here : Surrounding) (es : List EnumDescriptorProto) (xs : List FieldDescriptorProto) → Alike c after → Indexed c (message_end here after es xs)
end-indexed c after here es xs like =
    let enums = enums_walk here message.ENUM_TYPE 0 after.enums es in
    indexed-append c enums (row of_extension here message.EXTENSION 0 after.extensions xs)
    (enums-indexed c here message.ENUM_TYPE 0 after.enums es (sym like.enums))
    (extensions-indexed (counted c enums) here message.EXTENSION 0 after.extensions xs (sym ((enums-keep c here message.ENUM_TYPE 0 after.enums es).1 ∙ like.extensions)))

-- messages and all that stands in them, smaller ones before those that they stand in
abbrev MessagesIndexed : ℕ → Type 0
MessagesIndexed n = (c : Counts) (here : Surrounding) (tag : ℤ) (position : ℕ) (base : Counts) (ms : List DescriptorProto) → most size-DescriptorProto ms < n → Alike c base
    → Indexed c (messages_walk here tag position base ms)

message-indexed : (n : ℕ) → MessagesIndexed n → (c : Counts) (here : Surrounding) (tag : ℤ) (position : ℕ) (base : Counts) (m : DescriptorProto) → size-DescriptorProto m < suc n
    → Alike c base → Indexed c (message_walk here tag position base m)
message-indexed n smaller c here tag position base m small like =
    let o = out-DescriptorProto m in
    let size = size_is-DescriptorProto m in
    let d = shown here tag position base.messages (of_message m) in
    let first = counting base (of_message m) in
    let own = counting c (of_message m) in
    let front = message_front (inside d) o.oneof_decl o.field in
    let deeper = messages_walk (inside d) message.NESTED_TYPE 0 first o.nested_type in
    let after = counted first deeper in
    let opened = counted-front own (inside d) o.oneof_decl o.field in
    let alike_first = one-alike c base (of_message m) like in
    let reached : counted own (front ++ deeper) ≡ counted own deeper = counted-append own front deeper ∙ ap (λ k. counted k deeper) opened in
    subst (Indexed c) (sym (message-walk-opens here tag position base m)) (
      sym like.messages,
      indexed-append own (front ++ deeper) (message_end (inside d) after o.enum_type o.extension)
          (indexed-append own front deeper (front-indexed own (inside d) m)
          (subst (λ k. Indexed k deeper) (sym opened) (smaller own (inside d) message.NESTED_TYPE 0 first o.nested_type (omega arith) alike_first)))
          (subst (λ k. Indexed k (message_end (inside d) after o.enum_type o.extension)) (sym reached)
          (end-indexed (counted own deeper) after (inside d) o.enum_type o.extension (alike own first deeper alike_first))),
    )

messages-indexed : (n : ℕ) → MessagesIndexed n
messages-indexed zero c here tag position base ms small like = absurd (omega arith)
messages-indexed (suc n) c here tag position base [] small like = tt
messages-indexed (suc n) c here tag position base (m ∷ ms) small like =
    let first = message_walk here tag position base m in
    indexed-append c first (messages_walk here tag (suc position) (counted base first) ms)
    (message-indexed n (messages-indexed n) c here tag position base m (omega arith) like)
    (messages-indexed (suc n) (counted c first) here tag (suc position) (counted base first) ms (omega arith) (alike c base first like))

-- a file and what it declares
file-indexed : (base : Counts) (f : FileDescriptorProto) → Indexed base (file_walk base f)
file-indexed base f =
    let here = in_file base.files f in
    let own = counting base (of_file f) in
    let messages = messages_walk here file.MESSAGE_TYPE 0 base f.message_type in
    let after = counted base messages in
    let enums = enums_walk here file.ENUM_TYPE 0 after.enums f.enum_type in
    let services = services_walk here 0 after.services f.service in
    let extensions = row of_extension here file.EXTENSION 0 after.extensions f.extension in
    let own_like : Alike own base = record { messages = refl; enums = refl; services = refl; extensions = refl } in
    let like = alike own base messages own_like in
    let behind = counted own messages in
    let kept = enums-keep behind here file.ENUM_TYPE 0 after.enums f.enum_type in
    let enums_end : counted own (messages ++ enums) ≡ counted behind enums = counted-append own messages enums in
    let services_end : counted own (messages ++ enums ++ services) ≡ counted (counted behind enums) services =
    counted-append own (messages ++ enums) services ∙ ap (λ k. counted k services) enums_end in (
      refl,
      indexed-append own (messages ++ enums ++ services) extensions
          (indexed-append own (messages ++ enums) services
          (indexed-append own messages enums
          (messages-indexed (suc (most size-DescriptorProto f.message_type)) own here file.MESSAGE_TYPE 0 base f.message_type (omega arith) own_like)
          (enums-indexed behind here file.ENUM_TYPE 0 after.enums f.enum_type (sym like.enums)))
          (subst (λ k. Indexed k services) (sym enums_end)
          (services-indexed (counted behind enums) here 0 after.services f.service (sym (kept.0 ∙ like.services)))))
          (subst (λ k. Indexed k extensions) (sym services_end)
          (extensions-indexed (counted (counted behind enums) services) here file.EXTENSION 0 after.extensions f.extension
          (sym (services-keep (counted behind enums) here 0 after.services f.service ∙ kept.1 ∙ like.extensions)))),
    )

-- files, one after another
declarations-indexed : (base : Counts) (fs : List FileDescriptorProto) → Indexed base (declarations base fs)
declarations-indexed base [] = tt
declarations-indexed base (f ∷ fs) =
    let first = file_walk base f in
    indexed-append base first (declarations (counted base first) fs) (file-indexed base f) (declarations-indexed (counted base first) fs)

pub indexes-count-on : (base : Counts) (fs : List FileDescriptorProto) → IndexesCountOn base fs
indexes-count-on base fs front d rest parted = indexed-at base front d rest (subst (Indexed base) parted (declarations-indexed base fs))
