-- What is left of lists, one after another.
use Rattle.std.proofs.Common.{◌≡◌, ℕ, ℤ, suc, List, [], ◌∷◌, ◌++◌, map, refl, ap, sym, ◌∙◌, append_assoc, append-nil}
use Rattle.proto_types.specs.declared.tag.file.TheConstants as file
use Rattle.proto_types.specs.declared.tag.message.TheConstants as message
use Rattle.proto_types.specs.declared.tag.enum_.TheConstants as enumeration
use Rattle.proto_types.specs.declared.tag.service.TheConstants as service
use Rattle.proto_types.specs.declared.records.enumeration.EnumDescriptorProto.{EnumDescriptorProto}
use Rattle.proto_types.specs.declared.records.enumeration.EnumValueDescriptorProto.{EnumValueDescriptorProto}
use Rattle.proto_types.specs.declared.records.service.ServiceDescriptorProto.{ServiceDescriptorProto}
use Rattle.proto_types.specs.declared.records.service.MethodDescriptorProto.{MethodDescriptorProto}
use Rattle.proto_types.specs.declared.records.field.FieldDescriptorProto.{FieldDescriptorProto}
use Rattle.proto_types.specs.declared.file.FileDescriptorProto.{FileDescriptorProto}
use Rattle.proto_types.specs.declared.message.DescriptorProto.{DescriptorProto, out-DescriptorProto}
use Rattle.proto_types.specs.declared.message.OneofDescriptorProto.{OneofDescriptorProto}
use Rattle.record_walk.specs.declared.counts.Counts.{Counts}
use Rattle.record_walk.specs.Counts.{counted, counting}
use Rattle.record_walk.specs.Protos.{Proto, of_file, of_message, of_field, of_oneof, of_service, of_method, of_enum, of_value, of_extension}
use Rattle.record_walk.specs.Shown.{Shown, Surrounding, shown, inside, beside, row, parts}
use Rattle.record_walk.specs.Declarations.{enum_walk, enums_walk, services_walk, message_walk, messages_walk, in_file}
use Rattle.record_walk.specs.Walking.{index_at, within_file}
use Rattle.record_walk.specs.Cursor.{Rest, left_of, proto_walk, protos_walk}
use Rattle.record_walk.proofs.Counted.{counted-append}
use Rattle.record_walk.proofs.Leading.{message-walk-opens}
use Rattle.record_walk.proofs.Turns.{counted-enum, counted-row, counted-service, enums-keep, services-keep}

-- the walk of each kind of list
oneofs-are : (here : Surrounding) (tag : ℤ) (i : ℕ) (c : Counts) (os : List OneofDescriptorProto) → protos_walk here tag i c (map of_oneof os) ≡ row of_oneof here tag i i os
oneofs-are here tag i c [] = refl
oneofs-are here tag i c (o ∷ os) = ap (λ ds. shown here tag i i (of_oneof o) ∷ ds) (oneofs-are here tag (suc i) c os)

fields-are : (here : Surrounding) (tag : ℤ) (i : ℕ) (c : Counts) (fs : List FieldDescriptorProto) → protos_walk here tag i c (map of_field fs) ≡ row of_field here tag i i fs
fields-are here tag i c [] = refl
fields-are here tag i c (f ∷ fs) = ap (λ ds. shown here tag i i (of_field f) ∷ ds) (fields-are here tag (suc i) c fs)

methods-are : (here : Surrounding) (tag : ℤ) (i : ℕ) (c : Counts) (ms : List MethodDescriptorProto) → protos_walk here tag i c (map of_method ms) ≡ row of_method here tag i i ms
methods-are here tag i c [] = refl
methods-are here tag i c (m ∷ ms) = ap (λ ds. shown here tag i i (of_method m) ∷ ds) (methods-are here tag (suc i) c ms)

values-are : (here : Surrounding) (tag : ℤ) (i : ℕ) (c : Counts) (vs : List EnumValueDescriptorProto) → protos_walk here tag i c (map of_value vs) ≡ row of_value here tag i i vs
values-are here tag i c [] = refl
values-are here tag i c (v ∷ vs) = ap (λ ds. shown here tag i i (of_value v) ∷ ds) (values-are here tag (suc i) c vs)

extensions-are : (here : Surrounding) (tag : ℤ) (i : ℕ) (c : Counts) (xs : List FieldDescriptorProto) → protos_walk here tag i c (map of_extension xs) ≡ row of_extension here tag i c.extensions xs
extensions-are here tag i c [] = refl
extensions-are here tag i c (x ∷ xs) = ap (λ ds. shown here tag i c.extensions (of_extension x) ∷ ds) (extensions-are here tag (suc i) (counting c (of_extension x)) xs)

enums-are : (here : Surrounding) (tag : ℤ) (i : ℕ) (c : Counts) (es : List EnumDescriptorProto) → protos_walk here tag i c (map of_enum es) ≡ enums_walk here tag i c.enums es
enums-are here tag i c [] = refl
enums-are here tag i c (e ∷ es) =
    let first = enum_walk here tag i c.enums e in
    ap (λ ds. first ++ ds) (enums-are here tag (suc i) (counted c first) es ∙ (λ j. enums_walk here tag (suc i) (counted-enum c here tag i c.enums e j).enums es))

services-are : (here : Surrounding) (i : ℕ) (c : Counts) (ss : List ServiceDescriptorProto) → protos_walk here file.SERVICE i c (map of_service ss) ≡ services_walk here i c.services ss
services-are here i c [] = refl
services-are here i c (s ∷ ss) =
    let first = proto_walk here file.SERVICE i c (of_service s) in
    ap (λ ds. first ++ ds) (services-are here (suc i) (counted c first) ss ∙ (λ j. services_walk here (suc i) (counted-service c here i c.services s j).services ss))

messages-are : (here : Surrounding) (tag : ℤ) (i : ℕ) (c : Counts) (ms : List DescriptorProto) → protos_walk here tag i c (map of_message ms) ≡ messages_walk here tag i c ms
messages-are here tag i c [] = refl
messages-are here tag i c (m ∷ ms) =
    let first = message_walk here tag i c m in
    ap (λ ds. first ++ ds) (messages-are here tag (suc i) (counted c first) ms)

-- the first list, and the others by the counts after it
pub left-cons : (c k : Counts) (r : Rest) (rs : List Rest) (first more : List Shown) → protos_walk r.here r.tag r.position c r.protos ≡ first → counted c first ≡ k → left_of k rs ≡ more
    → left_of c (r ∷ rs) ≡ first ++ more
left-cons c k r rs first more is after others =
    (λ j. is j ++ left_of (counted c (is j)) rs) ∙ ap (λ n. first ++ left_of n rs) after ∙ ap (λ ds. first ++ ds) others

pub left-append : (c : Counts) (rs more : List Rest) → left_of c (rs ++ more) ≡ left_of c rs ++ left_of (counted c (left_of c rs)) more
left-append c [] more = refl
left-append c (r ∷ rs) more =
    let first = protos_walk r.here r.tag r.position c r.protos in
    let rest = left_of (counted c first) rs in
    ap (λ ds. first ++ ds) (left-append (counted c first) rs more)
    ∙ sym (append_assoc first rest (left_of (counted (counted c first) rest) more))
    ∙ ap (λ k. (first ++ rest) ++ left_of k more) (sym (counted-append c first rest))

-- what stands in a record
abbrev pub rest : Surrounding → ℤ → ℕ → List Proto → Rest
rest here tag position protos = record { here = here; tag = tag; position = position; protos = protos }

abbrev pub message_rests : Surrounding → DescriptorProto → List Rest
message_rests here m =
    rest here message.ONEOF_DECL 0 (map of_oneof (out-DescriptorProto m).oneof_decl)
    ∷ rest here message.FIELD 0 (map of_field (out-DescriptorProto m).field)
    ∷ rest here message.NESTED_TYPE 0 (map of_message (out-DescriptorProto m).nested_type)
    ∷ rest here message.ENUM_TYPE 0 (map of_enum (out-DescriptorProto m).enum_type)
    ∷ rest here message.EXTENSION 0 (map of_extension (out-DescriptorProto m).extension) ∷ []

abbrev pub rests_by : List ℕ → Shown → Proto → List Rest
rests_by scope d (of_message m) = message_rests (inside d) m
rests_by scope d (of_enum e) = rest (beside scope d) enumeration.VALUE 0 (map of_value e.value) ∷ []
rests_by scope d (of_service s) = rest (inside d) service.METHOD 0 (map of_method s.method) ∷ []
rests_by scope d _ = []

regrouped : (a b c d e : List Shown) → a ++ (b ++ (c ++ (d ++ (e ++ [])))) ≡ (((a ++ b) ++ c) ++ (d ++ e))
regrouped a b c d e = simp (append_assoc, append-nil)

-- one list, by counts
abbrev one : Counts → Rest → List Shown
one c r = protos_walk r.here r.tag r.position c r.protos

-- five lists, of which the first two count nothing
left-five : (k m n : Counts) (r s t u v : Rest) (a b c d e : List Shown) → one k r ≡ a → counted k a ≡ k → one k s ≡ b → counted k b ≡ k → one k t ≡ c → counted k c ≡ m
    → one m u ≡ d → counted m d ≡ n → one n v ≡ e → left_of k (r ∷ s ∷ t ∷ u ∷ v ∷ []) ≡ (((a ++ b) ++ c) ++ (d ++ e))
left-five k m n r s t u v a b c d e first k1 second k2 third k3 fourth k4 fifth =
    left-cons k k r (s ∷ t ∷ u ∷ v ∷ []) a (b ++ (c ++ (d ++ (e ++ [])))) first k1
    (left-cons k k s (t ∷ u ∷ v ∷ []) b (c ++ (d ++ (e ++ []))) second k2
    (left-cons k m t (u ∷ v ∷ []) c (d ++ (e ++ [])) third k3
    (left-cons m n u (v ∷ []) d (e ++ []) fourth k4
    (left-cons n (counted n e) v [] e [] fifth refl refl))))
    ∙ regrouped a b c d e

grouped : (a b c d : List Shown) → a ++ (b ++ (c ++ (d ++ []))) ≡ ((a ++ b) ++ c) ++ d
grouped a b c d = simp (append_assoc, append-nil)

left-four : (k l m n : Counts) (r s t u : Rest) (a b c d : List Shown) → one k r ≡ a → counted k a ≡ l → one l s ≡ b → counted l b ≡ m → one m t ≡ c → counted m c ≡ n → one n u ≡ d
    → left_of k (r ∷ s ∷ t ∷ u ∷ []) ≡ ((a ++ b) ++ c) ++ d
left-four k l m n r s t u a b c d first k1 second k2 third k3 fourth =
    left-cons k l r (s ∷ t ∷ u ∷ []) a (b ++ (c ++ (d ++ []))) first k1
    (left-cons l m s (t ∷ u ∷ []) b (c ++ (d ++ [])) second k2
    (left-cons m n t (u ∷ []) c (d ++ []) third k3
    (left-cons n (counted n d) u [] d [] fourth refl refl)))
    ∙ grouped a b c d

-- a message's declarations, list by list
message-opens : (here : Surrounding) (tag : ℤ) (i : ℕ) (c : Counts) (m : DescriptorProto) →
    let d = shown here tag i c.messages (of_message m) in
    message_walk here tag i c m ≡ d ∷ left_of (counting c (of_message m)) (message_rests (inside d) m)
message-opens here tag i c m =
    let d = shown here tag i c.messages (of_message m) in
    let k = counting c (of_message m) in
    let opened = out-DescriptorProto m in
    let deeper = messages_walk (inside d) message.NESTED_TYPE 0 k opened.nested_type in
    let after = counted k deeper in
    let enums = enums_walk (inside d) message.ENUM_TYPE 0 after.enums opened.enum_type in
    let oneofs = parts of_oneof (inside d) message.ONEOF_DECL opened.oneof_decl in
    let fields = parts of_field (inside d) message.FIELD opened.field in
    let extensions = row of_extension (inside d) message.EXTENSION 0 after.extensions opened.extension in
    message-walk-opens here tag i c m
    ∙ ap (λ ds. d ∷ ds) (sym (left-five k after (counted after enums)
    (rest (inside d) message.ONEOF_DECL 0 (map of_oneof opened.oneof_decl)) (rest (inside d) message.FIELD 0 (map of_field opened.field))
    (rest (inside d) message.NESTED_TYPE 0 (map of_message opened.nested_type)) (rest (inside d) message.ENUM_TYPE 0 (map of_enum opened.enum_type))
    (rest (inside d) message.EXTENSION 0 (map of_extension opened.extension)) oneofs fields deeper enums extensions
    (oneofs-are (inside d) message.ONEOF_DECL 0 k opened.oneof_decl) (counted-row of_oneof (λ _ _. refl) k (inside d) message.ONEOF_DECL 0 0 opened.oneof_decl)
    (fields-are (inside d) message.FIELD 0 k opened.field) (counted-row of_field (λ _ _. refl) k (inside d) message.FIELD 0 0 opened.field)
    (messages-are (inside d) message.NESTED_TYPE 0 k opened.nested_type) refl
    (enums-are (inside d) message.ENUM_TYPE 0 after opened.enum_type) refl
    (extensions-are (inside d) message.EXTENSION 0 (counted after enums) opened.extension
    ∙ ap (λ n. row of_extension (inside d) message.EXTENSION 0 n opened.extension) (enums-keep after (inside d) message.ENUM_TYPE 0 after.enums opened.enum_type).1)))

-- so it is with any record
pub proto-opens : (here : Surrounding) (tag : ℤ) (i : ℕ) (c : Counts) (p : Proto) →
    let d = shown here tag i (index_at c i p) p in
    proto_walk here tag i c p ≡ d ∷ left_of (counting c p) (rests_by here.scope d p)
proto-opens here tag i c (of_message m) = message-opens here tag i c m
proto-opens here tag i c (of_enum e) =
    let d = shown here tag i c.enums (of_enum e) in
    let at = beside here.scope d in
    ap (λ ds. d ∷ ds) (sym (left-cons (counting c (of_enum e)) _ (rest at enumeration.VALUE 0 (map of_value e.value)) [] (parts of_value at enumeration.VALUE e.value) []
    (values-are at enumeration.VALUE 0 (counting c (of_enum e)) e.value) refl refl ∙ append-nil (parts of_value at enumeration.VALUE e.value)))
proto-opens here tag i c (of_service s) =
    let d = shown here tag i c.services (of_service s) in
    ap (λ ds. d ∷ ds) (sym (left-cons (counting c (of_service s)) _ (rest (inside d) service.METHOD 0 (map of_method s.method)) [] (parts of_method (inside d) service.METHOD s.method) []
    (methods-are (inside d) service.METHOD 0 (counting c (of_service s)) s.method) refl refl ∙ append-nil (parts of_method (inside d) service.METHOD s.method)))
proto-opens here tag i c (of_file f) = refl
proto-opens here tag i c (of_field f) = refl
proto-opens here tag i c (of_oneof o) = refl
proto-opens here tag i c (of_method m) = refl
proto-opens here tag i c (of_value v) = refl
proto-opens here tag i c (of_extension x) = refl

-- the first record of the first list comes, then what stands in it, and then the others of its list
pub left-next : (c : Counts) (here : Surrounding) (tag : ℤ) (i : ℕ) (p : Proto) (ps : List Proto) (rs : List Rest) →
    let d = shown here tag i (index_at c i p) p in
    left_of c (rest here tag i (p ∷ ps) ∷ rs) ≡ d ∷ left_of (counting c p) (rests_by here.scope d p ++ rest here tag (suc i) ps ∷ rs)
left-next c here tag i p ps rs =
    let d = shown here tag i (index_at c i p) p in
    let first = proto_walk here tag i c p in
    let more = protos_walk here tag (suc i) (counted c first) ps in
    let behind = λ (k : Counts). left_of k (rest here tag (suc i) ps ∷ rs) in
    let inner = left_of (counting c p) (rests_by here.scope d p) in
    append_assoc first more (left_of (counted c (first ++ more)) rs)
    ∙ ap (λ k. first ++ (more ++ left_of k rs)) (counted-append c first more)
    ∙ (λ j. proto-opens here tag i c p j ++ behind (counted c (proto-opens here tag i c p j)))
    ∙ ap (λ ds. d ∷ ds) (sym (left-append (counting c p) (rests_by here.scope d p) (rest here tag (suc i) ps ∷ rs)))

abbrev pub file_rests : Surrounding → FileDescriptorProto → List Rest
file_rests here f =
    rest here file.MESSAGE_TYPE 0 (map of_message f.message_type)
    ∷ rest here file.ENUM_TYPE 0 (map of_enum f.enum_type)
    ∷ rest here file.SERVICE 0 (map of_service f.service)
    ∷ rest here file.EXTENSION 0 (map of_extension f.extension) ∷ []

-- a file's declarations, list by list
pub file-opens : (index : ℕ) (c : Counts) (f : FileDescriptorProto) → left_of c (file_rests (in_file index f) f) ≡ within_file index c f
file-opens index c f =
    let here = in_file index f in
    let messages = messages_walk here file.MESSAGE_TYPE 0 c f.message_type in
    let after = counted c messages in
    let enums = enums_walk here file.ENUM_TYPE 0 after.enums f.enum_type in
    let later = counted after enums in
    let services = services_walk here 0 after.services f.service in
    let last = counted later services in
    let extensions = row of_extension here file.EXTENSION 0 after.extensions f.extension in
    let kept = enums-keep after here file.ENUM_TYPE 0 after.enums f.enum_type in
    left-four c after later last (rest here file.MESSAGE_TYPE 0 (map of_message f.message_type)) (rest here file.ENUM_TYPE 0 (map of_enum f.enum_type))
    (rest here file.SERVICE 0 (map of_service f.service)) (rest here file.EXTENSION 0 (map of_extension f.extension)) messages enums services extensions
    (messages-are here file.MESSAGE_TYPE 0 c f.message_type) refl
    (enums-are here file.ENUM_TYPE 0 after f.enum_type) refl
    (services-are here 0 later f.service ∙ ap (λ n. services_walk here 0 n f.service) kept.0) refl
    (extensions-are here file.EXTENSION 0 last f.extension
    ∙ ap (λ n. row of_extension here file.EXTENSION 0 n f.extension) (services-keep later here 0 after.services f.service ∙ kept.1))
