-- The element of a path is the name of a declaration that stands there or around it.
use Rattle.std.proofs.Common.{◌≡◌, ℕ, zero, suc, ◌+◌, ℤ, pos, negsuc, Bool, true, false, cond, List, [], ◌∷◌, ◌++◌, Option, None, Some, slice_get, refl, ap, sym, subst, ◌∙◌, append_assoc, arith}
use Rattle.std.specs.List.{Contains}
use Rattle.std.specs.Option.{IfSome, option_map, option_map_or, option_and_then}
use Rattle.std.specs.Ordering.{int_eq}
use Rattle.std.proofs.lemmas.Bool.Decides.{Decides-int_eq}
use Rattle.std.proofs.lemmas.List.Elements.{Contains-append_left, Contains-append_right, Contains-push}
use Rattle.plain_data.specs.Lists.{at}
use Rattle.proto_types.specs.Names.{join}
use Rattle.proto_types.specs.Paths.{entry_path}
use Rattle.proto_types.specs.Readers.{text_of}
use Rattle.proto_types.specs.declared.file.FileDescriptorProto.{FileDescriptorProto}
use Rattle.proto_types.specs.declared.message.DescriptorProto.{DescriptorProto, out-DescriptorProto}
use Rattle.proto_types.specs.declared.records.enumeration.EnumDescriptorProto.{EnumDescriptorProto}
use Rattle.proto_types.specs.declared.records.service.ServiceDescriptorProto.{ServiceDescriptorProto}
use Rattle.proto_types.specs.declared.tag.file.TheConstants as file
use Rattle.proto_types.specs.declared.tag.message.TheConstants as message
use Rattle.proto_types.specs.declared.tag.enum_.TheConstants as enumeration
use Rattle.proto_types.specs.declared.tag.service.TheConstants as service
use Rattle.record_walk.specs.declared.counts.Counts.{Counts}
use Rattle.record_walk.specs.Counts.{no_counts, counted, counting}
use Rattle.record_walk.specs.Declarations.{in_file, enum_walk, enums_walk, service_walk, services_walk, message_front, message_end, message_walk, messages_walk, declarations}
use Rattle.record_walk.specs.Protos.{Proto, as_file, name_of, of_message, of_field, of_oneof, of_service, of_method, of_enum, of_value, of_extension}
use Rattle.record_walk.specs.Shown.{Shown, Surrounding, file_shown, shown, row, parts, inside, beside}
use Rattle.record_walk.proofs.Leading.{message-walk-opens}
use Rattle.verdict_texts.specs.Elements.{element_in, element_in_message, full_or, leaf_name, message_name, method_name, name_in_enum, name_in_message}
use Rattle.verdict_texts.specs.Known.{only}
use Rattle.verdict_texts.specs.Standing.{ElementsAreDeclared, IsElement, StandsAt}
use Rattle.verdict_texts.proofs.Entering.{no-some}

-- a declaration of a list stands in a longer one
among : (ds es : List Shown) (path : List ℤ) (name : List ℕ) → ((d : Shown) → Contains ds d → Contains es d) → StandsAt ds path name → StandsAt es path name
among ds es path name into s = record {
  declaration = s.declaration;
  listed = into s.declaration s.listed;
  inside = s.inside;
  named = s.named;
  rest = s.rest;
  front = s.front;
}

before : (ds es : List Shown) (path : List ℤ) (name : List ℕ) → StandsAt ds path name → StandsAt (ds ++ es) path name
before ds es path name = among ds (ds ++ es) path name (λ d. Contains-append_left ds es d)

behind : (ds es : List Shown) (path : List ℤ) (name : List ℕ) → StandsAt es path name → StandsAt (ds ++ es) path name
behind ds es path name = among es (ds ++ es) path name (λ d. Contains-append_right ds es d)

-- the first entry of a list, around what follows its path
here-stands : (here : Surrounding) (tag : ℤ) (position index : ℕ) (proto : Proto) (ds : List Shown) (path : List ℤ) (name : List ℕ) → as_file proto ≡ None → join here.scope (name_of proto) ≡ name
    → StandsAt (shown here tag position index proto ∷ ds) (here.path ++ tag ∷ pos position ∷ path) name
here-stands here tag position index proto ds path name out_of same =
    let d = shown here tag position index proto in
    record {
      declaration = d;
      listed = Contains-append_left (d ∷ []) ds d (Contains-push [] d);
      inside = out_of;
      named = same;
      rest = path;
      front = append_assoc here.path (tag ∷ pos position ∷ []) path;
    }

at-position : (here : Surrounding) (tag : ℤ) (k n : ℕ) (ds : List Shown) (path : List ℤ) (name : List ℕ) → k ≡ n
    → StandsAt ds (here.path ++ tag ∷ pos k ∷ path) name → StandsAt ds (here.path ++ tag ∷ pos n ∷ path) name
at-position here tag k n ds path name same s = subst (λ m. StandsAt ds (here.path ++ tag ∷ pos m ∷ path) name) same s

some-is : {X : Type 0} (x y : X) → Some x ≡ Some y → x ≡ y
some-is x y same = cc

-- an entry of a list
row-stands : {X : Type 0} (of : X → Proto) → ((x : X) → as_file (of x) ≡ None) → (here : Surrounding) (tag : ℤ) (position index k : ℕ) (xs : List X) (x : X) (path : List ℤ)
    → slice_get xs k ≡ Some x → StandsAt (row of here tag position index xs) (here.path ++ tag ∷ pos (position + k) ∷ path) (join here.scope (name_of (of x)))
row-stands of out_of here tag position index k [] x path is = no-some x is
row-stands of out_of here tag position index zero (y ∷ ys) x path is =
    let there : position ≡ position + zero = omega arith in
    let rest = row of here tag (suc position) (suc index) ys in
    at-position here tag position (position + zero) (shown here tag position index (of y) ∷ rest) path (join here.scope (name_of (of x))) there
    (here-stands here tag position index (of y) rest path (join here.scope (name_of (of x))) (out_of y) (ap (λ z. join here.scope (name_of (of z))) (some-is y x is)))
row-stands of out_of here tag position index (suc k) (y ∷ ys) x path is =
    let there : suc position + k ≡ position + suc k = omega arith in
    let d = shown here tag position index (of y) in
    let rest = row of here tag (suc position) (suc index) ys in
    at-position here tag (suc position + k) (position + suc k) (d ∷ rest) path (join here.scope (name_of (of x))) there
    (behind (d ∷ []) rest (here.path ++ tag ∷ pos (suc position + k) ∷ path) (join here.scope (name_of (of x))) (row-stands of out_of here tag (suc position) (suc index) k ys x path is))

-- an entry of a whole list, by a position as paths have it
entry-stands : {X : Type 0} (of : X → Proto) → ((x : X) → as_file (of x) ≡ None) → (here : Surrounding) (tag : ℤ) (index : ℕ) (position : ℤ) (xs : List X) (x : X) (path : List ℤ)
    → at xs position ≡ Some x → StandsAt (row of here tag 0 index xs) (here.path ++ tag ∷ position ∷ path) (join here.scope (name_of (of x)))
entry-stands of out_of here tag index (pos k) xs x path is =
    let there : 0 + k ≡ k = omega arith in
    at-position here tag (0 + k) k (row of here tag 0 index xs) path (join here.scope (name_of (of x))) there (row-stands of out_of here tag 0 index k xs x path is)
entry-stands of out_of here tag index (negsuc k) xs x path is = no-some x is

-- what follows the path of an entry, behind a tag that is the one of a list
onward : (ds : List Shown) (path : List ℤ) (tag : ℤ) (position : ℕ) (t u q : ℤ) (rest : List ℤ) (name : List ℕ) → t ≡ u
    → StandsAt ds (entry_path path tag position ++ u ∷ q ∷ rest) name → StandsAt ds (path ++ tag ∷ pos position ∷ t ∷ q ∷ rest) name
onward ds path tag position t u q rest name same s =
    let is : entry_path path tag position ++ u ∷ q ∷ rest ≡ path ++ tag ∷ pos position ∷ t ∷ q ∷ rest =
    append_assoc path (tag ∷ pos position ∷ []) (u ∷ q ∷ rest) ∙ ap (λ v. path ++ tag ∷ pos position ∷ v ∷ q ∷ rest) (sym same) in
    subst (λ (ps : List ℤ). StandsAt ds ps name) is s

-- by a test and by what stands at a position
pick : {X : Type 0} (S : List ℕ → Type 0) (g : List ℕ → List ℕ) (f : X → List ℕ) (default other : List ℕ) (b : Bool) (v : Option X)
    → S (g default) → S (g other) → ((x : X) → b ≡ true → v ≡ Some x → S (g (f x))) → S (g (cond b (option_map_or f v default) other))
pick S g f default other false v whole rest each = rest
pick S g f default other true None whole rest each = whole
pick S g f default other true (Some x) whole rest each = each x refl refl

pick-or : {X : Type 0} (S : List ℕ → Type 0) (full : List ℕ) (h : X → List ℕ) (other : Option (List ℕ)) (b : Bool) (v : Option X)
    → S full → S (full_or full other) → ((x : X) → b ≡ true → v ≡ Some x → S (join full (h x))) → S (full_or full (cond b (option_map h v) other))
pick-or S full h other false v whole rest each = rest
pick-or S full h other true None whole rest each = whole
pick-or S full h other true (Some x) whole rest each = each x refl refl

pick-some : {X : Type 0} (S : List ℕ → Type 0) (h : X → List ℕ) (other : Option (List ℕ)) (b : Bool) (v : Option X)
    → IfSome other S → ((x : X) → b ≡ true → v ≡ Some x → S (h x)) → IfSome (cond b (option_map h v) other) S
pick-some S h other false v rest each = rest
pick-some S h other true None rest each = tt
pick-some S h other true (Some x) rest each = each x refl refl

is-tag : (t u : ℤ) → int_eq t u ≡ true → t ≡ u
is-tag t u same = (Decides-int_eq t u).0 same

-- what stands in an enum
in-enum : (here : Surrounding) (tag : ℤ) (position index : ℕ) (e : EnumDescriptorProto) (path : List ℤ)
    → StandsAt (enum_walk here tag position index e) (here.path ++ tag ∷ pos position ∷ path) (join here.scope (name_in_enum e path))
in-enum here tag position index e [] =
    let d = shown here tag position index (of_enum e) in
    here-stands here tag position index (of_enum e) (parts of_value (beside here.scope d) enumeration.VALUE e.value) [] (join here.scope (text_of e.name)) refl refl
in-enum here tag position index e (t ∷ []) =
    let d = shown here tag position index (of_enum e) in
    here-stands here tag position index (of_enum e) (parts of_value (beside here.scope d) enumeration.VALUE e.value) (t ∷ []) (join here.scope (text_of e.name)) refl refl
in-enum here tag position index e (t ∷ q ∷ path) =
    let d = shown here tag position index (of_enum e) in
    let values = parts of_value (beside here.scope d) enumeration.VALUE e.value in
    let itself = here-stands here tag position index (of_enum e) values (t ∷ q ∷ path) (join here.scope (text_of e.name)) refl refl in
    pick (StandsAt (d ∷ values) (here.path ++ tag ∷ pos position ∷ t ∷ q ∷ path)) (join here.scope) (λ v. text_of v.name) (text_of e.name) (text_of e.name)
    (int_eq t enumeration.VALUE) (at e.value q) itself itself
    (λ v same is. onward (d ∷ values) here.path tag position t enumeration.VALUE q path (join here.scope (text_of v.name)) (is-tag t enumeration.VALUE same)
    (behind (d ∷ []) values (d.path ++ enumeration.VALUE ∷ q ∷ path) (join here.scope (text_of v.name))
    (entry-stands of_value (λ _. refl) (beside here.scope d) enumeration.VALUE 0 q e.value v path is)))

-- what stands in a service
in-service : (here : Surrounding) (position index : ℕ) (s : ServiceDescriptorProto) (path : List ℤ)
    → StandsAt (service_walk here position index s) (here.path ++ file.SERVICE ∷ pos position ∷ path) (full_or (join here.scope (text_of s.name)) (method_name s path))
in-service here position index s [] =
    let d = shown here file.SERVICE position index (of_service s) in
    here-stands here file.SERVICE position index (of_service s) (parts of_method (inside d) service.METHOD s.method) [] (join here.scope (text_of s.name)) refl refl
in-service here position index s (t ∷ []) =
    let d = shown here file.SERVICE position index (of_service s) in
    here-stands here file.SERVICE position index (of_service s) (parts of_method (inside d) service.METHOD s.method) (t ∷ []) (join here.scope (text_of s.name)) refl refl
in-service here position index s (t ∷ q ∷ path) =
    let d = shown here file.SERVICE position index (of_service s) in
    let full = join here.scope (text_of s.name) in
    let methods = parts of_method (inside d) service.METHOD s.method in
    let itself = here-stands here file.SERVICE position index (of_service s) methods (t ∷ q ∷ path) full refl refl in
    pick-or (StandsAt (d ∷ methods) (here.path ++ file.SERVICE ∷ pos position ∷ t ∷ q ∷ path)) full (λ m. text_of m.name) None (int_eq t service.METHOD) (at s.method q) itself itself
    (λ m same is. onward (d ∷ methods) here.path file.SERVICE position t service.METHOD q path (join full (text_of m.name)) (is-tag t service.METHOD same)
    (behind (d ∷ []) methods (d.path ++ service.METHOD ∷ q ∷ path) (join full (text_of m.name)) (entry-stands of_method (λ _. refl) (inside d) service.METHOD 0 q s.method m path is)))

enums-stand : (here : Surrounding) (tag : ℤ) (position index k : ℕ) (es : List EnumDescriptorProto) (e : EnumDescriptorProto) (path : List ℤ) → slice_get es k ≡ Some e
    → StandsAt (enums_walk here tag position index es) (here.path ++ tag ∷ pos (position + k) ∷ path) (join here.scope (name_in_enum e path))
enums-stand here tag position index k [] e path is = no-some e is
enums-stand here tag position index zero (y ∷ ys) e path is =
    let there : position ≡ position + zero = omega arith in
    let name = join here.scope (name_in_enum e path) in
    let own = subst (λ (z : EnumDescriptorProto). StandsAt (enum_walk here tag position index y) (here.path ++ tag ∷ pos position ∷ path) (join here.scope (name_in_enum z path))) (some-is y e is) (in-enum here tag position index y path) in
    let rest = enums_walk here tag (suc position) (suc index) ys in
    at-position here tag position (position + zero) (enum_walk here tag position index y ++ rest) path name there
    (before (enum_walk here tag position index y) rest (here.path ++ tag ∷ pos position ∷ path) name own)
enums-stand here tag position index (suc k) (y ∷ ys) e path is =
    let there : suc position + k ≡ position + suc k = omega arith in
    let name = join here.scope (name_in_enum e path) in
    let first = enum_walk here tag position index y in
    let rest = enums_walk here tag (suc position) (suc index) ys in
    at-position here tag (suc position + k) (position + suc k) (first ++ rest) path name there
    (behind first rest (here.path ++ tag ∷ pos (suc position + k) ∷ path) name (enums-stand here tag (suc position) (suc index) k ys e path is))

services-stand : (here : Surrounding) (position index k : ℕ) (ss : List ServiceDescriptorProto) (s : ServiceDescriptorProto) (path : List ℤ) → slice_get ss k ≡ Some s
    → StandsAt (services_walk here position index ss) (here.path ++ file.SERVICE ∷ pos (position + k) ∷ path) (full_or (join here.scope (text_of s.name)) (method_name s path))
services-stand here position index k [] s path is = no-some s is
services-stand here position index zero (y ∷ ys) s path is =
    let there : position ≡ position + zero = omega arith in
    let name = full_or (join here.scope (text_of s.name)) (method_name s path) in
    let own = subst (λ (z : ServiceDescriptorProto). StandsAt (service_walk here position index y) (here.path ++ file.SERVICE ∷ pos position ∷ path) (full_or (join here.scope (text_of z.name)) (method_name z path))) (some-is y s is) (in-service here position index y path) in
    let rest = services_walk here (suc position) (suc index) ys in
    at-position here file.SERVICE position (position + zero) (service_walk here position index y ++ rest) path name there
    (before (service_walk here position index y) rest (here.path ++ file.SERVICE ∷ pos position ∷ path) name own)
services-stand here position index (suc k) (y ∷ ys) s path is =
    let there : suc position + k ≡ position + suc k = omega arith in
    let name = full_or (join here.scope (text_of s.name)) (method_name s path) in
    let first = service_walk here position index y in
    let rest = services_walk here (suc position) (suc index) ys in
    at-position here file.SERVICE (suc position + k) (position + suc k) (first ++ rest) path name there
    (behind first rest (here.path ++ file.SERVICE ∷ pos (suc position + k) ∷ path) name (services-stand here (suc position) (suc index) k ys s path is))

-- an element in a list of messages, where in each message there is one
messages-stand : (here : Surrounding) (tag : ℤ) (path : List ℤ) (f : DescriptorProto → List ℕ)
    → ((position : ℕ) (base : Counts) (m : DescriptorProto) → StandsAt (message_walk here tag position base m) (here.path ++ tag ∷ pos position ∷ path) (f m))
    → (position : ℕ) (base : Counts) (k : ℕ) (ms : List DescriptorProto) (n : DescriptorProto) → slice_get ms k ≡ Some n
    → StandsAt (messages_walk here tag position base ms) (here.path ++ tag ∷ pos (position + k) ∷ path) (f n)
messages-stand here tag path f each position base k [] n is = no-some n is
messages-stand here tag path f each position base zero (y ∷ ys) n is =
    let there : position ≡ position + zero = omega arith in
    let own = subst (λ (z : DescriptorProto). StandsAt (message_walk here tag position base y) (here.path ++ tag ∷ pos position ∷ path) (f z)) (some-is y n is) (each position base y) in
    let first = message_walk here tag position base y in
    let rest = messages_walk here tag (suc position) (counted base first) ys in
    at-position here tag position (position + zero) (first ++ rest) path (f n) there (before first rest (here.path ++ tag ∷ pos position ∷ path) (f n) own)
messages-stand here tag path f each position base (suc k) (y ∷ ys) n is =
    let there : suc position + k ≡ position + suc k = omega arith in
    let first = message_walk here tag position base y in
    let rest = messages_walk here tag (suc position) (counted base first) ys in
    at-position here tag (suc position + k) (position + suc k) (first ++ rest) path (f n) there
    (behind first rest (here.path ++ tag ∷ pos (suc position + k) ∷ path) (f n) (messages-stand here tag path f each (suc position) (counted base first) k ys n is))

-- by a position as paths have it
enum-at : (here : Surrounding) (tag : ℤ) (index : ℕ) (q : ℤ) (es : List EnumDescriptorProto) (e : EnumDescriptorProto) (path : List ℤ) → at es q ≡ Some e
    → StandsAt (enums_walk here tag 0 index es) (here.path ++ tag ∷ q ∷ path) (join here.scope (name_in_enum e path))
enum-at here tag index (pos k) es e path is =
    let there : 0 + k ≡ k = omega arith in
    at-position here tag (0 + k) k (enums_walk here tag 0 index es) path (join here.scope (name_in_enum e path)) there (enums-stand here tag 0 index k es e path is)
enum-at here tag index (negsuc k) es e path is = no-some e is

service-at : (here : Surrounding) (index : ℕ) (q : ℤ) (ss : List ServiceDescriptorProto) (s : ServiceDescriptorProto) (path : List ℤ) → at ss q ≡ Some s
    → StandsAt (services_walk here 0 index ss) (here.path ++ file.SERVICE ∷ q ∷ path) (full_or (join here.scope (text_of s.name)) (method_name s path))
service-at here index (pos k) ss s path is =
    let there : 0 + k ≡ k = omega arith in
    at-position here file.SERVICE (0 + k) k (services_walk here 0 index ss) path (full_or (join here.scope (text_of s.name)) (method_name s path)) there (services-stand here 0 index k ss s path is)
service-at here index (negsuc k) ss s path is = no-some s is

message-at : (here : Surrounding) (tag : ℤ) (path : List ℤ) (f : DescriptorProto → List ℕ)
    → ((position : ℕ) (base : Counts) (m : DescriptorProto) → StandsAt (message_walk here tag position base m) (here.path ++ tag ∷ pos position ∷ path) (f m))
    → (base : Counts) (q : ℤ) (ms : List DescriptorProto) (n : DescriptorProto) → at ms q ≡ Some n → StandsAt (messages_walk here tag 0 base ms) (here.path ++ tag ∷ q ∷ path) (f n)
message-at here tag path f each base (pos k) ms n is =
    let there : 0 + k ≡ k = omega arith in
    at-position here tag (0 + k) k (messages_walk here tag 0 base ms) path (f n) there (messages-stand here tag path f each 0 base k ms n is)
message-at here tag path f each base (negsuc k) ms n is = no-some n is

-- what stands in a message
in-message : (path : List ℤ) (here : Surrounding) (tag : ℤ) (position : ℕ) (base : Counts) (m : DescriptorProto)
    → StandsAt (message_walk here tag position base m) (here.path ++ tag ∷ pos position ∷ path) (element_in_message (join here.scope (message_name m)) m path)
in-message [] here tag position base m =
    subst (λ (ds : List Shown). StandsAt ds (here.path ++ tag ∷ pos position ∷ []) (join here.scope (message_name m))) (sym (message-walk-opens here tag position base m))
    (here-stands here tag position base.messages (of_message m) _ [] (join here.scope (message_name m)) refl refl)
in-message (t ∷ []) here tag position base m =
    subst (λ (ds : List Shown). StandsAt ds (here.path ++ tag ∷ pos position ∷ t ∷ []) (join here.scope (message_name m))) (sym (message-walk-opens here tag position base m))
    (here-stands here tag position base.messages (of_message m) _ (t ∷ []) (join here.scope (message_name m)) refl refl)
in-message (t ∷ q ∷ path) here tag position base m =
    let d = shown here tag position base.messages (of_message m) in
    let full = join here.scope (message_name m) in
    let first = counting base (of_message m) in
    let oneofs = parts of_oneof (inside d) message.ONEOF_DECL (out-DescriptorProto m).oneof_decl in
    let fields = parts of_field (inside d) message.FIELD (out-DescriptorProto m).field in
    let front = message_front (inside d) (out-DescriptorProto m).oneof_decl (out-DescriptorProto m).field in
    let deeper = messages_walk (inside d) message.NESTED_TYPE 0 first (out-DescriptorProto m).nested_type in
    let after = counted first deeper in
    let enums = enums_walk (inside d) message.ENUM_TYPE 0 after.enums (out-DescriptorProto m).enum_type in
    let extensions = row of_extension (inside d) message.EXTENSION 0 after.extensions (out-DescriptorProto m).extension in
    let last = message_end (inside d) after (out-DescriptorProto m).enum_type (out-DescriptorProto m).extension in
    let rest = front ++ deeper ++ last in
    let whole : List ℤ = here.path ++ tag ∷ pos position ∷ t ∷ q ∷ path in
    let S : List ℕ → Type 0 = StandsAt (d ∷ rest) whole in
    let itself : S full = here-stands here tag position base.messages (of_message m) rest (t ∷ q ∷ path) full refl refl in
    let into : (u : ℤ) (name : List ℕ) → t ≡ u → StandsAt rest (d.path ++ u ∷ q ∷ path) name → S name =
    λ u name same s. onward (d ∷ rest) here.path tag position t u q path name same (behind (d ∷ []) rest (d.path ++ u ∷ q ∷ path) name s) in
    let of_front : (u : ℤ) (name : List ℕ) → t ≡ u → StandsAt front (d.path ++ u ∷ q ∷ path) name → S name =
    λ u name same s. into u name same (before (front ++ deeper) last (d.path ++ u ∷ q ∷ path) name (before front deeper (d.path ++ u ∷ q ∷ path) name s)) in
    let of_last : (u : ℤ) (name : List ℕ) → t ≡ u → StandsAt last (d.path ++ u ∷ q ∷ path) name → S name =
    λ u name same s. into u name same (behind (front ++ deeper) last (d.path ++ u ∷ q ∷ path) name s) in
    let leaf : S (full_or full (leaf_name m t q)) =
    pick-or S full (λ f. text_of f.name) _ (int_eq t message.FIELD) (at (out-DescriptorProto m).field q) itself
    (pick-or S full (λ f. text_of f.name) _ (int_eq t message.EXTENSION) (at (out-DescriptorProto m).extension q) itself
    (pick-or S full (λ o. text_of o.name) None (int_eq t message.ONEOF_DECL) (at (out-DescriptorProto m).oneof_decl q) itself itself
    (λ o same is. of_front message.ONEOF_DECL (join full (text_of o.name)) (is-tag t message.ONEOF_DECL same)
    (before oneofs fields (d.path ++ message.ONEOF_DECL ∷ q ∷ path) (join full (text_of o.name)) (entry-stands of_oneof (λ _. refl) (inside d) message.ONEOF_DECL 0 q (out-DescriptorProto m).oneof_decl o path is))))
    (λ x same is. of_last message.EXTENSION (join full (text_of x.name)) (is-tag t message.EXTENSION same)
    (behind enums extensions (d.path ++ message.EXTENSION ∷ q ∷ path) (join full (text_of x.name)) (entry-stands of_extension (λ _. refl) (inside d) message.EXTENSION after.extensions q (out-DescriptorProto m).extension x path is))))
    (λ f same is. of_front message.FIELD (join full (text_of f.name)) (is-tag t message.FIELD same)
    (behind oneofs fields (d.path ++ message.FIELD ∷ q ∷ path) (join full (text_of f.name)) (entry-stands of_field (λ _. refl) (inside d) message.FIELD 0 q (out-DescriptorProto m).field f path is))) in
    let other : S (full_or full (name_in_message m t q path)) =
    pick-or S full (λ e. name_in_enum e path) (leaf_name m t q) (int_eq t message.ENUM_TYPE) (at (out-DescriptorProto m).enum_type q) itself leaf
    (λ e same is. of_last message.ENUM_TYPE (join full (name_in_enum e path)) (is-tag t message.ENUM_TYPE same)
    (before enums extensions (d.path ++ message.ENUM_TYPE ∷ q ∷ path) (join full (name_in_enum e path)) (enum-at (inside d) message.ENUM_TYPE after.enums q (out-DescriptorProto m).enum_type e path is))) in
    let found = λ (n : DescriptorProto). element_in_message (join full (message_name n)) n path in
    subst (λ (ds : List Shown). StandsAt ds whole (element_in_message full m (t ∷ q ∷ path))) (sym (message-walk-opens here tag position base m))
    (pick S (λ name. name) found full (full_or full (name_in_message m t q path)) (int_eq t message.NESTED_TYPE) (at (out-DescriptorProto m).nested_type q) itself other
    (λ n same is. into message.NESTED_TYPE (found n) (is-tag t message.NESTED_TYPE same)
    (before (front ++ deeper) last (d.path ++ message.NESTED_TYPE ∷ q ∷ path) (found n) (behind front deeper (d.path ++ message.NESTED_TYPE ∷ q ∷ path) (found n)
    (message-at (inside d) message.NESTED_TYPE path found (in-message path (inside d) message.NESTED_TYPE) first q (out-DescriptorProto m).nested_type n is)))))

-- what stands in a file
in-file : (f : FileDescriptorProto) (path : List ℤ) → IfSome (element_in f path) (StandsAt (declarations no_counts (f ∷ [])) path)
in-file f [] = tt
in-file f (t ∷ []) = tt
in-file f (t ∷ q ∷ path) =
    let here = in_file 0 f in
    let scope = text_of f.«package» in
    let base = no_counts in
    let messages = messages_walk here file.MESSAGE_TYPE 0 base f.message_type in
    let after = counted base messages in
    let enums = enums_walk here file.ENUM_TYPE 0 after.enums f.enum_type in
    let services = services_walk here 0 after.services f.service in
    let extensions = row of_extension here file.EXTENSION 0 after.extensions f.extension in
    let rest = messages ++ enums ++ services ++ extensions in
    let itself = file_shown [] base.files f in
    let S : List ℕ → Type 0 = StandsAt (declarations no_counts (f ∷ [])) (t ∷ q ∷ path) in
    let into : (u : ℤ) (name : List ℕ) → t ≡ u → StandsAt rest (u ∷ q ∷ path) name → S name =
    λ u name same s. subst (λ (v : ℤ). StandsAt (declarations no_counts (f ∷ [])) (v ∷ q ∷ path) name) (sym same)
    (before (itself ∷ rest) [] (u ∷ q ∷ path) name (behind (itself ∷ []) rest (u ∷ q ∷ path) name s)) in
    pick-some S (λ m. element_in_message (join scope (message_name m)) m path) _ (int_eq t file.MESSAGE_TYPE) (at f.message_type q)
    (pick-some S (λ e. join scope (name_in_enum e path)) _ (int_eq t file.ENUM_TYPE) (at f.enum_type q)
    (pick-some S (λ s. full_or (join scope (text_of s.name)) (method_name s path)) _ (int_eq t file.SERVICE) (at f.service q)
    (pick-some S (λ x. join scope (text_of x.name)) None (int_eq t file.EXTENSION) (at f.extension q) tt
    (λ x same is. into file.EXTENSION (join scope (text_of x.name)) (is-tag t file.EXTENSION same)
    (behind (messages ++ enums ++ services) extensions (file.EXTENSION ∷ q ∷ path) (join scope (text_of x.name)) (entry-stands of_extension (λ _. refl) here file.EXTENSION after.extensions q f.extension x path is))))
    (λ s same is. into file.SERVICE (full_or (join scope (text_of s.name)) (method_name s path)) (is-tag t file.SERVICE same)
    (before (messages ++ enums ++ services) extensions (file.SERVICE ∷ q ∷ path) (full_or (join scope (text_of s.name)) (method_name s path))
    (behind (messages ++ enums) services (file.SERVICE ∷ q ∷ path) (full_or (join scope (text_of s.name)) (method_name s path)) (service-at here after.services q f.service s path is)))))
    (λ e same is. into file.ENUM_TYPE (join scope (name_in_enum e path)) (is-tag t file.ENUM_TYPE same)
    (before (messages ++ enums ++ services) extensions (file.ENUM_TYPE ∷ q ∷ path) (join scope (name_in_enum e path))
    (before (messages ++ enums) services (file.ENUM_TYPE ∷ q ∷ path) (join scope (name_in_enum e path))
    (behind messages enums (file.ENUM_TYPE ∷ q ∷ path) (join scope (name_in_enum e path)) (enum-at here file.ENUM_TYPE after.enums q f.enum_type e path is))))))
    (λ m same is. into file.MESSAGE_TYPE (element_in_message (join scope (message_name m)) m path) (is-tag t file.MESSAGE_TYPE same)
    (before (messages ++ enums ++ services) extensions (file.MESSAGE_TYPE ∷ q ∷ path) (element_in_message (join scope (message_name m)) m path)
    (before (messages ++ enums) services (file.MESSAGE_TYPE ∷ q ∷ path) (element_in_message (join scope (message_name m)) m path)
    (before messages enums (file.MESSAGE_TYPE ∷ q ∷ path) (element_in_message (join scope (message_name m)) m path)
    (message-at here file.MESSAGE_TYPE path (λ n. element_in_message (join scope (message_name n)) n path) (in-message path here file.MESSAGE_TYPE) base q f.message_type m is)))))

some-weaker : (o : Option (List ℕ)) (S T : List ℕ → Type 0) → ((name : List ℕ) → S name → T name) → IfSome o S → IfSome o T
some-weaker None S T weaker s = tt
some-weaker (Some name) S T weaker s = weaker name s

pub elements-are-declared : ElementsAreDeclared
elements-are-declared files label = by_file (only files label.file) refl
  where
    by_file : (r : Option FileDescriptorProto) → only files label.file ≡ r → IfSome (option_and_then (λ f. element_in f label.path) r) (λ name. IsElement files label name)
    by_file None is = tt
    by_file (Some f) is = some-weaker (element_in f label.path) (StandsAt (declarations no_counts (f ∷ [])) label.path) (λ name. IsElement files label name)
        (λ name s. record { file = f; found = is; stands = s }) (in-file f label.path)
