-- What holds of the record of each declaration holds of the record that a path leads to.
use Rattle.std.proofs.Common.{◌≡◌, ℕ, zero, suc, ℤ, pos, negsuc, Bool, true, false, if◌then◌else◌, Option, None, Some, IfSome, List, [], ◌∷◌, ◌++◌, slice_get, int_eq, subst}
use Rattle.std.specs.List.{AllByRecursion, list_all}
use Rattle.std.specs.Option.{option_map, option_and_then}
use Rattle.std.proofs.lemmas.List.Elements.{recursion_from_All}
use Rattle.std.proofs.lemmas.List.Sums.{AllPass-from_list_all}
use Rattle.std.proofs.lemmas.Option.{MatchOption-at_some}
use Rattle.proto_types.specs.declared.tag.file.TheConstants as file
use Rattle.proto_types.specs.declared.tag.message.TheConstants as message
use Rattle.proto_types.specs.declared.tag.enum_.TheConstants as enumeration
use Rattle.proto_types.specs.declared.tag.service.TheConstants as service
use Rattle.proto_types.specs.declared.records.enumeration.EnumDescriptorProto.{EnumDescriptorProto}
use Rattle.proto_types.specs.declared.records.service.ServiceDescriptorProto.{ServiceDescriptorProto}
use Rattle.plain_data.specs.Lists.{at}
use Rattle.proto_types.specs.declared.file.FileDescriptorProto.{FileDescriptorProto}
use Rattle.proto_types.specs.declared.message.DescriptorProto.{DescriptorProto, out-DescriptorProto}
use Rattle.record_walk.specs.declared.counts.Counts.{Counts}
use Rattle.record_walk.specs.Protos.{Proto, of_message, of_field, of_oneof, of_service, of_method, of_enum, of_value, of_extension}
use Rattle.record_walk.specs.Shown.{Shown, Surrounding, shown, row, parts, inside, beside}
use Rattle.record_walk.specs.Counts.{counted, counting, lists_fit}
use Rattle.record_walk.specs.Declarations.{in_file, enum_walk, enums_walk, service_walk, services_walk, message_walk, messages_walk, file_walk, declarations}
use Rattle.record_walk.specs.Leads.{leaf, leads, leads_in_message, leads_in_enum, leads_in_service}
use Rattle.record_walk.proofs.Leading.{message-walk-opens}

module _ (P : Proto → Type 0) where
  -- it holds of each declaration, and of what is found
  abbrev Declared : List Shown → Type 0
  Declared ds = AllByRecursion (λ d. P d.proto) ds

  abbrev Found : Option Proto → Type 0
  Found o = IfSome o P

  apart : (ds es : List Shown) → Declared (ds ++ es) → Declared ds × Declared es
  apart [] es all = (tt, all)
  apart (d ∷ ds) es all = let rest = apart ds es all.1 in ((all.0, rest.0), rest.1)

  either : (b : Bool) (first second : Option Proto) → Found first → Found second → Found (if b then first else second)
  either true first second holds other = holds
  either false first second other holds = holds

  -- an entry of a list, and what a path leads to from there
  entry-at : {X : Type 0} (Q : X → Type 0) (xs : List X) (position : ℕ) → AllByRecursion Q xs → IfSome (slice_get xs position) Q
  entry-at Q [] position all = tt
  entry-at Q (x ∷ xs) zero all = all.0
  entry-at Q (x ∷ xs) (suc position) all = entry-at Q xs position all.1

  entry : {X : Type 0} (Q : X → Type 0) (xs : List X) (position : ℤ) → AllByRecursion Q xs → IfSome (at xs position) Q
  entry Q xs (pos n) all = entry-at Q xs n all
  entry Q xs (negsuc n) all = tt

  onward : {X : Type 0} (on : X → Option Proto) (o : Option X) → IfSome o (λ x. Found (on x)) → Found (option_and_then on o)
  onward on None holds = tt
  onward on (Some x) holds = holds

  into : {X : Type 0} (on : X → Option Proto) (xs : List X) (position : ℤ) → AllByRecursion (λ x. Found (on x)) xs
      → Found (option_and_then on (at xs position))
  into on xs position all = onward on (at xs position) (entry (λ x. Found (on x)) xs position all)

  -- entries that nothing more stands in
  mapped : {X : Type 0} (of : X → Proto) (o : Option X) → IfSome o (λ x. P (of x)) → Found (option_map of o)
  mapped of None holds = tt
  mapped of (Some x) holds = holds

  row-holds : {X : Type 0} (of : X → Proto) (here : Surrounding) (tag : ℤ) (i n : ℕ) (xs : List X)
      → Declared (row of here tag i n xs) → AllByRecursion (λ x. P (of x)) xs
  row-holds of here tag i n [] all = tt
  row-holds of here tag i n (x ∷ xs) all = (all.0, row-holds of here tag (suc i) (suc n) xs all.1)

  leaf-holds : {X : Type 0} (of : X → Proto) (here : Surrounding) (tag : ℤ) (n : ℕ) (xs : List X) (position : ℤ) (path : List ℤ)
      → Declared (row of here tag 0 n xs) → Found (leaf of xs position path)
  leaf-holds of here tag n xs position [] all = mapped of (at xs position) (entry (λ x. P (of x)) xs position (row-holds of here tag 0 n xs all))
  leaf-holds of here tag n xs position (_ ∷ _) all = tt

  -- enums and their values
  enum-holds : (path : List ℤ) (here : Surrounding) (tag : ℤ) (i n : ℕ) (e : EnumDescriptorProto) → Declared (enum_walk here tag i n e) → Found (leads_in_enum e path)
  enum-holds [] here tag i n e all = all.0
  enum-holds (_ ∷ []) here tag i n e all = tt
  enum-holds (number ∷ position ∷ path) here tag i n e all =
      let within = beside here.scope (shown here tag i n (of_enum e)) in
      either (int_eq number enumeration.VALUE) _ _ (leaf-holds of_value within enumeration.VALUE 0 e.value position path all.1) tt

  enums-hold : (path : List ℤ) (here : Surrounding) (tag : ℤ) (i n : ℕ) (es : List EnumDescriptorProto) → Declared (enums_walk here tag i n es)
      → AllByRecursion (λ e. Found (leads_in_enum e path)) es
  enums-hold path here tag i n [] all = tt
  enums-hold path here tag i n (e ∷ es) all =
      let two = apart (enum_walk here tag i n e) (enums_walk here tag (suc i) (suc n) es) all in
      (enum-holds path here tag i n e two.0, enums-hold path here tag (suc i) (suc n) es two.1)

  -- services and their methods
  service-holds : (path : List ℤ) (here : Surrounding) (i n : ℕ) (s : ServiceDescriptorProto) → Declared (service_walk here i n s) → Found (leads_in_service s path)
  service-holds [] here i n s all = all.0
  service-holds (_ ∷ []) here i n s all = tt
  service-holds (number ∷ position ∷ path) here i n s all =
      let within = inside (shown here file.SERVICE i n (of_service s)) in
      either (int_eq number service.METHOD) _ _ (leaf-holds of_method within service.METHOD 0 s.method position path all.1) tt

  services-hold : (path : List ℤ) (here : Surrounding) (i n : ℕ) (ss : List ServiceDescriptorProto) → Declared (services_walk here i n ss)
      → AllByRecursion (λ s. Found (leads_in_service s path)) ss
  services-hold path here i n [] all = tt
  services-hold path here i n (s ∷ ss) all =
      let two = apart (service_walk here i n s) (services_walk here (suc i) (suc n) ss) all in
      (service-holds path here i n s two.0, services-hold path here (suc i) (suc n) ss two.1)

  -- messages and all that stands in them, by the rest of the path
  messages-hold : (on : DescriptorProto → Option Proto)
      → ((here : Surrounding) (tag : ℤ) (i : ℕ) (base : Counts) (m : DescriptorProto) → Declared (message_walk here tag i base m) → Found (on m))
      → (here : Surrounding) (tag : ℤ) (i : ℕ) (base : Counts) (ms : List DescriptorProto) → Declared (messages_walk here tag i base ms)
      → AllByRecursion (λ m. Found (on m)) ms
  messages-hold on of_each here tag i base [] all = tt
  messages-hold on of_each here tag i base (m ∷ ms) all =
      let first = message_walk here tag i base m in
      let two = apart first (messages_walk here tag (suc i) (counted base first) ms) all in
      (of_each here tag i base m two.0, messages-hold on of_each here tag (suc i) (counted base first) ms two.1)

  message-holds : (path : List ℤ) (here : Surrounding) (tag : ℤ) (i : ℕ) (base : Counts) (m : DescriptorProto) → Declared (message_walk here tag i base m)
      → Found (leads_in_message m path)
  message-holds [] here tag i base m all = (subst Declared (message-walk-opens here tag i base m) all).0
  message-holds (_ ∷ []) here tag i base m all = tt
  message-holds (number ∷ position ∷ path) here tag i base m all =
      let o = out-DescriptorProto m in
      let within = inside (shown here tag i base.messages (of_message m)) in
      let first = counting base (of_message m) in
      let oneofs = parts of_oneof within message.ONEOF_DECL o.oneof_decl in
      let fields = parts of_field within message.FIELD o.field in
      let deeper = messages_walk within message.NESTED_TYPE 0 first o.nested_type in
      let after = counted first deeper in
      let enums = enums_walk within message.ENUM_TYPE 0 after.enums o.enum_type in
      let extensions = row of_extension within message.EXTENSION 0 after.extensions o.extension in
      let all' = subst Declared (message-walk-opens here tag i base m) all in
      let halves = apart (oneofs ++ fields ++ deeper) (enums ++ extensions) all'.1 in
      let upper = apart (oneofs ++ fields) deeper halves.0 in
      let front = apart oneofs fields upper.0 in
      let ending = apart enums extensions halves.1 in
      let nested = messages-hold (λ n. leads_in_message n path) (message-holds path) within message.NESTED_TYPE 0 first o.nested_type upper.1 in
      either (int_eq number message.FIELD) _ _ (leaf-holds of_field within message.FIELD 0 o.field position path front.1)
      (either (int_eq number message.NESTED_TYPE) _ _ (into (λ n. leads_in_message n path) o.nested_type position nested)
      (either (int_eq number message.ENUM_TYPE) _ _ (into (λ e. leads_in_enum e path) o.enum_type position (enums-hold path within message.ENUM_TYPE 0 after.enums o.enum_type ending.0))
      (either (int_eq number message.EXTENSION) _ _ (leaf-holds of_extension within message.EXTENSION after.extensions o.extension position path ending.1)
      (either (int_eq number message.ONEOF_DECL) _ _ (leaf-holds of_oneof within message.ONEOF_DECL 0 o.oneof_decl position path front.0) tt))))

  -- a file and all that it declares
  file-holds : (path : List ℤ) (base : Counts) (f : FileDescriptorProto) → Declared (file_walk base f) → Found (leads f path)
  file-holds [] base f all = all.0
  file-holds (_ ∷ []) base f all = tt
  file-holds (number ∷ position ∷ path) base f all =
      let here = in_file base.files f in
      let messages = messages_walk here file.MESSAGE_TYPE 0 base f.message_type in
      let after = counted base messages in
      let enums = enums_walk here file.ENUM_TYPE 0 after.enums f.enum_type in
      let services = services_walk here 0 after.services f.service in
      let extensions = row of_extension here file.EXTENSION 0 after.extensions f.extension in
      let last = apart (messages ++ enums ++ services) extensions all.1 in
      let three = apart (messages ++ enums) services last.0 in
      let two = apart messages enums three.0 in
      let inner = messages-hold (λ m. leads_in_message m path) (message-holds path) here file.MESSAGE_TYPE 0 base f.message_type two.0 in
      either (int_eq number file.MESSAGE_TYPE) _ _ (into (λ m. leads_in_message m path) f.message_type position inner)
      (either (int_eq number file.ENUM_TYPE) _ _ (into (λ e. leads_in_enum e path) f.enum_type position (enums-hold path here file.ENUM_TYPE 0 after.enums f.enum_type two.1))
      (either (int_eq number file.SERVICE) _ _ (into (λ s. leads_in_service s path) f.service position (services-hold path here 0 after.services f.service three.1))
      (either (int_eq number file.EXTENSION) _ _ (leaf-holds of_extension here file.EXTENSION after.extensions f.extension position path last.1) tt)))

  -- and files
  files-hold : (path : List ℤ) (base : Counts) (fs : List FileDescriptorProto) → Declared (declarations base fs) → AllByRecursion (λ f. Found (leads f path)) fs
  files-hold path base [] all = tt
  files-hold path base (f ∷ fs) all =
      let first = file_walk base f in
      let two = apart first (declarations (counted base first) fs) all in
      (file-holds path base f two.0, files-hold path (counted base first) fs two.1)

-- each list is short enough
abbrev Fits : Proto → Type 0
Fits p = lists_fit p ≡ true

all-fit : (ds : List Shown) → list_all (λ d. lists_fit d.proto) ds ≡ true → AllByRecursion (λ d. Fits d.proto) ds
all-fit ds fit = recursion_from_All (λ d. Fits d.proto) ds (AllPass-from_list_all (λ d. lists_fit d.proto) ds fit)

-- the record that a path leads to, in a file none of whose lists is too long, has no list that is too long
pub leads-fit : (base : Counts) (f : FileDescriptorProto) (path : List ℤ) (p : Proto) → list_all (λ d. lists_fit d.proto) (file_walk base f) ≡ true
    → leads f path ≡ Some p → lists_fit p ≡ true
leads-fit base f path p fit found = MatchOption-at_some _ Fits p found (file-holds Fits path base f (all-fit (file_walk base f) fit))

-- the same in one of many files
pub found-fits : (fs : List FileDescriptorProto) (base : Counts) (n : ℕ) (path : List ℤ) (p : Proto)
    → list_all (λ d. lists_fit d.proto) (declarations base fs) ≡ true
    → option_and_then (λ f. leads f path) (slice_get fs n) ≡ Some p → lists_fit p ≡ true
found-fits fs base n path p fit found =
    let all = files-hold Fits path base fs (all-fit (declarations base fs) fit) in
    MatchOption-at_some _ Fits p found (onward Fits (λ f. leads f path) (slice_get fs n) (entry-at Fits (λ f. Found Fits (leads f path)) fs n all))
