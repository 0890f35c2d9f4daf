-- What declarations break, told of each by itself, is what their owners break.
use Rattle.std.proofs.Common.{◌≡◌, ℕ, ℤ, suc, Option, Some, List, [], ◌∷◌, ◌++◌, refl, ap, sym, ◌∙◌, append-nil, append_assoc}
use Rattle.std.specs.List.{flat_map}
use Rattle.std.specs.Option.{unwrap_or}
use Rattle.proto_types.specs.Enumeration.{no_enum}
use Rattle.proto_types.specs.Message.{no_message}
use Rattle.proto_types.specs.declared.tag.file.TheConstants as file
use Rattle.proto_types.specs.declared.tag.message.TheConstants as message
use Rattle.proto_types.specs.declared.tag.enum_.TheConstants as enumeration
use Rattle.proto_types.specs.declared.tag.service.TheConstants as service
use Rattle.proto_types.specs.declared.records.enumeration.EnumDescriptorProto.{EnumDescriptorProto}
use Rattle.proto_types.specs.declared.records.field.FieldDescriptorProto.{FieldDescriptorProto}
use Rattle.proto_types.specs.declared.records.service.ServiceDescriptorProto.{ServiceDescriptorProto}
use Rattle.plain_data.specs.Lists.{after_each}
use Rattle.proto_types.specs.Computed.{literals}
use Rattle.proto_types.specs.declared.file.FileDescriptorProto.{FileDescriptorProto}
use Rattle.proto_types.specs.declared.message.DescriptorProto.{DescriptorProto, DescriptorProto', Row_of-DescriptorProto, end_of-DescriptorProto, more_of-DescriptorProto}
use Rattle.proto_types.specs.declared.message.OneofDescriptorProto.{OneofDescriptorProto}
use Rattle.pool_types.specs.declared.contents.extension.ExtensionDescriptorInner.{ExtensionDescriptorInner}
use Rattle.record_walk.specs.declared.counts.Counts.{Counts}
use Rattle.record_walk.specs.Counts.{counted, counting}
use Rattle.record_walk.specs.Declarations.{in_file, enum_walk, enums_walk, service_walk, services_walk, message_front, message_end, message_walk, nested_walk, messages_walk, file_walk, declarations}
use Rattle.record_walk.specs.Protos.{Proto, of_message, of_field, of_oneof, of_service, of_method, of_enum, of_value, of_extension, as_message, as_enum, as_service, as_extension}
use Rattle.record_walk.specs.Shown.{Shown, Surrounding, shown, file_shown, row, parts, inside, beside, of_kind}
use Rattle.field_rules.specs.EnumValues.{value_faults, values_faults}
use Rattle.reference_pass.specs.SecondPass.{Faults, Owner, last, field_faults, faults_of_fields, method_faults, faults_of_methods, second_faults, second_pass, owner_faults, owners_faults}
use Rattle.plain_data.specs.Each.{map_enumerated}
use Rattle.record_walk.specs.Place.{field_at}
use Rattle.reference_pass.specs.References.{method_at}
use Rattle.reference_pass.specs.Items.{extension_item, extension_items}
use Rattle.reference_pass.specs.Setting.{Setting}
use Rattle.reference_pass.proofs.Steps.{made-behind, kind-append, owners-append}

-- of two lists, each element with those before it
pub after-append : {X Y : Type 0} (f : List X → X → List Y) (before xs ys : List X)
    → after_each f before (xs ++ ys) ≡ after_each f before xs ++ after_each f (before ++ xs) ys
after-append f before [] ys = ap (λ zs. after_each f zs ys) (sym (append-nil before))
after-append f before (x ∷ xs) ys =
    ap (λ zs. f before x ++ zs) (after-append f (before ++ x ∷ []) xs ys ∙ ap (λ zs. after_each f (before ++ x ∷ []) xs ++ after_each f zs ys) (append_assoc before (x ∷ []) xs))
    ∙ sym (append_assoc (f before x) (after_each f (before ++ x ∷ []) xs) (after_each f (before ++ x ∷ xs) ys))

last-push : {X : Type 0} (xs : List X) (x : X) → last (xs ++ x ∷ []) ≡ Some x
last-push [] x = refl
last-push (y ∷ []) x = refl
last-push (y ∷ z ∷ xs) x = last-push (z ∷ xs) x

-- the last declaration of a kind, behind one of that kind, and behind one of another
module _ {X : Type 0} (pick : Proto → Option X) where
  last-known : (before : List Shown) (d : Shown) (x : X) → of_kind pick (d ∷ []) ≡ (d, x) ∷ [] → last (of_kind pick (before ++ d ∷ [])) ≡ Some (d, x)
  last-known before d x is = ap last (kind-append pick before (d ∷ []) ∙ ap (λ ds. of_kind pick before ++ ds) is) ∙ last-push (of_kind pick before) (d, x)

  last-stays : {owner : Shown × X} (before ds : List Shown) → of_kind pick ds ≡ [] → last (of_kind pick before) ≡ Some owner → last (of_kind pick (before ++ ds)) ≡ Some owner
  last-stays before ds none is = ap last (kind-append pick before ds ∙ ap (λ es. of_kind pick before ++ es) none ∙ append-nil (of_kind pick before)) ∙ is

module _ (s : Setting) (old : List ExtensionDescriptorInner) where
  abbrev told : List Shown → List Shown → Faults
  told before ds = after_each (second_faults s old) before ds

  -- the extensions of a pool and of earlier declarations
  abbrev earlier : List Shown → List ExtensionDescriptorInner
  earlier before = old ++ extension_items s before

  abbrev owners : List Shown → List Shown → Faults
  owners before ds = owners_faults s (earlier before) ds

  -- and one more, or more
  further : (before ds : List Shown) → earlier before ++ extension_items s ds ≡ earlier (before ++ ds)
  further before ds = made-behind as_extension (extension_item s) old before ds

  -- whatever stands before, the same is told
  abbrev Same : List Shown → Type 0
  Same ds = (before : List Shown) → told before ds ≡ owners before ds

  same-append : (ds es : List Shown) → Same ds → Same es → Same (ds ++ es)
  same-append ds es first second before =
      after-append (second_faults s old) before ds es ∙ (λ i. first before i ++ second (before ++ ds) i)
      ∙ sym (owners-append s (earlier before) ds es ∙ ap (λ xs. owners before ds ++ owners_faults s xs es) (further before ds))

  -- what is told of each by itself
  row-same : {X : Type 0} (of : X → Proto)
      → ((before : List Shown) (d : Shown) (x : X) → second_faults s old before (record d { proto = of x }) ≡ owner_faults s (earlier before) (record d { proto = of x }))
      → (here : Surrounding) (tag : ℤ) (i n : ℕ) (xs : List X) → Same (row of here tag i n xs)
  row-same of same here tag i n [] = λ _. refl
  row-same of same here tag i n (x ∷ xs) = λ before.
      let d = shown here tag i n (of x) in
      let rest = row of here tag (suc i) (suc n) xs in
      (λ j. same before d x j ++ row-same of same here tag (suc i) (suc n) xs (before ++ d ∷ []) j)
      ∙ ap (λ es. owner_faults s (earlier before) d ++ owners_faults s es rest) (sym (further before (d ∷ [])))

  -- what the owner tells of its parts, and what is left for these
  silent : {X : Type 0} (of : X → Proto) → ((es : List ExtensionDescriptorInner) (d : Shown) (x : X) → owner_faults s es (record d { proto = of x }) ≡ [])
      → (here : Surrounding) (tag : ℤ) (i n : ℕ) (xs : List X) (es : List ExtensionDescriptorInner) → owners_faults s es (row of here tag i n xs) ≡ []
  silent of none here tag i n [] es = refl
  silent of none here tag i n (x ∷ xs) es =
      let d = shown here tag i n (of x) in
      λ j. none es d x j ++ silent of none here tag (suc i) (suc n) xs (es ++ extension_items s (d ∷ [])) j

  -- the parts of an owner, which is the last of its kind before them
  row-told : {X Y : Type 0} (of : X → Proto) (pick : Proto → Option Y) (own : Option (Shown × Y) → ℕ → X → Faults) (here : Surrounding) (tag : ℤ)
      → ((i : ℕ) (x : X) (before : List Shown) → let d = shown here tag i i (of x) in
      (second_faults s old before d ≡ own (last (of_kind pick before)) i x) × (of_kind pick (d ∷ []) ≡ []))
      → (owner : Shown × Y) (i : ℕ) (xs : List X) (before : List Shown) → last (of_kind pick before) ≡ Some owner
      → told before (row of here tag i i xs) ≡ flat_map (λ faults. faults) (map_enumerated (own (Some owner)) i xs)
  row-told of pick own here tag each owner i [] before known = refl
  row-told of pick own here tag each owner i (x ∷ xs) before known =
      let d = shown here tag i i (of x) in
      let one = each i x before in
      let first = one.0 ∙ ap (λ found. own found i x) known in
      λ j. first j ++ row-told of pick own here tag each owner (suc i) xs (before ++ d ∷ []) (last-stays pick before (d ∷ []) one.1 known) j

  enum-same : (here : Surrounding) (tag : ℤ) (i n : ℕ) (e : EnumDescriptorProto) → Same (enum_walk here tag i n e)
  enum-same here tag i n e = λ before.
      let d = shown here tag i n (of_enum e) in
      let within = beside here.scope d in
      let own = values_faults s.files d e in
      row-told of_value as_enum (λ found n v. let owner = unwrap_or found (shown within enumeration.VALUE n n (of_value v), no_enum) in value_faults s.files owner.0 owner.1 n v)
      within enumeration.VALUE (λ _ _ _. (refl, refl)) (d, e) 0 e.value (before ++ d ∷ []) (last-known as_enum before d e refl)
      ∙ sym (ap (λ fs. own ++ fs) (silent of_value (λ _ _ _. refl) within enumeration.VALUE 0 0 e.value _) ∙ append-nil own)

  enums-same : (here : Surrounding) (tag : ℤ) (i n : ℕ) (es : List EnumDescriptorProto) → Same (enums_walk here tag i n es)
  enums-same here tag i n [] = λ _. refl
  enums-same here tag i n (e ∷ es) =
      same-append (enum_walk here tag i n e) (enums_walk here tag (suc i) (suc n) es) (enum-same here tag i n e) (enums-same here tag (suc i) (suc n) es)

  service-same : (here : Surrounding) (i n : ℕ) (v : ServiceDescriptorProto) → Same (service_walk here i n v)
  service-same here i n v = λ before.
      let d = shown here file.SERVICE i n (of_service v) in
      let own = faults_of_methods s (inside d) v.method in
      row-told of_method as_service (λ _ n m. method_faults s (method_at (inside d) n m) m) (inside d) service.METHOD (λ _ _ _. (refl, refl))
      (d, v) 0 v.method (before ++ d ∷ []) (last-known as_service before d v refl)
      ∙ sym (ap (λ fs. own ++ fs) (silent of_method (λ _ _ _. refl) (inside d) service.METHOD 0 0 v.method _) ∙ append-nil own)

  services-same : (here : Surrounding) (i n : ℕ) (ss : List ServiceDescriptorProto) → Same (services_walk here i n ss)
  services-same here i n [] = λ _. refl
  services-same here i n (v ∷ vs) =
      same-append (service_walk here i n v) (services_walk here (suc i) (suc n) vs) (service-same here i n v) (services-same here (suc i) (suc n) vs)

  extensions-same : (here : Surrounding) (tag : ℤ) (i n : ℕ) (xs : List FieldDescriptorProto) → Same (row of_extension here tag i n xs)
  extensions-same here tag i n xs = row-same of_extension (λ _ _ _. refl) here tag i n xs

  end-same : (here : Surrounding) (after : Counts) (enums : List EnumDescriptorProto) (extensions : List FieldDescriptorProto)
      → Same (message_end here after enums extensions)
  end-same here after enums extensions =
      same-append (enums_walk here message.ENUM_TYPE 0 after.enums enums) (row of_extension here message.EXTENSION 0 after.extensions extensions)
      (enums-same here message.ENUM_TYPE 0 after.enums enums) (extensions-same here message.EXTENSION 0 after.extensions extensions)

  -- the oneofs of a message are no messages
  oneofs-pass : (here : Surrounding) (tag : ℤ) (i n : ℕ) (os : List OneofDescriptorProto) → of_kind as_message (row of_oneof here tag i n os) ≡ []
  oneofs-pass here tag i n [] = refl
  oneofs-pass here tag i n (o ∷ os) = oneofs-pass here tag (suc i) (suc n) os

  -- a message with its oneofs and fields
  front-told : (here : Surrounding) (owner : Owner) (oneofs : List OneofDescriptorProto) (fields : List FieldDescriptorProto) (before : List Shown)
      → last (of_kind as_message before) ≡ Some owner
      → told before (message_front here oneofs fields)
      ≡ flat_map (λ faults. faults) (map_enumerated (λ n f. field_faults s owner (field_at here n f) f) 0 fields)
  front-told here owner oneofs fields before known =
      let first = parts of_oneof here message.ONEOF_DECL oneofs in
      let own = parts of_field here message.FIELD fields in
      let none = row-same of_oneof (λ _ _ _. refl) here message.ONEOF_DECL 0 0 oneofs before ∙ silent of_oneof (λ _ _ _. refl) here message.ONEOF_DECL 0 0 oneofs (earlier before) in
      let told_own = row-told of_field as_message (λ found n f. let d = field_at here n f in field_faults s (unwrap_or found (d, no_message)) d f)
      here message.FIELD (λ _ _ _. (refl, refl)) owner 0 fields (before ++ first) (last-stays as_message before first (oneofs-pass here message.ONEOF_DECL 0 0 oneofs) known) in
      after-append (second_faults s old) before first own ∙ (λ i. none i ++ told_own i)

  front-silent : (here : Surrounding) (oneofs : List OneofDescriptorProto) (fields : List FieldDescriptorProto) (es : List ExtensionDescriptorInner)
      → owners_faults s es (message_front here oneofs fields) ≡ []
  front-silent here oneofs fields es =
      let first = parts of_oneof here message.ONEOF_DECL oneofs in
      owners-append s es first (parts of_field here message.FIELD fields)
      ∙ (λ i. silent of_oneof (λ _ _ _. refl) here message.ONEOF_DECL 0 0 oneofs es i ++ silent of_field (λ _ _ _. refl) here message.FIELD 0 0 fields (es ++ extension_items s first) i)

  -- a message whose front is told by itself, and the rest behind it
  message-parts : (d : Shown) (front rest : List Shown) (own : Faults) → ((before : List Shown) → told (before ++ d ∷ []) front ≡ own)
      → ((es : List ExtensionDescriptorInner) → owners_faults s es front ≡ []) → Same rest
      → (before : List Shown) → told (before ++ d ∷ []) (front ++ rest) ≡ own ++ owners_faults s (earlier before ++ extension_items s (d ∷ [])) (front ++ rest)
  message-parts d front rest own first none same before =
      let then = earlier before ++ extension_items s (d ∷ []) in
      let all = ap (λ es. es ++ extension_items s front) (further before (d ∷ [])) ∙ further (before ++ d ∷ []) front in
      after-append (second_faults s old) (before ++ d ∷ []) front rest
      ∙ (λ i. first before i ++ same ((before ++ d ∷ []) ++ front) i)
      ∙ ap (λ fs. own ++ fs) (sym (owners-append s then front rest ∙ (λ i. none then i ++ owners_faults s (all i) rest)))

  mutual
    unfolding literals

    message-same : (here : Surrounding) (tag : ℤ) (i : ℕ) (base : Counts) (m : DescriptorProto) → Same (message_walk here tag i base m)
    message-same here tag i base (DescriptorProto' name fields n nested enums ranges extensions options oneofs reserved reserved_names) = λ before.
        let m = DescriptorProto' name fields n nested enums ranges extensions options oneofs reserved reserved_names in
        let d = shown here tag i base.messages (of_message m) in
        let first = counting base (of_message m) in
        let front = message_front (inside d) oneofs fields in
        let deeper = nested_walk (inside d) 0 first nested in
        let ending = message_end (inside d) (counted first deeper) enums extensions in
        let own = faults_of_fields s (d, m) fields in
        let rest = same-append deeper ending (nested-same (inside d) 0 first nested) (end-same (inside d) (counted first deeper) enums extensions) in
        ap (told (before ++ d ∷ [])) (append_assoc front deeper ending)
        ∙ message-parts d front (deeper ++ ending) own
        (λ earlier. front-told (inside d) (d, m) oneofs fields (earlier ++ d ∷ []) (last-known as_message earlier d m refl))
        (front-silent (inside d) oneofs fields) rest before
        ∙ ap (λ ds. own ++ owners_faults s (earlier before ++ extension_items s (d ∷ [])) ds) (sym (append_assoc front deeper ending))

    nested-same : {n : _} (here : Surrounding) (i : ℕ) (base : Counts) (nested : Row_of-DescriptorProto n) → Same (nested_walk here i base nested)
    nested-same here i base end_of-DescriptorProto = λ _. refl
    nested-same here i base (more_of-DescriptorProto m rest) =
        let first = message_walk here message.NESTED_TYPE i base m in
        same-append first (nested_walk here (suc i) (counted base first) rest)
        (message-same here message.NESTED_TYPE i base m) (nested-same here (suc i) (counted base first) rest)

  messages-same : (here : Surrounding) (tag : ℤ) (i : ℕ) (base : Counts) (ms : List DescriptorProto) → Same (messages_walk here tag i base ms)
  messages-same here tag i base [] = λ _. refl
  messages-same here tag i base (m ∷ ms) =
      let first = message_walk here tag i base m in
      same-append first (messages_walk here tag (suc i) (counted base first) ms)
      (message-same here tag i base m) (messages-same here tag (suc i) (counted base first) ms)

  file-same : (base : Counts) (f : FileDescriptorProto) → Same (file_walk base f)
  file-same base f = λ before.
      let d = file_shown [] base.files f in
      let here = in_file base.files f in
      let messages = messages_walk here file.MESSAGE_TYPE 0 base f.message_type in
      let after = counted base messages in
      let enums = enums_walk here file.ENUM_TYPE 0 after.enums f.enum_type in
      let services = services_walk here 0 after.services f.service in
      let extensions = row of_extension here file.EXTENSION 0 after.extensions f.extension in
      let inner : Same (messages ++ enums ++ services ++ extensions) =
      same-append (messages ++ enums ++ services) extensions
      (same-append (messages ++ enums) services
      (same-append messages enums (messages-same here file.MESSAGE_TYPE 0 base f.message_type) (enums-same here file.ENUM_TYPE 0 after.enums f.enum_type))
      (services-same here 0 after.services f.service))
      (extensions-same here file.EXTENSION 0 after.extensions f.extension) in
      ap (λ rest. owner_faults s (earlier before) d ++ rest)
      (inner (before ++ d ∷ []) ∙ ap (λ es. owners_faults s es (messages ++ enums ++ services ++ extensions)) (sym (further before (d ∷ []))))

  declarations-same : (base : Counts) (fs : List FileDescriptorProto) → Same (declarations base fs)
  declarations-same base [] = λ _. refl
  declarations-same base (f ∷ fs) =
      let first = file_walk base f in
      same-append first (declarations (counted base first) fs) (file-same base f) (declarations-same (counted base first) fs)

  -- all declarations of files
  pub owners-tell : (base : Counts) (fs : List FileDescriptorProto) → second_pass s old (declarations base fs) ≡ owners_faults s old (declarations base fs)
  owners-tell base fs = declarations-same base fs [] ∙ ap (λ es. owners_faults s es (declarations base fs)) (append-nil old)
