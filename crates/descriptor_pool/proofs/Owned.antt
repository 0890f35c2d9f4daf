-- What holds of all declarations of files holds of the fields of each message and of the values of each enum.
use Rattle.std.proofs.Common.{◌≡◌, ℕ, zero, suc, ◌+◌, ℤ, Some, List, [], ◌∷◌, ◌++◌, subst, arith}
use Rattle.std.specs.List.{AllByRecursion}
use Rattle.std.specs.Prelude.{slice_get}
use Rattle.proto_types.specs.Computed.{literals}
use Rattle.proto_types.specs.declared.tag.file.TheConstants as file
use Rattle.proto_types.specs.declared.tag.message.TheConstants as message
use Rattle.proto_types.specs.declared.tag.enum_.TheConstants as enumeration
use Rattle.proto_types.specs.declared.tag.service.TheConstants as service
use Rattle.proto_types.specs.declared.file.FileDescriptorProto.{FileDescriptorProto}
use Rattle.proto_types.specs.declared.message.DescriptorProto.{DescriptorProto, DescriptorProto', Row_of-DescriptorProto, end_of-DescriptorProto, more_of-DescriptorProto, out-DescriptorProto}
use Rattle.proto_types.specs.declared.message.OneofDescriptorProto.{OneofDescriptorProto}
use Rattle.proto_types.specs.declared.records.enumeration.EnumDescriptorProto.{EnumDescriptorProto}
use Rattle.proto_types.specs.declared.records.field.FieldDescriptorProto.{FieldDescriptorProto}
use Rattle.proto_types.specs.declared.records.service.ServiceDescriptorProto.{ServiceDescriptorProto}
use Rattle.record_walk.specs.declared.counts.Counts.{Counts}
use Rattle.record_walk.specs.Counts.{counted, counting}
use Rattle.record_walk.specs.Declarations.{declarations, enum_walk, enums_walk, file_walk, in_file, message_end, message_front, message_walk, messages_walk, nested_walk, service_walk, services_walk}
use Rattle.record_walk.specs.Protos.{Proto, of_message, of_field, of_oneof, of_service, of_method, of_enum, of_value, of_extension}
use Rattle.record_walk.specs.Shown.{Shown, Surrounding, beside, inside, parts, row, shown}
use Rattle.descriptor_pool.proofs.Resolved.{all-append}

pub all-both : {X : Type 0} (P : X → Type 0) (xs ys : List X) → AllByRecursion P (xs ++ ys) → AllByRecursion P xs × AllByRecursion P ys
all-both P [] ys all = (tt, all)
all-both P (x ∷ xs) ys all = let rest = all-both P xs ys all.1 in ((all.0, rest.0), rest.1)

module _ (R : Shown → Type 0) where
  -- what holds of the fields of a message, or of the values of an enum
  abbrev pub OwnsSuch : Shown → Type 0
  OwnsSuch d = elim d.proto [
    | of_message m ↦ AllByRecursion R (parts of_field (inside d) message.FIELD (out-DescriptorProto m).field)
    | of_enum e ↦ (scope : List ℕ) × AllByRecursion R (parts of_value (beside scope d) enumeration.VALUE e.value)
    | _ ↦ Unit {0}
  ]

  abbrev Own : List Shown → Type 0
  Own ds = AllByRecursion R ds → AllByRecursion OwnsSuch ds

  both-own : (ds es : List Shown) → Own ds → Own es → Own (ds ++ es)
  both-own ds es first second all =
      let both = all-both R ds es all in
      all-append OwnsSuch ds es (first both.0) (second both.1)

  -- what owns nothing
  row-own : {X : Type 0} (of : X → Proto) → ((d : Shown) (x : X) → OwnsSuch (record d { proto = of x })) → (here : Surrounding) (tag : ℤ) (i n : ℕ) (xs : List X)
      → Own (row of here tag i n xs)
  row-own of none here tag i n [] all = tt
  row-own of none here tag i n (x ∷ xs) all = (none (shown here tag i n (of x)) x, row-own of none here tag (suc i) (suc n) xs all.1)

  enum-own : (here : Surrounding) (tag : ℤ) (i n : ℕ) (e : EnumDescriptorProto) → Own (enum_walk here tag i n e)
  enum-own here tag i n e all =
      let d = shown here tag i n (of_enum e) in
      ((here.scope, all.1), row-own of_value (λ _ _. tt) (beside here.scope d) enumeration.VALUE 0 0 e.value all.1)

  enums-own : (here : Surrounding) (tag : ℤ) (i n : ℕ) (es : List EnumDescriptorProto) → Own (enums_walk here tag i n es)
  enums-own here tag i n [] all = tt
  enums-own here tag i n (e ∷ es) all =
      both-own (enum_walk here tag i n e) (enums_walk here tag (suc i) (suc n) es) (enum-own here tag i n e) (enums-own here tag (suc i) (suc n) es) all

  service-own : (here : Surrounding) (i n : ℕ) (v : ServiceDescriptorProto) → Own (service_walk here i n v)
  service-own here i n v all = (tt, row-own of_method (λ _ _. tt) (inside (shown here file.SERVICE i n (of_service v))) service.METHOD 0 0 v.method all.1)

  services-own : (here : Surrounding) (i n : ℕ) (vs : List ServiceDescriptorProto) → Own (services_walk here i n vs)
  services-own here i n [] all = tt
  services-own here i n (v ∷ vs) all =
      both-own (service_walk here i n v) (services_walk here (suc i) (suc n) vs) (service-own here i n v) (services-own here (suc i) (suc n) vs) all

  extensions-own : (here : Surrounding) (tag : ℤ) (i n : ℕ) (xs : List FieldDescriptorProto) → Own (row of_extension here tag i n xs)
  extensions-own here tag i n xs = row-own of_extension (λ _ _. tt) here tag i n xs

  front-own : (here : Surrounding) (oneofs : List OneofDescriptorProto) (fields : List FieldDescriptorProto) → Own (message_front here oneofs fields)
  front-own here oneofs fields =
      both-own (parts of_oneof here message.ONEOF_DECL oneofs) (parts of_field here message.FIELD fields)
      (row-own of_oneof (λ _ _. tt) here message.ONEOF_DECL 0 0 oneofs) (row-own of_field (λ _ _. tt) here message.FIELD 0 0 fields)

  end-own : (here : Surrounding) (after : Counts) (enums : List EnumDescriptorProto) (extensions : List FieldDescriptorProto) → Own (message_end here after enums extensions)
  end-own here after enums extensions =
      both-own (enums_walk here message.ENUM_TYPE 0 after.enums enums) (row of_extension here message.EXTENSION 0 after.extensions extensions)
      (enums-own here message.ENUM_TYPE 0 after.enums enums) (extensions-own here message.EXTENSION 0 after.extensions extensions)

  -- a message by its front, which has its fields, and by what stands behind that
  message-parts : (d : Shown) (oneofs : List OneofDescriptorProto) (fields : List FieldDescriptorProto) (deeper ending : List Shown)
      → Own deeper → Own ending → AllByRecursion R (d ∷ (message_front (inside d) oneofs fields ++ deeper ++ ending))
      → AllByRecursion R (parts of_field (inside d) message.FIELD fields) × AllByRecursion OwnsSuch (message_front (inside d) oneofs fields ++ deeper ++ ending)
  message-parts d oneofs fields deeper ending nested last all =
      let front = message_front (inside d) oneofs fields in
      let whole = all-both R (front ++ deeper) ending all.1 in
      let first = all-both R front deeper whole.0 in (
        (all-both R (parts of_oneof (inside d) message.ONEOF_DECL oneofs) (parts of_field (inside d) message.FIELD fields) first.0).1,
        both-own (front ++ deeper) ending (both-own front deeper (front-own (inside d) oneofs fields) nested) last all.1,
      )

  mutual
    unfolding literals

    message-own : (here : Surrounding) (tag : ℤ) (i : ℕ) (base : Counts) (m : DescriptorProto) → Own (message_walk here tag i base m)
    message-own here tag i base (DescriptorProto' name fields n nested enums ranges extensions options oneofs reserved reserved_names) = λ all.
        let m = DescriptorProto' name fields n nested enums ranges extensions options oneofs reserved reserved_names in
        let d = shown here tag i base.messages (of_message m) in
        let first = counting base (of_message m) in
        let deeper = nested_walk (inside d) 0 first nested in
        let ending = message_end (inside d) (counted first deeper) enums extensions in
        let own = message-parts d oneofs fields deeper ending (nested-own (inside d) 0 first nested) (end-own (inside d) (counted first deeper) enums extensions) all in
        (own.0, own.1)

    nested-own : {n : _} (here : Surrounding) (i : ℕ) (base : Counts) (nested : Row_of-DescriptorProto n) → Own (nested_walk here i base nested)
    nested-own here i base end_of-DescriptorProto = λ all. tt
    nested-own here i base (more_of-DescriptorProto m rest) =
        let first = message_walk here message.NESTED_TYPE i base m in
        both-own first (nested_walk here (suc i) (counted base first) rest)
        (message-own here message.NESTED_TYPE i base m) (nested-own here (suc i) (counted base first) rest)

  messages-own : (here : Surrounding) (tag : ℤ) (i : ℕ) (base : Counts) (ms : List DescriptorProto) → Own (messages_walk here tag i base ms)
  messages-own here tag i base [] all = tt
  messages-own here tag i base (m ∷ ms) all =
      let first = message_walk here tag i base m in
      both-own first (messages_walk here tag (suc i) (counted base first) ms) (message-own here tag i base m) (messages-own here tag (suc i) (counted base first) ms) all

  file-own : (base : Counts) (f : FileDescriptorProto) → Own (file_walk base f)
  file-own base f all =
      let here = in_file base.files f in
      let messages = messages_walk here file.MESSAGE_TYPE 0 base f.message_type in
      let after = counted base messages in
      let enums = enums_walk here file.ENUM_TYPE 0 after.enums f.enum_type in
      let services = services_walk here 0 after.services f.service in
      let extensions = row of_extension here file.EXTENSION 0 after.extensions f.extension in (
        tt,
        both-own (messages ++ enums ++ services) extensions
            (both-own (messages ++ enums) services
            (both-own messages enums (messages-own here file.MESSAGE_TYPE 0 base f.message_type) (enums-own here file.ENUM_TYPE 0 after.enums f.enum_type))
            (services-own here 0 after.services f.service))
            (extensions-own here file.EXTENSION 0 after.extensions f.extension) all.1,
      )

  -- so it is with all declarations
  pub declarations-own : (base : Counts) (fs : List FileDescriptorProto) → Own (declarations base fs)
  declarations-own base [] all = tt
  declarations-own base (f ∷ fs) all =
      let first = file_walk base f in
      both-own first (declarations (counted base first) fs) (file-own base f) (declarations-own (counted base first) fs) all

  -- the entry at a position
  pub part-at : {X : Type 0} (of : X → Proto) (here : Surrounding) (tag : ℤ) (i : ℕ) (xs : List X) → AllByRecursion R (row of here tag i i xs)
      → (at : ℕ) (x : X) → slice_get xs at ≡ Some x → (n : ℕ) × (n ≡ i + at) × R (shown here tag n n (of x))
  part-at of here tag i [] all at x there = absurd (cc)
  part-at {X} of here tag i (y ∷ xs) all zero x there =
      let same : y ≡ x = cc in
      (i, omega arith, subst (λ (z : X). R (shown here tag i i (of z))) same all.0)
  part-at of here tag i (y ∷ xs) all (suc at) x there =
      let rest = part-at of here tag (suc i) xs all.1 at x there in
      (rest.0, omega (arith, rest.1), rest.2)
