-- What is given of the declarations of a file by a mark of each, as its path or its full name, and
-- by its record.
use Rattle.std.proofs.Common.{◌≡◌, ℕ, suc, ◌+◌, ◌<◌, ℤ, List, [], ◌∷◌, ◌++◌, length, take, get_or, refl, ap, sym, ◌∙◌, arith, append-nil, append_assoc}
use Rattle.std.proofs.lemmas.Grind.{flat_map-append}
use Rattle.std.proofs.lemmas.List.{length-take-le, take_more}
use Rattle.std.specs.List.{flat_map}
use Rattle.proto_types.specs.Computed.{literals}
use Rattle.proto_types.specs.declared.file.FileDescriptorProto.{FileDescriptorProto}
use Rattle.proto_types.specs.declared.message.DescriptorProto.{DescriptorProto, DescriptorProto', out-DescriptorProto, Row_of-DescriptorProto, end_of-DescriptorProto, more_of-DescriptorProto, items-the_row-DescriptorProto, items_shown-the_row-DescriptorProto-0}
use Rattle.proto_types.specs.declared.message.OneofDescriptorProto.{OneofDescriptorProto}
use Rattle.proto_types.specs.declared.records.enumeration.EnumDescriptorProto.{EnumDescriptorProto}
use Rattle.proto_types.specs.declared.records.enumeration.EnumValueDescriptorProto.{EnumValueDescriptorProto}
use Rattle.proto_types.specs.declared.records.field.FieldDescriptorProto.{FieldDescriptorProto}
use Rattle.proto_types.specs.declared.records.service.MethodDescriptorProto.{MethodDescriptorProto}
use Rattle.proto_types.specs.declared.records.service.ServiceDescriptorProto.{ServiceDescriptorProto}
use Rattle.proto_types.specs.declared.tag.file.TheConstants as file
use Rattle.proto_types.specs.declared.tag.message.TheConstants as message
use Rattle.proto_types.specs.declared.tag.enum_.TheConstants as enumeration
use Rattle.proto_types.specs.declared.tag.service.TheConstants as service
use Rattle.record_walk.specs.declared.counts.Counts.{Counts}
use Rattle.record_walk.specs.Counts.{no_counts, counted, counting}
use Rattle.record_walk.specs.Declarations.{in_file, enums_walk, services_walk, message_front, message_end, message_walk, nested_walk, messages_walk, file_walk}
use Rattle.record_walk.specs.Protos.{Proto, of_file, of_message, of_field, of_oneof, of_service, of_method, of_enum, of_value, of_extension}
use Rattle.record_walk.specs.Shown.{Shown, Surrounding, shown, file_shown, row, parts, inside, beside}

-- of a mark that what surrounds a declaration has too, and that leads on from there
module _ {S Y : Type 0} (mark : Shown → S) (at : Surrounding → S) (step : S → ℤ → ℕ → Proto → S) (own : S → Proto → List Y)
    (shown-at : (here : Surrounding) (tag : ℤ) (position index : ℕ) (p : Proto) → mark (shown here tag position index p) ≡ step (at here) tag position p)
    (inside-at : (d : Shown) → at (inside d) ≡ mark d) where
  abbrev give : Shown → List Y
  give d = own (mark d) d.proto

  -- entries of which nothing is given
  row-none : {X : Type 0} (of : X → Proto) → ((s : S) (x : X) → own s (of x) ≡ [])
      → (here : Surrounding) (tag : ℤ) (position index : ℕ) (xs : List X) → flat_map give (row of here tag position index xs) ≡ []
  row-none of none here tag position index [] = refl
  row-none of none here tag position index (x ∷ xs) =
      (λ i. none (mark (shown here tag position index (of x))) x i ++ row-none of none here tag (suc position) (suc index) xs i)

  abbrev pub enums-given : S → ℤ → ℕ → List EnumDescriptorProto → List Y
  enums-given s tag position [] = []
  enums-given s tag position (e ∷ es) = own (step s tag position (of_enum e)) (of_enum e) ++ enums-given s tag (suc position) es

  abbrev mutual
    pub message-given : S → DescriptorProto → List Y
    message-given s (DescriptorProto' name fields n nested enums ranges extensions options oneofs reserved reserved_names) =
        let m = DescriptorProto' name fields n nested enums ranges extensions options oneofs reserved reserved_names in
        own s (of_message m) ++ (nested-given s 0 nested ++ enums-given s message.ENUM_TYPE 0 enums)

    pub nested-given : {n : _} → S → ℕ → Row_of-DescriptorProto n → List Y
    nested-given s position end_of-DescriptorProto = []
    nested-given s position (more_of-DescriptorProto m rest) =
        message-given (step s message.NESTED_TYPE position (of_message m)) m ++ nested-given s (suc position) rest

  abbrev pub messages-given : S → ℤ → ℕ → List DescriptorProto → List Y
  messages-given s tag position [] = []
  messages-given s tag position (m ∷ ms) = message-given (step s tag position (of_message m)) m ++ messages-given s tag (suc position) ms

  messages-last : (s : S) (tag : ℤ) (position : ℕ) (ms : List DescriptorProto) (m : DescriptorProto)
      → messages-given s tag position (ms ++ m ∷ []) ≡ messages-given s tag position ms ++ message-given (step s tag (position + length ms) (of_message m)) m
  messages-last s tag position [] m =
      let here : position ≡ position + 0 = omega arith in
      append-nil (message-given (step s tag position (of_message m)) m) ∙ ap (λ n. message-given (step s tag n (of_message m)) m) here
  messages-last s tag position (x ∷ xs) m =
      let first = message-given (step s tag position (of_message x)) x in
      let there : suc position + length xs ≡ position + suc (length xs) = omega arith in
      ap (λ ys. first ++ ys) (messages-last s tag (suc position) xs m ∙ ap (λ n. messages-given s tag (suc position) xs ++ message-given (step s tag n (of_message m)) m) there)
      ∙ sym (append_assoc first (messages-given s tag (suc position) xs) (message-given (step s tag (position + suc (length xs)) (of_message m)) m))

  nested-messages : {n : _} (s : S) (position : ℕ) (nested : Row_of-DescriptorProto n)
      → nested-given s position nested ≡ messages-given s message.NESTED_TYPE position (items-the_row-DescriptorProto n nested)
  nested-messages s position end_of-DescriptorProto = refl
  nested-messages s position (more_of-DescriptorProto m rest) =
      ap (λ ys. message-given (step s message.NESTED_TYPE position (of_message m)) m ++ ys) (nested-messages s (suc position) rest)

  -- what is given of a message, of the messages in it, and of its enums
  message-opens : (s : S) (m : DescriptorProto) → message-given s m
      ≡ own s (of_message m) ++ (messages-given s message.NESTED_TYPE 0 (out-DescriptorProto m).nested_type ++ enums-given s message.ENUM_TYPE 0 (out-DescriptorProto m).enum_type)
  unfolding literals
  message-opens s (DescriptorProto' name fields n nested enums ranges extensions options oneofs reserved reserved_names) =
      let m = DescriptorProto' name fields n nested enums ranges extensions options oneofs reserved reserved_names in
      ap (λ ys. own s (of_message m) ++ (ys ++ enums-given s message.ENUM_TYPE 0 enums))
      (nested-messages s 0 nested ∙ ap (messages-given s message.NESTED_TYPE 0) (sym (items_shown-the_row-DescriptorProto-0 n nested)))

  -- where nothing is given of oneofs, fields, values, methods, services and extensions
  module _ (no-oneof : (s : S) (o : OneofDescriptorProto) → own s (of_oneof o) ≡ [])
      (no-field : (s : S) (f : FieldDescriptorProto) → own s (of_field f) ≡ [])
      (no-value : (s : S) (v : EnumValueDescriptorProto) → own s (of_value v) ≡ [])
      (no-method : (s : S) (m : MethodDescriptorProto) → own s (of_method m) ≡ [])
      (no-service : (s : S) (v : ServiceDescriptorProto) → own s (of_service v) ≡ [])
      (no-extension : (s : S) (f : FieldDescriptorProto) → own s (of_extension f) ≡ []) where
    enums-give : (here : Surrounding) (tag : ℤ) (position index : ℕ) (es : List EnumDescriptorProto)
        → flat_map give (enums_walk here tag position index es) ≡ enums-given (at here) tag position es
    enums-give here tag position index [] = refl
    enums-give here tag position index (e ∷ es) =
        let d = shown here tag position index (of_enum e) in
        let values = parts of_value (beside here.scope d) enumeration.VALUE e.value in
        let rest = enums_walk here tag (suc position) (suc index) es in
        (λ i. own (shown-at here tag position index (of_enum e) i) (of_enum e)
        ++ (flat_map-append give values rest ∙ (λ j. row-none of_value no-value (beside here.scope d) enumeration.VALUE 0 0 e.value j ++ enums-give here tag (suc position) (suc index) es j)) i)

    services-none : (here : Surrounding) (position index : ℕ) (ss : List ServiceDescriptorProto) → flat_map give (services_walk here position index ss) ≡ []
    services-none here position index [] = refl
    services-none here position index (s ∷ ss) =
        let d = shown here file.SERVICE position index (of_service s) in
        let methods = parts of_method (inside d) service.METHOD s.method in
        let rest = services_walk here (suc position) (suc index) ss in
        (λ i. no-service (mark d) s i
        ++ (flat_map-append give methods rest ∙ (λ j. row-none of_method no-method (inside d) service.METHOD 0 0 s.method j ++ services-none here (suc position) (suc index) ss j)) i)

    front-none : (here : Surrounding) (oneofs : List OneofDescriptorProto) (fields : List FieldDescriptorProto) → flat_map give (message_front here oneofs fields) ≡ []
    front-none here oneofs fields =
        flat_map-append give (parts of_oneof here message.ONEOF_DECL oneofs) (parts of_field here message.FIELD fields)
        ∙ (λ i. row-none of_oneof no-oneof here message.ONEOF_DECL 0 0 oneofs i ++ row-none of_field no-field here message.FIELD 0 0 fields i)

    end-gives : (here : Surrounding) (after : Counts) (enums : List EnumDescriptorProto) (extensions : List FieldDescriptorProto)
        → flat_map give (message_end here after enums extensions) ≡ enums-given (at here) message.ENUM_TYPE 0 enums
    end-gives here after enums extensions =
        flat_map-append give (enums_walk here message.ENUM_TYPE 0 after.enums enums) (row of_extension here message.EXTENSION 0 after.extensions extensions)
        ∙ (λ i. enums-give here message.ENUM_TYPE 0 after.enums enums i ++ row-none of_extension no-extension here message.EXTENSION 0 after.extensions extensions i)
        ∙ append-nil (enums-given (at here) message.ENUM_TYPE 0 enums)

    mutual
      message-gives : (here : Surrounding) (tag : ℤ) (position : ℕ) (base : Counts) (m : DescriptorProto)
          → flat_map give (message_walk here tag position base m) ≡ message-given (step (at here) tag position (of_message m)) m
      message-gives here tag position base (DescriptorProto' name fields n nested enums ranges extensions options oneofs reserved reserved_names) =
          let m = DescriptorProto' name fields n nested enums ranges extensions options oneofs reserved reserved_names in
          let d = shown here tag position base.messages (of_message m) in
          let first = counting base (of_message m) in
          let deeper = nested_walk (inside d) 0 first nested in
          let front = message_front (inside d) oneofs fields in
          let last = message_end (inside d) (counted first deeper) enums extensions in
          ap (λ ys. give d ++ ys)
          (flat_map-append give (front ++ deeper) last
          ∙ (λ i. (flat_map-append give front deeper ∙ (λ j. front-none (inside d) oneofs fields j ++ nested-gives (inside d) 0 first nested j)) i
          ++ end-gives (inside d) (counted first deeper) enums extensions i)
          ∙ (λ i. nested-given (inside-at d i) 0 nested ++ enums-given (inside-at d i) message.ENUM_TYPE 0 enums))
          ∙ ap (λ s. own s (of_message m) ++ (nested-given s 0 nested ++ enums-given s message.ENUM_TYPE 0 enums)) (shown-at here tag position base.messages (of_message m))

      nested-gives : {n : _} (here : Surrounding) (position : ℕ) (base : Counts) (nested : Row_of-DescriptorProto n)
          → flat_map give (nested_walk here position base nested) ≡ nested-given (at here) position nested
      nested-gives here position base end_of-DescriptorProto = refl
      nested-gives here position base (more_of-DescriptorProto m rest) =
          let first = message_walk here message.NESTED_TYPE position base m in
          flat_map-append give first (nested_walk here (suc position) (counted base first) rest)
          ∙ (λ i. message-gives here message.NESTED_TYPE position base m i ++ nested-gives here (suc position) (counted base first) rest i)

    pub messages-give : (here : Surrounding) (tag : ℤ) (position : ℕ) (base : Counts) (ms : List DescriptorProto)
        → flat_map give (messages_walk here tag position base ms) ≡ messages-given (at here) tag position ms
    messages-give here tag position base [] = refl
    messages-give here tag position base (m ∷ ms) =
        let first = message_walk here tag position base m in
        flat_map-append give first (messages_walk here tag (suc position) (counted base first) ms)
        ∙ (λ i. message-gives here tag position base m i ++ messages-give here tag (suc position) (counted base first) ms i)

    -- what is given of a file, of its messages, and of its enums
    pub file-gives : (base : Counts) (f : FileDescriptorProto) → let here = in_file base.files f in
        flat_map give (file_walk base f)
        ≡ own (mark (file_shown [] base.files f)) (of_file f) ++ (messages-given (at here) file.MESSAGE_TYPE 0 f.message_type ++ enums-given (at here) file.ENUM_TYPE 0 f.enum_type)
    file-gives base f =
        let here = in_file base.files f in
        let messages = messages_walk here file.MESSAGE_TYPE 0 base f.message_type in
        let after = counted base messages in
        let enums = enums_walk here file.ENUM_TYPE 0 after.enums f.enum_type in
        let services = services_walk here 0 after.services f.service in
        let extensions = row of_extension here file.EXTENSION 0 after.extensions f.extension in
        let given = messages-given (at here) file.MESSAGE_TYPE 0 f.message_type ++ enums-given (at here) file.ENUM_TYPE 0 f.enum_type in
        ap (λ ys. give (file_shown [] base.files f) ++ ys)
        (flat_map-append give (messages ++ enums ++ services) extensions
        ∙ (λ i. (flat_map-append give (messages ++ enums) services
        ∙ (λ j. (flat_map-append give messages enums ∙ (λ k. messages-give here file.MESSAGE_TYPE 0 base f.message_type k ++ enums-give here file.ENUM_TYPE 0 after.enums f.enum_type k)) j
        ++ services-none here 0 after.services f.service j)) i
        ++ row-none of_extension no-extension here file.EXTENSION 0 after.extensions f.extension i)
        ∙ append-nil (given ++ []) ∙ append-nil given)

    -- what is given of the messages of a list up to a position, and of the one there
    pub walked-next : (here : Surrounding) (tag : ℤ) (ms : List DescriptorProto) (i : ℕ) (x : DescriptorProto) → i < length ms → x ≡ get_or ms i x
        → let s = step (at here) tag i (of_message x) in
        flat_map give (messages_walk here tag 0 no_counts (take (i + 1) ms))
        ≡ flat_map give (messages_walk here tag 0 no_counts (take i ms))
        ++ (own s (of_message x) ++ (messages-given s message.NESTED_TYPE 0 (out-DescriptorProto x).nested_type ++ enums-given s message.ENUM_TYPE 0 (out-DescriptorProto x).enum_type))
    walked-next here tag ms i x below is =
        let so_far : 0 + length (take i ms) ≡ i = omega (arith, length-take-le i ms (omega arith)) in
        ap (λ ys. flat_map give (messages_walk here tag 0 no_counts ys)) (take_more ms i x below ∙ ap (λ y. take i ms ++ y ∷ []) (sym is))
        ∙ messages-give here tag 0 no_counts (take i ms ++ x ∷ [])
        ∙ messages-last (at here) tag 0 (take i ms) x
        ∙ (λ j. sym (messages-give here tag 0 no_counts (take i ms)) j
        ++ (ap (λ n. message-given (step (at here) tag n (of_message x)) x) so_far ∙ message-opens (step (at here) tag i (of_message x)) x) j)
