-- Changed files declare what the files declare, each declaration changed.
use Rattle.std.proofs.Common.{◌&&◌, nat_le, ◌≡◌, ℕ, ℤ, suc, List, [], ◌∷◌, ◌++◌, map, refl, ap, sym, ◌∙◌}
use Rattle.std.proofs.lemmas.List.{length-map, map-append}
use Rattle.proto_types.specs.declared.tag.file.TheConstants as file
use Rattle.proto_types.specs.declared.tag.message.TheConstants as message
use Rattle.proto_types.specs.declared.tag.enum_.TheConstants as enumeration
use Rattle.proto_types.specs.declared.tag.service.TheConstants as service
use Rattle.proto_types.specs.Names.{join}
use Rattle.proto_types.specs.Readers.{text_of}
use Rattle.proto_types.specs.declared.records.enumeration.EnumDescriptorProto.{EnumDescriptorProto}
use Rattle.proto_types.specs.declared.records.field.FieldDescriptorProto.{FieldDescriptorProto}
use Rattle.proto_types.specs.declared.records.service.ServiceDescriptorProto.{ServiceDescriptorProto}
use Rattle.proto_types.specs.Computed.{literals}
use Rattle.proto_types.specs.declared.file.FileDescriptorProto.{FileDescriptorProto}
use Rattle.proto_types.specs.declared.message.DescriptorProto.{DescriptorProto, DescriptorProto', out-DescriptorProto, roll-DescriptorProto, roll-out-DescriptorProto, Row_of-DescriptorProto, end_of-DescriptorProto, more_of-DescriptorProto, items-the_row-DescriptorProto, items_shown-the_row-DescriptorProto-0}
use Rattle.proto_types.specs.declared.message.OneofDescriptorProto.{OneofDescriptorProto}
use Rattle.record_walk.specs.declared.counts.Counts.{Counts}
use Rattle.record_walk.specs.Changed.{Changes, KeepNames, changed_fields, changed_message, changed_nested, changed_messages, changed_service, changed_services, changed_file, changed_files, changed_proto, changed, ChangedMessageIs, DeclareChanged}
use Rattle.std.specs.List.{list_all}
use Rattle.record_walk.specs.Counts.{counted, counting, fits_list, list_limit, lists_fit}
use Rattle.record_walk.specs.Declarations.{in_file, enum_walk, enums_walk, service_walk, services_walk, message_front, message_end, message_walk, nested_walk, messages_walk, file_walk, declarations}
use Rattle.record_walk.specs.Protos.{Proto, of_file, of_message, of_field, of_oneof, of_service, of_method, of_enum, of_value, of_extension, name_of}
use Rattle.record_walk.specs.Shown.{Shown, Surrounding, shown, file_shown, row, parts, inside, beside}
use Rattle.proto_types.specs.Paths.{entry_path}
use Rattle.record_walk.proofs.Paths.{one-file}

-- a changed message by its parts
row-changed-is : {n : _} (c : Changes) (index : ℕ) (scope : List ℕ) (nested : Row_of-DescriptorProto n)
    → items-the_row-DescriptorProto n (changed_nested c index scope nested) ≡ changed_messages c index scope (items-the_row-DescriptorProto n nested)
row-changed-is c index scope end_of-DescriptorProto = refl
row-changed-is c index scope (more_of-DescriptorProto m rest) =
    ap (λ ms. changed_message c index (join scope (text_of (out-DescriptorProto m).name)) m ∷ ms) (row-changed-is c index scope rest)

pub changed-message-is : ChangedMessageIs
unfolding literals
changed-message-is c index full_name (DescriptorProto' name fields n nested enums ranges extensions options oneofs reserved reserved_names) =
    let m = DescriptorProto' name fields n nested enums ranges extensions options oneofs reserved reserved_names in
    let row = changed_nested c index full_name nested in
    let l = changed_message c index full_name m in
    let deeper : (out-DescriptorProto l).nested_type ≡ changed_messages c index full_name (out-DescriptorProto m).nested_type =
    items_shown-the_row-DescriptorProto-0 n row ∙ row-changed-is c index full_name nested ∙ ap (changed_messages c index full_name) (sym (items_shown-the_row-DescriptorProto-0 n nested)) in
    sym (roll-out-DescriptorProto l)
    ∙ ap roll-DescriptorProto (λ i. record (out-DescriptorProto m) {
      field = changed_fields c.field index full_name fields;
      nested_type = deeper i;
      extension = changed_fields c.extension index full_name extensions;
    })

-- a changed record is counted as it was
counting-changed : (c : Changes) (k : Counts) (index : ℕ) (name : List ℕ) (p : Proto) → counting k (changed_proto c index name p) ≡ counting k p
counting-changed c k index name (of_file f) = refl
counting-changed c k index name (of_message m) = refl
counting-changed c k index name (of_field f) = refl
counting-changed c k index name (of_oneof o) = refl
counting-changed c k index name (of_service s) = refl
counting-changed c k index name (of_method m) = refl
counting-changed c k index name (of_enum e) = refl
counting-changed c k index name (of_value v) = refl
counting-changed c k index name (of_extension x) = refl

-- and so are changed declarations
pub counted-changed : (c : Changes) (k : Counts) (ds : List Shown) → counted k (map (changed c) ds) ≡ counted k ds
counted-changed c k [] = refl
counted-changed c k (d ∷ ds) =
    counted-changed c (counting k (changed c d).proto) ds ∙ ap (λ next. counted next ds) (counting-changed c k d.file d.full_name d.proto)

module _ (c : Changes) (keep : KeepNames c) where
  -- an entry of a list, whose name stays
  shown-changed : (here : Surrounding) (tag : ℤ) (i n : ℕ) (old new : Proto) → name_of new ≡ name_of old
      → new ≡ changed_proto c here.file (join here.scope (name_of old)) old → shown here tag i n new ≡ changed c (shown here tag i n old)
  shown-changed here tag i n old new name is = λ j. record {
    file = here.file;
    parent = here.parent;
    index = n;
    path = entry_path here.path tag i;
    full_name = join here.scope (name j);
    proto = is j;
  }

  -- a list whose entries change, and one whose entries stay
  row-changed : {X : Type 0} (of : X → Proto) (change : X → X) (here : Surrounding) → ((x : X) → name_of (of (change x)) ≡ name_of (of x))
      → ((x : X) → of (change x) ≡ changed_proto c here.file (join here.scope (name_of (of x))) (of x))
      → (tag : ℤ) (i n : ℕ) (xs : List X) → row of here tag i n (map change xs) ≡ map (changed c) (row of here tag i n xs)
  row-changed of change here name is tag i n [] = refl
  row-changed of change here name is tag i n (x ∷ xs) =
      λ j. shown-changed here tag i n (of x) (of (change x)) (name x) (is x) j ∷ row-changed of change here name is tag (suc i) (suc n) xs j

  row-kept : {X : Type 0} (of : X → Proto) → ((index : ℕ) (name : List ℕ) (x : X) → of x ≡ changed_proto c index name (of x))
      → (here : Surrounding) (tag : ℤ) (i n : ℕ) (xs : List X) → row of here tag i n xs ≡ map (changed c) (row of here tag i n xs)
  row-kept of is here tag i n [] = refl
  row-kept of is here tag i n (x ∷ xs) =
      λ j. shown-changed here tag i n (of x) (of x) refl (is here.file (join here.scope (name_of (of x))) x) j ∷ row-kept of is here tag (suc i) (suc n) xs j

  fields-changed : (here : Surrounding) (tag : ℤ) (i n : ℕ) (fs : List FieldDescriptorProto)
      → row of_field here tag i n (changed_fields c.field here.file here.scope fs) ≡ map (changed c) (row of_field here tag i n fs)
  fields-changed here tag i n fs =
      row-changed of_field (λ f. c.field here.file (join here.scope (text_of f.name)) f) here
      (λ f. keep.fields here.file (join here.scope (text_of f.name)) f) (λ f. refl) tag i n fs

  extensions-changed : (here : Surrounding) (tag : ℤ) (i n : ℕ) (xs : List FieldDescriptorProto)
      → row of_extension here tag i n (changed_fields c.extension here.file here.scope xs) ≡ map (changed c) (row of_extension here tag i n xs)
  extensions-changed here tag i n xs =
      row-changed of_extension (λ x. c.extension here.file (join here.scope (text_of x.name)) x) here
      (λ x. keep.extensions here.file (join here.scope (text_of x.name)) x) (λ x. refl) tag i n xs

  -- enums stay, with their values
  enums-kept : (here : Surrounding) (tag : ℤ) (i n : ℕ) (es : List EnumDescriptorProto) → enums_walk here tag i n es ≡ map (changed c) (enums_walk here tag i n es)
  enums-kept here tag i n [] = refl
  enums-kept here tag i n (e ∷ es) =
      let d = shown here tag i n (of_enum e) in
      (λ j. (d ∷ row-kept of_value (λ _ _ _. refl) (beside here.scope d) enumeration.VALUE 0 0 e.value j) ++ enums-kept here tag (suc i) (suc n) es j)
      ∙ sym (map-append (changed c) (enum_walk here tag i n e) (enums_walk here tag (suc i) (suc n) es))

  -- services with their methods
  services-changed : (here : Surrounding) (i n : ℕ) (ss : List ServiceDescriptorProto)
      → services_walk here i n (changed_services c here.file here.scope ss) ≡ map (changed c) (services_walk here i n ss)
  services-changed here i n [] = refl
  services-changed here i n (s ∷ ss) =
      let d = shown here file.SERVICE i n (of_service s) in
      let within = inside d in
      (λ j. (changed c d ∷ row-changed of_method (λ m. c.method within.file (join within.scope (text_of m.name)) m) within
      (λ m. keep.methods within.file (join within.scope (text_of m.name)) m) (λ m. refl) service.METHOD 0 0 s.method j) ++ services-changed here (suc i) (suc n) ss j)
      ∙ sym (map-append (changed c) (service_walk here i n s) (services_walk here (suc i) (suc n) ss))

  -- what stands before the nested messages of a message, and behind them
  front-changed : (here : Surrounding) (oneofs : List OneofDescriptorProto) (fields : List FieldDescriptorProto)
      → message_front here oneofs (changed_fields c.field here.file here.scope fields) ≡ map (changed c) (message_front here oneofs fields)
  front-changed here oneofs fields =
      (λ j. row-kept of_oneof (λ _ _ _. refl) here message.ONEOF_DECL 0 0 oneofs j ++ fields-changed here message.FIELD 0 0 fields j)
      ∙ sym (map-append (changed c) (parts of_oneof here message.ONEOF_DECL oneofs) (parts of_field here message.FIELD fields))

  end-changed : (here : Surrounding) (after : Counts) (enums : List EnumDescriptorProto) (extensions : List FieldDescriptorProto)
      → message_end here after enums (changed_fields c.extension here.file here.scope extensions) ≡ map (changed c) (message_end here after enums extensions)
  end-changed here after enums extensions =
      (λ j. enums-kept here message.ENUM_TYPE 0 after.enums enums j ++ extensions-changed here message.EXTENSION 0 after.extensions extensions j)
      ∙ sym (map-append (changed c) (enums_walk here message.ENUM_TYPE 0 after.enums enums) (row of_extension here message.EXTENSION 0 after.extensions extensions))

  -- messages with all that stands in them
  mutual
    unfolding literals

    message-changed : (here : Surrounding) (tag : ℤ) (i : ℕ) (base : Counts) (m : DescriptorProto)
        → message_walk here tag i base (changed_message c here.file (join here.scope (text_of (out-DescriptorProto m).name)) m) ≡ map (changed c) (message_walk here tag i base m)
    message-changed here tag i base (DescriptorProto' name fields n nested enums ranges extensions options oneofs reserved reserved_names) =
        let m = DescriptorProto' name fields n nested enums ranges extensions options oneofs reserved reserved_names in
        let d = shown here tag i base.messages (of_message m) in
        let first = counting base (of_message m) in
        let front = message_front (inside d) oneofs fields in
        let deeper = nested_walk (inside d) 0 first nested in
        let ending = message_end (inside d) (counted first deeper) enums extensions in
        let nested-is = nested-changed (inside d) 0 first nested in
        let counts-are = ap (counted first) nested-is ∙ counted-changed c first deeper in
        let ending-is = ap (λ after. message_end (inside d) after enums (changed_fields c.extension here.file d.full_name extensions)) counts-are
        ∙ end-changed (inside d) (counted first deeper) enums extensions in
        (λ j. changed c d ∷ (front-changed (inside d) oneofs fields j ++ nested-is j ++ ending-is j))
        ∙ ap (λ ds. changed c d ∷ ds) (ap (λ ds. ds ++ map (changed c) ending) (sym (map-append (changed c) front deeper)) ∙ sym (map-append (changed c) (front ++ deeper) ending))

    nested-changed : {n : _} (here : Surrounding) (i : ℕ) (base : Counts) (nested : Row_of-DescriptorProto n)
        → nested_walk here i base (changed_nested c here.file here.scope nested) ≡ map (changed c) (nested_walk here i base nested)
    nested-changed here i base end_of-DescriptorProto = refl
    nested-changed here i base (more_of-DescriptorProto m rest) =
        let first = message_walk here message.NESTED_TYPE i base m in
        let first-is = message-changed here message.NESTED_TYPE i base m in
        let rest' = changed_nested c here.file here.scope rest in
        (λ j. first-is j ++ nested_walk here (suc i) (counted base (first-is j)) rest')
        ∙ ap (λ k. map (changed c) first ++ nested_walk here (suc i) k rest') (counted-changed c base first)
        ∙ ap (λ ds. map (changed c) first ++ ds) (nested-changed here (suc i) (counted base first) rest)
        ∙ sym (map-append (changed c) first (nested_walk here (suc i) (counted base first) rest))

  messages-changed : (here : Surrounding) (tag : ℤ) (i : ℕ) (base : Counts) (ms : List DescriptorProto)
      → messages_walk here tag i base (changed_messages c here.file here.scope ms) ≡ map (changed c) (messages_walk here tag i base ms)
  messages-changed here tag i base [] = refl
  messages-changed here tag i base (m ∷ ms) =
      let first = message_walk here tag i base m in
      let first-is = message-changed here tag i base m in
      let rest = changed_messages c here.file here.scope ms in
      (λ j. first-is j ++ messages_walk here tag (suc i) (counted base (first-is j)) rest)
      ∙ ap (λ k. map (changed c) first ++ messages_walk here tag (suc i) k rest) (counted-changed c base first)
      ∙ ap (λ ds. map (changed c) first ++ ds) (messages-changed here tag (suc i) (counted base first) ms)
      ∙ sym (map-append (changed c) first (messages_walk here tag (suc i) (counted base first) ms))

  -- a file and what it declares
  file-changed : (base : Counts) (f : FileDescriptorProto) → file_walk base (changed_file c base.files f) ≡ map (changed c) (file_walk base f)
  file-changed base f =
      let here = in_file base.files f in
      let f' = changed_file c base.files f in
      let messages = messages_walk here file.MESSAGE_TYPE 0 base f.message_type in
      let after = counted base messages in
      let enums = enums_walk here file.ENUM_TYPE 0 after.enums f.enum_type in
      let services = services_walk here 0 after.services f.service in
      let extensions = row of_extension here file.EXTENSION 0 after.extensions f.extension in
      let messages-are = messages-changed here file.MESSAGE_TYPE 0 base f.message_type in
      let after-is = ap (counted base) messages-are ∙ counted-changed c base messages in
      (λ j. changed c (file_shown [] base.files f) ∷ (messages-are j ++ enums_walk here file.ENUM_TYPE 0 (after-is j).enums f.enum_type
      ++ services_walk here 0 (after-is j).services f'.service ++ row of_extension here file.EXTENSION 0 (after-is j).extensions f'.extension))
      ∙ (λ j. changed c (file_shown [] base.files f) ∷ (map (changed c) messages ++ enums-kept here file.ENUM_TYPE 0 after.enums f.enum_type j
      ++ services-changed here 0 after.services f.service j ++ extensions-changed here file.EXTENSION 0 after.extensions f.extension j))
      ∙ ap (λ ds. changed c (file_shown [] base.files f) ∷ ds) (
      (λ j. sym (map-append (changed c) messages enums) j ++ map (changed c) services ++ map (changed c) extensions)
      ∙ (λ j. sym (map-append (changed c) (messages ++ enums) services) j ++ map (changed c) extensions)
      ∙ sym (map-append (changed c) (messages ++ enums ++ services) extensions))

  -- files, one after another
  pub declare-changed : (base : Counts) (fs : List FileDescriptorProto) → DeclareChanged c base fs
  declare-changed base [] = refl
  declare-changed base (f ∷ fs) =
      let first = file_walk base f in
      let next = counted base first in
      let first-is = file-changed base f in
      let rest = changed_files c (suc base.files) fs in
      (λ j. first-is j ++ declarations (counted base (first-is j)) rest)
      ∙ ap (λ k. map (changed c) first ++ declarations k rest) (counted-changed c base first)
      ∙ ap (λ n. map (changed c) first ++ declarations next (changed_files c n fs)) (sym (one-file base f))
      ∙ ap (λ ds. map (changed c) first ++ ds) (declare-changed next fs)
      ∙ sym (map-append (changed c) first (declarations next fs))

-- changed lists are as long as they were
fits-mapped : {X : Type 0} (change : X → X) (xs : List X) → fits_list (map change xs) ≡ fits_list xs
fits-mapped change xs = ap (λ n. nat_le n list_limit) (length-map xs change)

message-fits : (c : Changes) (index : ℕ) (full_name : List ℕ) (m : DescriptorProto) → lists_fit (of_message (changed_message c index full_name m)) ≡ lists_fit (of_message m)
unfolding literals
message-fits c index full_name (DescriptorProto' name fields n nested enums ranges extensions options oneofs reserved reserved_names) =
    let m = DescriptorProto' name fields n nested enums ranges extensions options oneofs reserved reserved_names in
    let row = changed_nested c index full_name nested in
    let deeper : (out-DescriptorProto (changed_message c index full_name m)).nested_type ≡ changed_messages c index full_name (out-DescriptorProto m).nested_type =
    items_shown-the_row-DescriptorProto-0 n row ∙ row-changed-is c index full_name nested ∙ ap (changed_messages c index full_name) (sym (items_shown-the_row-DescriptorProto-0 n nested)) in
    let nested-fits = ap fits_list deeper ∙ fits-mapped (λ k. changed_message c index (join full_name (text_of (out-DescriptorProto k).name)) k) (out-DescriptorProto m).nested_type in
    λ i. fits-mapped (λ f. c.field index (join full_name (text_of f.name)) f) fields i && nested-fits i && fits_list enums
    && fits-mapped (λ x. c.extension index (join full_name (text_of x.name)) x) extensions i && fits_list oneofs && fits_list ranges && fits_list reserved

-- so they fit as they did
pub lists-fit-changed : (c : Changes) (index : ℕ) (name : List ℕ) (p : Proto) → lists_fit (changed_proto c index name p) ≡ lists_fit p
lists-fit-changed c index name (of_file f) =
    let scope = text_of f.«package» in
    λ i. fits_list f.dependency && fits-mapped (λ m. changed_message c index (join scope (text_of (out-DescriptorProto m).name)) m) f.message_type i && fits_list f.enum_type
    && fits-mapped (λ s. changed_service c index (join scope (text_of s.name)) s) f.service i && fits-mapped (λ x. c.extension index (join scope (text_of x.name)) x) f.extension i
lists-fit-changed c index name (of_message m) = message-fits c index name m
lists-fit-changed c index name (of_field f) = refl
lists-fit-changed c index name (of_oneof o) = refl
lists-fit-changed c index name (of_service s) = fits-mapped (λ m. c.method index (join name (text_of m.name)) m) s.method
lists-fit-changed c index name (of_method m) = refl
lists-fit-changed c index name (of_enum e) = refl
lists-fit-changed c index name (of_value v) = refl
lists-fit-changed c index name (of_extension x) = refl

-- and those of all changed declarations
pub all-fit-changed : (c : Changes) (ds : List Shown) → list_all (λ d. lists_fit d.proto) (map (changed c) ds) ≡ list_all (λ d. lists_fit d.proto) ds
all-fit-changed c [] = refl
all-fit-changed c (d ∷ ds) = λ i. lists-fit-changed c d.file d.full_name d.proto i && all-fit-changed c ds i
