-- In a file whose names are plain, each text before a dot of a full name is a package, a message or a service that the file enters.
use Rattle.std.proofs.Common.{◌≡◌, ℕ, ℤ, suc, true, false, cond, List, [], ◌∷◌, ◌++◌, map, refl, ap, subst, sym, ◌∙◌}
use Rattle.std.proofs.lemmas.List.{map-append}
use Rattle.std.proofs.lemmas.List.Elements.{All-append, All-cons, All-contains_itself, All-from_recursion, All-head, All-nil, All-tail, All-weaker, Contains-append_left, Contains-append_right}
use Rattle.std.specs.List.{All, AllByRecursion, Contains}
use Rattle.proto_types.specs.declared.tag.file.TheConstants as file
use Rattle.proto_types.specs.declared.tag.message.TheConstants as message
use Rattle.proto_types.specs.declared.tag.enum_.TheConstants as enumeration
use Rattle.proto_types.specs.declared.tag.service.TheConstants as service
use Rattle.proto_types.specs.declared.records.enumeration.EnumDescriptorProto.{EnumDescriptorProto}
use Rattle.proto_types.specs.declared.records.service.ServiceDescriptorProto.{ServiceDescriptorProto}
use Rattle.proto_types.specs.Names.{fronts, is_dot, join}
use Rattle.proto_types.specs.Readers.{text_of}
use Rattle.proto_types.specs.Computed.{literals}
use Rattle.proto_types.specs.declared.file.FileDescriptorProto.{FileDescriptorProto}
use Rattle.proto_types.specs.declared.message.DescriptorProto.{DescriptorProto, DescriptorProto', Row_of-DescriptorProto, end_of-DescriptorProto, more_of-DescriptorProto}
use Rattle.name_tables.specs.Entries.{Entry}
use Rattle.record_walk.specs.declared.counts.Counts.{Counts}
use Rattle.record_walk.specs.Counts.{counted, counting}
use Rattle.record_walk.specs.Declarations.{enum_walk, enums_walk, file_walk, in_file, message_end, message_front, message_walk, messages_walk, nested_walk, service_walk, services_walk}
use Rattle.record_walk.specs.Protos.{Proto, of_enum, of_extension, of_field, of_message, of_method, of_oneof, of_service, of_value, name_of}
use Rattle.record_walk.specs.Shown.{Shown, Surrounding, beside, file_shown, inside, parts, row, shown}
use Rattle.record_walk.specs.Walking.{within_file}
use Rattle.name_pass.specs.Names.{entries, entries_of, own_entry, package_entry, packages}
use Rattle.descriptor_pool.proofs.Resolved.{all-append}
use Rattle.pool_laws.specs.Laws.{HasScope, IsPlainName, PrefixesEntered, is_scope}
use Rattle.pool_laws.proofs.AllOf.{all-front, all-rest}

-- before the dots of a name behind a scope and a dot stand the texts before the dots of the scope, and the scope
fronts-behind : (scope name : List ℕ) → fronts name ≡ [] → fronts (scope ++ 46 ∷ name) ≡ fronts scope ++ scope ∷ []
fronts-behind [] name none = ap (λ fs. [] ∷ map (λ front. 46 ∷ front) fs) none
fronts-behind (c ∷ cs) name none =
    let longer : List ℕ → List ℕ = λ front. c ∷ front in
    let deeper = ap (map longer) (fronts-behind cs name none) ∙ map-append longer (fronts cs) (cs ∷ []) in
    elim (is_dot c) as (λ b. cond b ([] ∷ map longer (fronts (cs ++ 46 ∷ name))) (map longer (fronts (cs ++ 46 ∷ name)))
    ≡ cond b ([] ∷ map longer (fronts cs)) (map longer (fronts cs)) ++ (c ∷ cs) ∷ [])
    [ true ↦ ap (λ fs. [] ∷ fs) deeper | false ↦ deeper ]

fronts-inside : (scope name : List ℕ) → fronts name ≡ [] → fronts (join scope name) ≡ packages scope
fronts-inside [] name none = none
fronts-inside (c ∷ cs) name none = fronts-behind (c ∷ cs) name none

packages-inside : (scope name : List ℕ) → IsPlainName name → packages (join scope name) ≡ packages scope ++ join scope name ∷ []
packages-inside [] [] plain = absurd (plain.0 refl)
packages-inside [] (c ∷ cs) plain = ap (λ fs. fs ++ (c ∷ cs) ∷ []) plain.1
packages-inside (c ∷ cs) name plain = ap (λ fs. fs ++ join (c ∷ cs) name ∷ []) (fronts-behind (c ∷ cs) name plain.1)

module _ (es : List Entry) where
  -- a scope that is entered, with those around it
  abbrev Open : List ℕ → Type 0
  Open scope = All (HasScope es) (packages scope)

  -- a declaration with a plain name, whose entries are among all
  abbrev Given : Shown → Type 0
  Given d = IsPlainName (name_of d.proto) × All (Contains es) (entries_of d)

  -- what stands before the dots of its full name is entered
  abbrev Fine : Shown → Type 0
  Fine d = All (HasScope es) (fronts d.full_name)

  one-fine : (here : Surrounding) (tag : ℤ) (i n : ℕ) (p : Proto) → Open here.scope → Given (shown here tag i n p) → Fine (shown here tag i n p)
  one-fine here tag i n p opened given = subst (All (HasScope es)) (sym (fronts-inside here.scope (name_of p) given.0.1)) opened

  -- a scope that stands in an open one is open
  opens : (scope name : List ℕ) → Open scope → IsPlainName name → HasScope es (join scope name) → Open (join scope name)
  opens scope name opened plain own =
      subst (All (HasScope es)) (sym (packages-inside scope name plain))
      (All-append (HasScope es) (packages scope) (join scope name ∷ []) opened (All-cons (HasScope es) (join scope name) [] own (All-nil (HasScope es))))

  own-opens : (here : Surrounding) (tag : ℤ) (i n : ℕ) (p : Proto) → let d = shown here tag i n p in entries_of d ≡ own_entry d ∷ [] → is_scope (own_entry d).1.kind ≡ true
      → Open here.scope → Given d → Open d.full_name
  own-opens here tag i n p one scope opened given =
      let d = shown here tag i n p in
      opens here.scope (name_of p) opened given.0 ((own_entry d).1, All-head (Contains es) (own_entry d) [] (subst (All (Contains es)) one given.1), scope)

  row-fine : {X : Type 0} (of : X → Proto) (here : Surrounding) → Open here.scope → (tag : ℤ) (i n : ℕ) (xs : List X)
      → AllByRecursion Given (row of here tag i n xs) → AllByRecursion Fine (row of here tag i n xs)
  row-fine of here opened tag i n [] given = tt
  row-fine of here opened tag i n (x ∷ xs) given = (one-fine here tag i n (of x) opened given.0, row-fine of here opened tag (suc i) (suc n) xs given.1)

  enums-fine : (here : Surrounding) → Open here.scope → (tag : ℤ) (i n : ℕ) (xs : List EnumDescriptorProto)
      → AllByRecursion Given (enums_walk here tag i n xs) → AllByRecursion Fine (enums_walk here tag i n xs)
  enums-fine here opened tag i n [] given = tt
  enums-fine here opened tag i n (e ∷ xs) given =
      let d = shown here tag i n (of_enum e) in
      let first = enum_walk here tag i n e in
      let rest = enums_walk here tag (suc i) (suc n) xs in
      let own = all-front Given first rest given in
      all-append Fine first rest
      (one-fine here tag i n (of_enum e) opened own.0, row-fine of_value (beside here.scope d) opened enumeration.VALUE 0 0 e.value own.1)
      (enums-fine here opened tag (suc i) (suc n) xs (all-rest Given first rest given))

  services-fine : (here : Surrounding) → Open here.scope → (i n : ℕ) (xs : List ServiceDescriptorProto)
      → AllByRecursion Given (services_walk here i n xs) → AllByRecursion Fine (services_walk here i n xs)
  services-fine here opened i n [] given = tt
  services-fine here opened i n (v ∷ xs) given =
      let d = shown here file.SERVICE i n (of_service v) in
      let first = service_walk here i n v in
      let rest = services_walk here (suc i) (suc n) xs in
      let own = all-front Given first rest given in
      all-append Fine first rest
      (one-fine here file.SERVICE i n (of_service v) opened own.0, row-fine of_method (inside d) (own-opens here file.SERVICE i n (of_service v) refl refl opened own.0) service.METHOD 0 0 v.method own.1)
      (services-fine here opened (suc i) (suc n) xs (all-rest Given first rest given))

  mutual
    unfolding literals

    message-fine : (here : Surrounding) → Open here.scope → (tag : ℤ) (i : ℕ) (base : Counts) (m : DescriptorProto)
        → AllByRecursion Given (message_walk here tag i base m) → AllByRecursion Fine (message_walk here tag i base m)
    message-fine here opened tag i base (DescriptorProto' name fields n nested enums ranges extensions options oneofs reserved reserved_names) given =
        let m = DescriptorProto' name fields n nested enums ranges extensions options oneofs reserved reserved_names in
        let d = shown here tag i base.messages (of_message m) in
        let first = counting base (of_message m) in
        let front = message_front (inside d) oneofs fields in
        let deeper = nested_walk (inside d) 0 first nested in
        let after = counted first deeper in
        let behind = message_end (inside d) after enums extensions in
        let within : Open d.full_name = own-opens here tag i base.messages (of_message m) refl refl opened given.0 in
        let upper = all-front Given (front ++ deeper) behind given.1 in
        let lower = all-rest Given (front ++ deeper) behind given.1 in
        let fronts_given = all-front Given front deeper upper in
        let oneofs_walk = parts of_oneof (inside d) message.ONEOF_DECL oneofs in
        let fields_walk = parts of_field (inside d) message.FIELD fields in
        let enums_here = enums_walk (inside d) message.ENUM_TYPE 0 after.enums enums in
        let extensions_here = row of_extension (inside d) message.EXTENSION 0 after.extensions extensions in (
          one-fine here tag i base.messages (of_message m) opened given.0,
          all-append Fine (front ++ deeper) behind
              (all-append Fine front deeper
              (all-append Fine oneofs_walk fields_walk
              (row-fine of_oneof (inside d) within message.ONEOF_DECL 0 0 oneofs (all-front Given oneofs_walk fields_walk fronts_given))
              (row-fine of_field (inside d) within message.FIELD 0 0 fields (all-rest Given oneofs_walk fields_walk fronts_given)))
              (nested-fine (inside d) within 0 first nested (all-rest Given front deeper upper)))
              (all-append Fine enums_here extensions_here
              (enums-fine (inside d) within message.ENUM_TYPE 0 after.enums enums (all-front Given enums_here extensions_here lower))
              (row-fine of_extension (inside d) within message.EXTENSION 0 after.extensions extensions (all-rest Given enums_here extensions_here lower))),
        )

    nested-fine : {n : _} (here : Surrounding) → Open here.scope → (i : ℕ) (base : Counts) (nested : Row_of-DescriptorProto n)
        → AllByRecursion Given (nested_walk here i base nested) → AllByRecursion Fine (nested_walk here i base nested)
    nested-fine here opened i base end_of-DescriptorProto given = tt
    nested-fine here opened i base (more_of-DescriptorProto m rest) given =
        let first = message_walk here message.NESTED_TYPE i base m in
        let others = nested_walk here (suc i) (counted base first) rest in
        all-append Fine first others
        (message-fine here opened message.NESTED_TYPE i base m (all-front Given first others given))
        (nested-fine here opened (suc i) (counted base first) rest (all-rest Given first others given))

  messages-fine : (here : Surrounding) → Open here.scope → (tag : ℤ) (i : ℕ) (base : Counts) (ms : List DescriptorProto)
      → AllByRecursion Given (messages_walk here tag i base ms) → AllByRecursion Fine (messages_walk here tag i base ms)
  messages-fine here opened tag i base [] given = tt
  messages-fine here opened tag i base (m ∷ ms) given =
      let first = message_walk here tag i base m in
      let others = messages_walk here tag (suc i) (counted base first) ms in
      all-append Fine first others
      (message-fine here opened tag i base m (all-front Given first others given))
      (messages-fine here opened tag (suc i) (counted base first) ms (all-rest Given first others given))

  -- all that stands in a file
  within-fine : (base : Counts) (f : FileDescriptorProto) → Open (text_of f.«package») → AllByRecursion Given (within_file base.files base f)
      → AllByRecursion Fine (within_file base.files base f)
  within-fine base f opened given =
      let here = in_file base.files f in
      let messages = messages_walk here file.MESSAGE_TYPE 0 base f.message_type in
      let after = counted base messages in
      let enums = enums_walk here file.ENUM_TYPE 0 after.enums f.enum_type in
      let services = services_walk here 0 after.services f.service in
      let extensions = row of_extension here file.EXTENSION 0 after.extensions f.extension in
      let three = all-front Given (messages ++ enums ++ services) extensions given in
      let two = all-front Given (messages ++ enums) services three in
      all-append Fine (messages ++ enums ++ services) extensions
      (all-append Fine (messages ++ enums) services
      (all-append Fine messages enums
      (messages-fine here opened file.MESSAGE_TYPE 0 base f.message_type (all-front Given messages enums two))
      (enums-fine here opened file.ENUM_TYPE 0 after.enums f.enum_type (all-rest Given messages enums two)))
      (services-fine here opened 0 after.services f.service (all-rest Given (messages ++ enums) services three)))
      (row-fine of_extension here opened file.EXTENSION 0 after.extensions f.extension (all-rest Given (messages ++ enums ++ services) extensions given))

-- the entries of each declaration are among those of all
pub entries-held : (ds : List Shown) → All (λ d. All (Contains (entries ds)) (entries_of d)) ds
entries-held [] = All-nil (λ d. All (Contains (entries [])) (entries_of d))
entries-held (d ∷ ds) =
    let all = entries (d ∷ ds) in
    let first = entries_of d in
    All-cons (λ e. All (Contains all) (entries_of e)) d ds
    (All-weaker (Contains first) (Contains all) (λ e here. Contains-append_left first (entries ds) e here) first (All-contains_itself first))
    (All-weaker (λ e. All (Contains (entries ds)) (entries_of e)) (λ e. All (Contains all) (entries_of e))
    (λ e held. All-weaker (Contains (entries ds)) (Contains all) (λ x there. Contains-append_right first (entries ds) x there) (entries_of e) held) ds (entries-held ds))

-- the packages of a file
pub packages-held : (es : List Entry) (n : ℕ) (names : List (List ℕ)) → All (Contains es) (map (package_entry n) names) → All (HasScope es) names
packages-held es n [] held = All-nil (HasScope es)
packages-held es n (name ∷ names) held =
    let e = package_entry n name in
    All-cons (HasScope es) name names (e.1, All-head (Contains es) e (map (package_entry n) names) held, refl)
    (packages-held es n names (All-tail (Contains es) e (map (package_entry n) names) held))

both-given : (es : List Entry) (ds : List Shown) → All (λ d. IsPlainName (name_of d.proto)) ds → All (λ d. All (Contains es) (entries_of d)) ds → AllByRecursion (Given es) ds
both-given es [] plain held = tt
both-given es (d ∷ ds) plain held =
    let Plain = λ (e : Shown). IsPlainName (name_of e.proto) in
    let Held = λ (e : Shown). All (Contains es) (entries_of e) in
    ((All-head Plain d ds plain, All-head Held d ds held), both-given es ds (All-tail Plain d ds plain) (All-tail Held d ds held))

-- the law
pub prefixes_entered : (f : FileDescriptorProto) → PrefixesEntered f
prefixes_entered f base plain =
    let es = entries (file_walk base f) in
    let first = file_shown [] base.files f in
    let inner = within_file base.files base f in
    let Held = λ (e : Shown). All (Contains es) (entries_of e) in
    let held = entries-held (file_walk base f) in
    let opened = packages-held es base.files (packages (text_of f.«package»)) (All-head Held first inner held) in
    All-from_recursion (Fine es) inner (within-fine es base f opened (both-given es inner plain (All-tail Held first inner held)))
