-- The full name of each service of a pool means it, and no two methods of one have one full name.
use Rattle.std.proofs.Common.{◌≡◌, ◌<◌, ◌+◌, ℕ, ℤ, zero, suc, Bool, true, false, cond, Option, Some, None, List, [], ◌∷◌, ◌++◌, length, map, find, option_and_then, option_map, slice_get, refl, ap, sym, subst, ◌∙◌, append_assoc, arith}
use Rattle.std.proofs.lemmas.Slice.Eq.{bytes_eq-Decides}
use Rattle.std.specs.FinMap as finite
use Rattle.std.specs.List.{AllByRecursion}
use Rattle.std.specs.Option.{IfSome, option_or}
use Rattle.std.specs.Str.{bytes_eq}
use Rattle.plain_data.specs.Each.{map_enumerated}
use Rattle.proto_types.specs.Computed.{literals}
use Rattle.proto_types.specs.Names.{join}
use Rattle.proto_types.specs.Paths.{entry_path}
use Rattle.proto_types.specs.Readers.{text_of}
use Rattle.proto_types.specs.declared.tag.file.TheConstants as file
use Rattle.proto_types.specs.declared.tag.message.TheConstants as message
use Rattle.proto_types.specs.declared.tag.enum_.TheConstants as enumeration
use Rattle.proto_types.specs.declared.tag.service.TheConstants as service
use Rattle.proto_types.specs.declared.file.FileDescriptorProto.{FileDescriptorProto}
use Rattle.proto_types.specs.declared.message.DescriptorProto.{DescriptorProto, DescriptorProto', Row_of-DescriptorProto, end_of-DescriptorProto, more_of-DescriptorProto}
use Rattle.proto_types.specs.declared.message.OneofDescriptorProto.{OneofDescriptorProto}
use Rattle.proto_types.specs.declared.records.enumeration.EnumDescriptorProto.{EnumDescriptorProto}
use Rattle.proto_types.specs.declared.records.field.FieldDescriptorProto.{FieldDescriptorProto}
use Rattle.proto_types.specs.declared.records.service.MethodDescriptorProto.{MethodDescriptorProto}
use Rattle.proto_types.specs.declared.records.service.ServiceDescriptorProto.{ServiceDescriptorProto}
use Rattle.pool_types.specs.Contents.{ByText, Contents, files_of, no_contents}
use Rattle.pool_types.specs.declared.contents.definition.Definition.{Definition}
use Rattle.pool_types.specs.declared.contents.definition.DefinitionKind.{DefinitionKind}
use Rattle.pool_types.specs.declared.contents.definition.DefinitionKind.TheVariants as definition
use Rattle.pool_types.specs.declared.contents.service.MethodDescriptorInner.{MethodDescriptorInner}
use Rattle.pool_types.specs.declared.contents.service.ServiceDescriptorInner.{ServiceDescriptorInner}
use Rattle.name_tables.specs.Entries.{Entry, first_of, names_with}
use Rattle.name_tables.proofs.Entries.{get-with}
use Rattle.name_pass.specs.Names.{entries}
use Rattle.record_walk.specs.declared.counts.Counts.{Counts}
use Rattle.record_walk.specs.Counts.{counted, counting, counts_in}
use Rattle.record_walk.specs.Declarations.{declarations, enum_walk, enums_walk, file_walk, in_file, message_end, message_front, message_walk, messages_walk, nested_walk, service_walk, services_walk}
use Rattle.record_walk.specs.Indexes.{HasIndex}
use Rattle.record_walk.specs.Protos.{Proto, of_file, of_message, of_field, of_oneof, of_service, of_method, of_enum, of_value, of_extension}
use Rattle.record_walk.specs.Shown.{Shown, Surrounding, beside, inside, parts, row, shown}
use Rattle.record_walk.proofs.Counted.{counted-append}
use Rattle.record_walk.proofs.Indexes.{indexes-count-on}
use Rattle.reference_pass.specs.Items.{method_item, service_item, service_items}
use Rattle.reference_pass.specs.References.{method_at}
use Rattle.reference_pass.specs.Setting.{Setting}
use Rattle.descriptor_pool.specs.Build.{declared_with, name_faults, setting_with, with_batch}
use Rattle.descriptor_pool.specs.FullNames.{Means}
use Rattle.descriptor_pool.specs.Invariant.{IsPool}
use Rattle.descriptor_pool.specs.Pool.{Made, empty, linked_to, new_files}
use Rattle.descriptor_pool.proofs.MapsLead.{one-place, some-same}
use Rattle.descriptor_pool.proofs.Meant.{IsMeant, all-meant}
use Rattle.descriptor_pool.proofs.Owned.{all-both, part-at}
use Rattle.descriptor_pool.proofs.Resolved.{all-append}
use Rattle.schema_changes.proofs.Keeping.{mapped}
use Rattle.pool_changes.specs.Services.{method_in, service_meant, service_named}
use Rattle.pool_changes.proofs.Lists.{made-at}

-- ---- what holds of all declarations holds of the methods of each service

module _ (R : Shown → Type 0) where
  abbrev OwnsMethods : Shown → Type 0
  OwnsMethods d = elim d.proto [
    | of_service v ↦ AllByRecursion R (parts of_method (inside d) service.METHOD v.method)
    | _ ↦ Unit {0}
  ]

  -- what is no service
  row-none : {X : Type 0} (of : X → Proto) → ((d : Shown) (x : X) → OwnsMethods (record d { proto = of x })) → (here : Surrounding) (tag : ℤ) (i n : ℕ) (xs : List X)
      → AllByRecursion OwnsMethods (row of here tag i n xs)
  row-none of none here tag i n [] = tt
  row-none of none here tag i n (x ∷ xs) = (none (shown here tag i n (of x)) x, row-none of none here tag (suc i) (suc n) xs)

  enums-none : (here : Surrounding) (tag : ℤ) (i n : ℕ) (es : List EnumDescriptorProto) → AllByRecursion OwnsMethods (enums_walk here tag i n es)
  enums-none here tag i n [] = tt
  enums-none here tag i n (e ∷ es) =
      all-append OwnsMethods (enum_walk here tag i n e) (enums_walk here tag (suc i) (suc n) es)
      (tt, row-none of_value (λ _ _. tt) (beside here.scope (shown here tag i n (of_enum e))) enumeration.VALUE 0 0 e.value)
      (enums-none here tag (suc i) (suc n) es)

  extensions-none : (here : Surrounding) (tag : ℤ) (i n : ℕ) (xs : List FieldDescriptorProto) → AllByRecursion OwnsMethods (row of_extension here tag i n xs)
  extensions-none here tag i n xs = row-none of_extension (λ _ _. tt) here tag i n xs

  front-none : (here : Surrounding) (oneofs : List OneofDescriptorProto) (fields : List FieldDescriptorProto) → AllByRecursion OwnsMethods (message_front here oneofs fields)
  front-none here oneofs fields =
      all-append OwnsMethods (parts of_oneof here message.ONEOF_DECL oneofs) (parts of_field here message.FIELD fields)
      (row-none of_oneof (λ _ _. tt) here message.ONEOF_DECL 0 0 oneofs) (row-none of_field (λ _ _. tt) here message.FIELD 0 0 fields)

  end-none : (here : Surrounding) (after : Counts) (enums : List EnumDescriptorProto) (extensions : List FieldDescriptorProto) → AllByRecursion OwnsMethods (message_end here after enums extensions)
  end-none here after enums extensions =
      all-append OwnsMethods (enums_walk here message.ENUM_TYPE 0 after.enums enums) (row of_extension here message.EXTENSION 0 after.extensions extensions)
      (enums-none here message.ENUM_TYPE 0 after.enums enums) (extensions-none here message.EXTENSION 0 after.extensions extensions)

  mutual
    unfolding literals

    message-none : (here : Surrounding) (tag : ℤ) (i : ℕ) (base : Counts) (m : DescriptorProto) → AllByRecursion OwnsMethods (message_walk here tag i base m)
    message-none here tag i base (DescriptorProto' name fields n nested enums ranges extensions options oneofs reserved reserved_names) =
        let m = DescriptorProto' name fields n nested enums ranges extensions options oneofs reserved reserved_names in
        let d = shown here tag i base.messages (of_message m) in
        let first = counting base (of_message m) in
        let front = message_front (inside d) oneofs fields in
        let deeper = nested_walk (inside d) 0 first nested in
        let ending = message_end (inside d) (counted first deeper) enums extensions in (
          tt,
          all-append OwnsMethods (front ++ deeper) ending (all-append OwnsMethods front deeper (front-none (inside d) oneofs fields) (nested-none (inside d) 0 first nested))
              (end-none (inside d) (counted first deeper) enums extensions),
        )

    nested-none : {n : _} (here : Surrounding) (i : ℕ) (base : Counts) (nested : Row_of-DescriptorProto n) → AllByRecursion OwnsMethods (nested_walk here i base nested)
    nested-none here i base end_of-DescriptorProto = tt
    nested-none here i base (more_of-DescriptorProto m rest) =
        let first = message_walk here message.NESTED_TYPE i base m in
        all-append OwnsMethods first (nested_walk here (suc i) (counted base first) rest)
        (message-none here message.NESTED_TYPE i base m) (nested-none here (suc i) (counted base first) rest)

  messages-none : (here : Surrounding) (tag : ℤ) (i : ℕ) (base : Counts) (ms : List DescriptorProto) → AllByRecursion OwnsMethods (messages_walk here tag i base ms)
  messages-none here tag i base [] = tt
  messages-none here tag i base (m ∷ ms) =
      let first = message_walk here tag i base m in
      all-append OwnsMethods first (messages_walk here tag (suc i) (counted base first) ms) (message-none here tag i base m) (messages-none here tag (suc i) (counted base first) ms)

  -- services
  services-own : (here : Surrounding) (i n : ℕ) (vs : List ServiceDescriptorProto) → AllByRecursion R (services_walk here i n vs) → AllByRecursion OwnsMethods (services_walk here i n vs)
  services-own here i n [] all = tt
  services-own here i n (v ∷ vs) all =
      let both = all-both R (service_walk here i n v) (services_walk here (suc i) (suc n) vs) all in
      all-append OwnsMethods (service_walk here i n v) (services_walk here (suc i) (suc n) vs)
      (both.0.1, row-none of_method (λ _ _. tt) (inside (shown here file.SERVICE i n (of_service v))) service.METHOD 0 0 v.method)
      (services-own here (suc i) (suc n) vs both.1)

  file-own : (base : Counts) (f : FileDescriptorProto) → AllByRecursion R (file_walk base f) → AllByRecursion OwnsMethods (file_walk base f)
  file-own base f all =
      let here = in_file base.files f in
      let messages = messages_walk here file.MESSAGE_TYPE 0 base f.message_type in
      let after = counted base messages in
      let enums = enums_walk here file.ENUM_TYPE 0 after.enums f.enum_type in
      let services = services_walk here 0 after.services f.service in
      let extensions = row of_extension here file.EXTENSION 0 after.extensions f.extension in
      let front = all-both R (messages ++ enums ++ services) extensions all.1 in
      let own = all-both R (messages ++ enums) services front.0 in (
        tt,
        all-append OwnsMethods (messages ++ enums ++ services) extensions
            (all-append OwnsMethods (messages ++ enums) services
            (all-append OwnsMethods messages enums (messages-none here file.MESSAGE_TYPE 0 base f.message_type) (enums-none here file.ENUM_TYPE 0 after.enums f.enum_type))
            (services-own here 0 after.services f.service own.1))
            (extensions-none here file.EXTENSION 0 after.extensions f.extension),
      )

  methods-own : (base : Counts) (fs : List FileDescriptorProto) → AllByRecursion R (declarations base fs) → AllByRecursion OwnsMethods (declarations base fs)
  methods-own base [] all = tt
  methods-own base (f ∷ fs) all =
      let first = file_walk base f in
      let both = all-both R first (declarations (counted base first) fs) all in
      all-append OwnsMethods first (declarations (counted base first) fs) (file-own base f both.0) (methods-own (counted base first) fs both.1)

-- ---- the items of services

-- no two methods of a service have one full name
abbrev MethodsApart : ServiceDescriptorInner → Type 0
MethodsApart v = (i j : ℕ) (a b : MethodDescriptorInner) → slice_get v.methods i ≡ Some a → slice_get v.methods j ≡ Some b → a.id.full_name ≡ b.id.full_name → i ≡ j

-- and its full name means it, by its index
record Called (names : ByText Definition) (n : ℕ) (v : ServiceDescriptorInner) : Type 0 where
  means : option_map (λ def. def.kind) (finite.get names v.id.full_name) ≡ Some (definition.Service n)
  apart : MethodsApart v

module _ (s : Setting) (names : ByText Definition) where
  item-apart : (d : Shown) (v : ServiceDescriptorProto) → AllByRecursion (IsMeant names) (parts of_method (inside d) service.METHOD v.method) → MethodsApart (service_item s d v)
  item-apart d v meant i j a b at-i at-j same =
      let make : ℕ → MethodDescriptorProto → MethodDescriptorInner = λ k m. method_item s (method_at (inside d) k m) m in
      let x = mapped (make (0 + i)) (slice_get v.method i) a (sym (made-at make 0 v.method i) ∙ at-i) in
      let y = mapped (make (0 + j)) (slice_get v.method j) b (sym (made-at make 0 v.method j) ∙ at-j) in
      let first = part-at (IsMeant names) of_method (inside d) service.METHOD 0 v.method meant i x.0 x.1 in
      let second = part-at (IsMeant names) of_method (inside d) service.METHOD 0 v.method meant j y.0 y.1 in
      let texts : join d.full_name (text_of (x.0).name) ≡ join d.full_name (text_of (y.0).name) =
      ap (λ (m : MethodDescriptorInner). m.id.full_name) x.2 ∙ same ∙ sym (ap (λ (m : MethodDescriptorInner). m.id.full_name) y.2) in
      let defs = sym first.2 ∙ ap (finite.get names) texts ∙ second.2 in
      let paths = ap (option_map (λ (def : Definition). def.path)) defs in
      let one : entry_path d.path service.METHOD first.0 ++ message.NAME ∷ [] ≡ entry_path d.path service.METHOD second.0 ++ message.NAME ∷ [] = some-same paths in
      omega (arith, first.1, second.1, one-place d.path service.METHOD first.0 second.0 message.NAME one)

  -- the services of some declarations, counted on from so many
  abbrev CalledFrom : ℕ → List Shown → Type 0
  CalledFrom first ds = (j : ℕ) → IfSome (slice_get (service_items s ds) j) (Called names (first + j))

  one-more : (before : Counts) (file : ℕ) (parent : Option ℕ) (index : ℕ) (path : List ℤ) (full_name : List ℕ) (p : Proto) (ds : List Shown)
      → let d : Shown = record { file = file; parent = parent; index = index; path = path; full_name = full_name; proto = p } in
      HasIndex before d p → IsMeant names d → OwnsMethods (IsMeant names) d → CalledFrom (counting before p).services ds → CalledFrom before.services (d ∷ ds)
  one-more before file parent index path full_name (of_service v) ds has meant owns rest zero =
      let d : Shown = record { file = file; parent = parent; index = index; path = path; full_name = full_name; proto = of_service v } in
      let here : before.services + 0 ≡ index = omega (arith, has) in
      record {
        means = ap (option_map (λ (def : Definition). def.kind)) meant ∙ ap (λ n. Some (definition.Service n)) (sym here);
        apart = item-apart d v owns;
      }
  one-more before file parent index path full_name (of_service v) ds has meant owns rest (suc j) =
      let there : suc before.services + j ≡ before.services + suc j = omega arith in
      subst (λ n. IfSome (slice_get (service_items s ds) j) (Called names n)) there (rest j)
  one-more before file parent index path full_name (of_file f) ds has meant owns rest j = rest j
  one-more before file parent index path full_name (of_message m) ds has meant owns rest j = rest j
  one-more before file parent index path full_name (of_field f) ds has meant owns rest j = rest j
  one-more before file parent index path full_name (of_oneof o) ds has meant owns rest j = rest j
  one-more before file parent index path full_name (of_method m) ds has meant owns rest j = rest j
  one-more before file parent index path full_name (of_enum e) ds has meant owns rest j = rest j
  one-more before file parent index path full_name (of_value v) ds has meant owns rest j = rest j
  one-more before file parent index path full_name (of_extension x) ds has meant owns rest j = rest j

  all-called : (base : Counts) (new : List FileDescriptorProto) (front rest : List Shown) → declarations base new ≡ front ++ rest → AllByRecursion (IsMeant names) rest → AllByRecursion (OwnsMethods (IsMeant names)) rest
      → CalledFrom (counted base front).services rest
  all-called base new front [] parted meant owns j = tt
  all-called base new front (d ∷ rest) parted meant owns j =
      let later = all-called base new (front ++ d ∷ []) rest (parted ∙ sym (append_assoc front (d ∷ []) rest)) meant.1 owns.1 in
      let next = subst (λ (c : Counts). CalledFrom c.services rest) (counted-append base front (d ∷ [])) later in
      one-more (counted base front) d.file d.parent d.index d.path d.full_name d.proto rest (indexes-count-on base new front d rest parted) meant.0 owns.0 next j

-- ---- so it is in each pool

-- what a name means stays behind further entries
known-stays : (kind : DefinitionKind) (known more : Option Definition) → option_map (λ def. def.kind) known ≡ Some kind → option_map (λ def. def.kind) (option_or known more) ≡ Some kind
known-stays kind None more is = absurd (cc)
known-stays kind (Some def) more is = is

stays : (known : ByText Definition) (more : List Entry) (n : ℕ) (v : ServiceDescriptorInner) → Called known n v → Called (names_with known more) n v
stays known more n v called = record {
  means = ap (option_map (λ (def : Definition). def.kind)) (get-with known more v.id.full_name)
      ∙ known-stays (definition.Service n) (finite.get known v.id.full_name) (first_of more v.id.full_name) called.means;
  apart = called.apart;
}

all-stay : (known : ByText Definition) (more : List Entry) (first : ℕ) (vs : List ServiceDescriptorInner) → ((j : ℕ) → IfSome (slice_get vs j) (Called known (first + j)))
    → (j : ℕ) → IfSome (slice_get vs j) (Called (names_with known more) (first + j))
all-stay known more first vs called j = by (slice_get vs j) (called j)
  where
    by : (got : Option ServiceDescriptorInner) → IfSome got (Called known (first + j)) → IfSome got (Called (names_with known more) (first + j))
    by None has = tt
    by (Some v) has = stays known more (first + j) v has

-- entries behind others
both-called : (names : ByText Definition) (first : ℕ) (vs ws : List ServiceDescriptorInner) → ((j : ℕ) → IfSome (slice_get vs j) (Called names (first + j))) → ((j : ℕ) → IfSome (slice_get ws j) (Called names (first + length vs + j)))
    → (j : ℕ) → IfSome (slice_get (vs ++ ws) j) (Called names (first + j))
both-called names first [] ws old new j =
    let here : first + 0 + j ≡ first + j = omega arith in
    subst (λ n. IfSome (slice_get ws j) (Called names n)) here (new j)
both-called names first (v ∷ vs) ws old new zero = old zero
both-called names first (v ∷ vs) ws old new (suc j) =
    let there : suc first + j ≡ first + suc j = omega arith in
    subst (λ n. IfSome (slice_get (vs ++ ws) j) (Called names n)) there
    (both-called names (suc first) vs ws
    (λ k. let on : first + suc k ≡ suc first + k = omega arith in subst (λ n. IfSome (slice_get vs k) (Called names n)) on (old (suc k)))
    (λ k. let on : first + suc (length vs) + k ≡ suc first + length vs + k = omega arith in subst (λ n. IfSome (slice_get ws k) (Called names n)) on (new k)) j)

abbrev AllCalled : Contents → Type 0
AllCalled p = (j : ℕ) → IfSome (slice_get p.services j) (Called p.names (0 + j))

link-called : (q : Contents) (new : List FileDescriptorProto) → name_faults q new ≡ [] → AllCalled q → AllCalled (with_batch q new)
link-called q new none was =
    let s = setting_with q new in
    let ds = declared_with q new in
    let names = names_with q.names (entries ds) in
    let meant = all-meant (files_of q ++ new) q ds none in
    let came = all-called s names (counts_in q) new [] ds refl meant (methods-own (IsMeant names) (counts_in q) new meant) in
    both-called names 0 q.services (service_items s ds) (all-stay q.names (entries ds) 0 q.services was)
    (λ j. let here : length q.services + j ≡ 0 + length q.services + j = omega arith in subst (λ n. IfSome (slice_get (service_items s ds) j) (Called names n)) here (came j))

nothing-called : AllCalled no_contents
nothing-called j = tt

made-called : (p : Contents) → Made p → AllCalled p
made-called p (empty is) = subst AllCalled (sym is) nothing-called
made-called p (linked_to {q = q} batch made accepts fits is) = subst AllCalled (sym is) (link-called q (new_files q batch) accepts.0 (made-called q made))

module _ (p : Contents) (pool : IsPool p) (n : ℕ) (v : ServiceDescriptorInner) (there : slice_get p.services n ≡ Some v) where
  called : Called p.names (0 + n) v
  called = subst (λ got. IfSome got (Called p.names (0 + n))) there (made-called p pool.made n)

  meant-by : (got : Option Definition) → option_map (λ def. def.kind) got ≡ Some (definition.Service n) → option_and_then (λ d. service_meant p d.kind) got ≡ Some v
  meant-by None means = absurd cc
  meant-by (Some def) means = let kind : def.kind ≡ definition.Service n = cc in ap (service_meant p) kind ∙ there

  -- its full name means it
  pub service-named : service_named p v.id.full_name ≡ Some v
  unfolding service_named
  service-named =
      let same : 0 + n ≡ n = omega arith in
      meant-by (finite.get p.names v.id.full_name) (called.means ∙ ap (λ k. Some (definition.Service k)) same)

-- the first that passes a test, where one alone does
first-alone : {X : Type 0} (test : X → Bool) (xs : List X) (i : ℕ) (x : X) → slice_get xs i ≡ Some x → test x ≡ true → ((j : ℕ) (y : X) → slice_get xs j ≡ Some y → test y ≡ true → y ≡ x) → find test xs ≡ Some x
first-alone test [] i x at passes alone = absurd cc
first-alone test (y ∷ ys) zero x at passes alone =
    let same : y ≡ x = cc in
    ap (λ b. cond b (Some y) (find test ys)) (ap test same ∙ passes) ∙ ap Some same
first-alone test (y ∷ ys) (suc i) x at passes alone =
    by (test y) refl (first-alone test ys i x at passes (λ j z there is. alone (suc j) z there is))
  where
    by : (b : Bool) → test y ≡ b → find test ys ≡ Some x → cond b (Some y) (find test ys) ≡ Some x
    by true is later = ap Some (alone zero y refl is)
    by false is later = later

-- and each method is the first of its full name
pub method-found : (p : Contents) → IsPool p → (n : ℕ) (v : ServiceDescriptorInner) → slice_get p.services n ≡ Some v → (i : ℕ) (m : MethodDescriptorInner) → slice_get v.methods i ≡ Some m → method_in v m.id.full_name ≡ Some m
method-found p pool n v there i m at =
    first-alone (λ (x : MethodDescriptorInner). bytes_eq x.id.full_name m.id.full_name) v.methods i m at ((bytes_eq-Decides m.id.full_name m.id.full_name).1 refl) (λ j x here is.
    let place = (called p pool n v there).apart j i x m here at ((bytes_eq-Decides x.id.full_name m.id.full_name).0 is) in
    let same : Some x ≡ Some m = sym here ∙ ap (slice_get v.methods) place ∙ at in
    cc)
