-- Each declaration of a pool names what its item holds.
use Rattle.std.proofs.Common.{◌≡◌, ℕ, ℤ, IsOk, Option, None, Some, List, [], ◌∷◌, length, map, drop, refl, subst, sym, ◌∙◌}
use Rattle.std.specs.FinMap as finite
use Rattle.std.specs.List.{AllByRecursion, AllZip, flat_map, slice_get}
use Rattle.std.specs.Option.{IsSomeAnd, option_map, option_or}
use Rattle.proto_types.specs.Computed.{literals}
use Rattle.proto_types.specs.declared.file.FileDescriptorProto.{FileDescriptorProto}
use Rattle.proto_types.specs.declared.message.DescriptorProto.{DescriptorProto, DescriptorProto', out-DescriptorProto}
use Rattle.proto_types.specs.declared.records.field.FieldDescriptorProto.{FieldDescriptorProto}
use Rattle.proto_types.specs.declared.records.service.MethodDescriptorProto.{MethodDescriptorProto}
use Rattle.pool_types.specs.Contents.{ByText, Contents, files_of, no_contents}
use Rattle.pool_types.specs.declared.kinds.KindIndex.{KindIndex}
use Rattle.pool_types.specs.declared.kinds.KindIndex.TheVariants as index
use Rattle.pool_types.specs.declared.contents.definition.Definition.{Definition}
use Rattle.pool_types.specs.declared.contents.definition.DefinitionKind.{DefinitionKind}
use Rattle.pool_types.specs.declared.contents.definition.DefinitionKind.TheVariants as definition
use Rattle.pool_types.specs.declared.contents.extension.ExtensionDescriptorInner.{ExtensionDescriptorInner}
use Rattle.pool_types.specs.declared.contents.field.FieldDescriptorInner.{FieldDescriptorInner}
use Rattle.pool_types.specs.declared.contents.message.MessageDescriptorInner.{MessageDescriptorInner}
use Rattle.pool_types.specs.declared.contents.service.MethodDescriptorInner.{MethodDescriptorInner}
use Rattle.pool_types.specs.declared.contents.service.ServiceDescriptorInner.{ServiceDescriptorInner}
use Rattle.name_tables.specs.Entries.{Entry, first_of, names_with}
use Rattle.name_tables.proofs.Entries.{get-with}
use Rattle.name_pass.specs.Names.{entries}
use Rattle.record_walk.specs.Changed.{Changes, changed, changed_fields, changed_message, changed_methods}
use Rattle.record_walk.specs.Counts.{counts_in, no_counts}
use Rattle.record_walk.specs.Declarations.{declarations}
use Rattle.record_walk.specs.Fits.{counts_with}
use Rattle.record_walk.specs.Protos.{Proto, of_file, of_message, of_field, of_oneof, of_service, of_method, of_enum, of_value, of_extension}
use Rattle.record_walk.specs.Shown.{Shown, inside}
use Rattle.reference_pass.specs.Items.{extension_item, field_items, method_items, message_items, service_items, extension_items}
use Rattle.reference_pass.specs.Linked.{linked_extension, linked_method, linking}
use Rattle.reference_pass.specs.Linking.{HasItem, lists_in}
use Rattle.reference_pass.specs.SecondPass.{owner_faults}
use Rattle.reference_pass.specs.Setting.{Setting}
use Rattle.reference_pass.proofs.Owners.{owners-tell}
use Rattle.pool_contents.specs.Extended.{extended_by}
use Rattle.descriptor_pool.specs.Invariant.{IsPool}
use Rattle.descriptor_pool.specs.Build.{declared_with, with_batch, reference_faults, setting_with, with_items, with_names}
use Rattle.descriptor_pool.specs.Pool.{Made, empty, linked_to, new_files}
use Rattle.descriptor_pool.specs.References.{AllNamed, ExtensionNames, FieldNames, MethodNames, NamesKind, NamesOwn, NamesType}
use Rattle.descriptor_pool.proofs.Declared.{declared-linked}
use Rattle.descriptor_pool.proofs.Definitions.{extension-named, fields-named, methods-named}
use Rattle.descriptor_pool.proofs.NamedItems.{get-before, get-each, linked-items-are}
use Rattle.descriptor_pool.proofs.Resolved.{all-append}
use Rattle.reference_pass.proofs.Unbroken.{both-empty, owners-apart}
use Rattle.descriptor_pool.proofs.Sound.{Known, made-sound}

-- an item by what it has
item-has : {X Y : Type 0} (f : X → Y) (P : Y → Type 0) (got : Option X) (y : Y) → option_map f got ≡ Some y → P y → IsSomeAnd got (λ x. P (f x))
item-has f P None y is has = absurd (cc)
item-has f P (Some x) y is has = let same : y ≡ f x = cc in subst P same has

-- the fields of a linked message
linked-fields : (c : Changes) (file : ℕ) (name : List ℕ) (m : DescriptorProto)
    → (out-DescriptorProto (changed_message c file name m)).field ≡ changed_fields c.field file name (out-DescriptorProto m).field
unfolding literals
linked-fields c file name (DescriptorProto' own fields n nested enums ranges extensions options oneofs reserved reserved_names) = refl

-- declarations that break nothing, and have their items, are linked so that they name what these hold
module _ (p : Contents) (s : Setting) (names : s.names ≡ p.names) where
  one-named : (file : ℕ) (parent : Option ℕ) (index : ℕ) (path : List ℤ) (full_name : List ℕ) (proto : Proto)
      → let d : Shown = record { file = file; parent = parent; index = index; path = path; full_name = full_name; proto = proto } in
      HasItem s (lists_in p) d → owner_faults s [] d ≡ [] → NamesOwn p (changed (linking s) d)
  one-named file parent index path full_name (of_message m) has none =
      let d : Shown = record { file = file; parent = parent; index = index; path = path; full_name = full_name; proto = of_message m } in
      let parts = out-DescriptorProto m in
      let items = field_items s parts.oneof_decl (inside d) parts.field in
      let new = (out-DescriptorProto (changed_message (linking s) file full_name m)).field in
      let named = fields-named s (d, m) parts.oneof_decl 0 parts.field none in
      let after = subst (λ (fs : List FieldDescriptorProto). AllZip (FieldNames s.names) items fs) (sym (linked-fields (linking s) file full_name m)) named in
      item-has (λ (item : MessageDescriptorInner). item.fields) (λ held. AllZip (FieldNames p.names) held new)
      (slice_get p.messages index) items has (subst (λ (known : ByText Definition). AllZip (FieldNames known) items new) names after)
  one-named file parent index path full_name (of_service v) has none =
      let d : Shown = record { file = file; parent = parent; index = index; path = path; full_name = full_name; proto = of_service v } in
      let items = method_items s (inside d) v.method in
      let new = changed_methods (linked_method s) file full_name v.method in
      let named = methods-named s (inside d) 0 v.method none in
      item-has (λ (item : ServiceDescriptorInner). item.methods) (λ held. AllZip (MethodNames p.names) held new)
      (slice_get p.services index) items has (subst (λ (known : ByText Definition). AllZip (MethodNames known) items new) names named)
  one-named file parent index path full_name (of_extension x) has none =
      let d : Shown = record { file = file; parent = parent; index = index; path = path; full_name = full_name; proto = of_extension x } in
      let new = linked_extension s file full_name x in
      let named = extension-named s d x none in
      subst (λ (got : Option ExtensionDescriptorInner). IsSomeAnd got (λ item. ExtensionNames p.names item new)) (sym has)
      (subst (λ (known : ByText Definition). ExtensionNames known (extension_item s d x) new) names named)
  one-named file parent index path full_name (of_file f) has none = tt
  one-named file parent index path full_name (of_field f) has none = tt
  one-named file parent index path full_name (of_oneof o) has none = tt
  one-named file parent index path full_name (of_method m) has none = tt
  one-named file parent index path full_name (of_enum e) has none = tt
  one-named file parent index path full_name (of_value v) has none = tt

  each-named : (ds : List Shown) → AllByRecursion (HasItem s (lists_in p)) ds → flat_map (owner_faults s []) ds ≡ [] → AllByRecursion (NamesOwn p) (map (changed (linking s)) ds)
  each-named [] has none = tt
  each-named (d ∷ ds) has none =
      let both = both-empty (owner_faults s [] d) (flat_map (owner_faults s []) ds) none in
      (one-named d.file d.parent d.index d.path d.full_name d.proto has.0 both.0, each-named ds has.1 both.1)

-- what names mean stays behind further entries
module _ (known : ByText Definition) (more : List Entry) where
  first-stays : (P : Definition → Type 0) (a b : Option Definition) → IsSomeAnd a P → IsSomeAnd (option_or a b) P
  first-stays P None b has = absurd has
  first-stays P (Some def) b has = has

  kind-stays : (kind : DefinitionKind) (text : List ℕ) → NamesKind known kind text → NamesKind (names_with known more) kind text
  kind-stays kind text named =
      let IsKind : Definition → Type 0 = λ def. def.kind ≡ kind in (
        named.0,
        named.1,
        subst (λ got. IsSomeAnd got IsKind) (sym (get-with known more named.0)) (first-stays IsKind (finite.get known named.0) (first_of more named.0) named.2),
      )

  type-stays : (kind : KindIndex) (text : List ℕ) → NamesType known kind text → NamesType (names_with known more) kind text
  type-stays (index.Message n) text named = kind-stays (definition.Message n) text named
  type-stays (index.Group n) text named = kind-stays (definition.Message n) text named
  type-stays (index.Enum n) text named = kind-stays (definition.Enum n) text named
  type-stays _ text named = named

  fields-stay : (items : List FieldDescriptorInner) (fs : List FieldDescriptorProto) → AllZip (FieldNames known) items fs → AllZip (FieldNames (names_with known more)) items fs
  fields-stay [] [] named = tt
  fields-stay [] (f ∷ fs) named = absurd named
  fields-stay (item ∷ items) [] named = absurd named
  fields-stay (item ∷ items) (f ∷ fs) named = (type-stays item.kind _ named.0, fields-stay items fs named.1)

  methods-stay : (items : List MethodDescriptorInner) (ms : List MethodDescriptorProto) → AllZip (MethodNames known) items ms → AllZip (MethodNames (names_with known more)) items ms
  methods-stay [] [] named = tt
  methods-stay [] (m ∷ ms) named = absurd named
  methods-stay (item ∷ items) [] named = absurd named
  methods-stay (item ∷ items) (m ∷ ms) named = (
    record { input = kind-stays (definition.Message item.input) _ named.0.input; output = kind-stays (definition.Message item.output) _ named.0.output },
    methods-stay items ms named.1,
  )

  extension-stays : (item : ExtensionDescriptorInner) (x : FieldDescriptorProto) → ExtensionNames known item x → ExtensionNames (names_with known more) item x
  extension-stays item x named = record { extendee = kind-stays (definition.Message item.extendee) _ named.extendee; type_ = type-stays item.kind _ named.type_ }

-- an item that stays, as far as this has it, has what follows of that
item-stays : {X Y : Type 0} (f : X → Y) (P Q : Y → Type 0) → ((y : Y) → P y → Q y) → (old now : Option X) → ((y : Y) → option_map f old ≡ Some y → option_map f now ≡ Some y)
    → IsSomeAnd old (λ x. P (f x)) → IsSomeAnd now (λ x. Q (f x))
item-stays f P Q follows None now stays has = absurd has
item-stays f P Q follows (Some x) now stays has = item-has f Q now (f x) (stays (f x) refl) (follows (f x) has)

module _ (q : Contents) (new : List FileDescriptorProto) where
  abbrev p : Contents
  p = with_batch q new

  abbrev s : Setting
  s = setting_with q new

  abbrev ds : List Shown
  ds = declared_with q new

  abbrev items : Contents
  items = with_items (with_names q ds) s ds

  abbrev more : List Entry
  more = entries ds

  -- a declaration of earlier files names what its item holds
  one-stays : (file : ℕ) (parent : Option ℕ) (index : ℕ) (path : List ℤ) (full_name : List ℕ) (proto : Proto)
      → let d : Shown = record { file = file; parent = parent; index = index; path = path; full_name = full_name; proto = proto } in
      NamesOwn q d → NamesOwn p d
  one-stays file parent index path full_name (of_message m) named =
      let fs = (out-DescriptorProto m).field in
      let fields = λ (item : MessageDescriptorInner). item.fields in
      item-stays fields (λ held. AllZip (FieldNames q.names) held fs) (λ held. AllZip (FieldNames p.names) held fs) (λ held. fields-stay q.names more held fs)
      (slice_get q.messages index) (slice_get p.messages index)
      (λ held got. get-each fields (extended_by (length q.extensions) (drop (length q.extensions) items.extensions)) (λ n item. refl) 0 items.messages index
      ∙ get-before fields q.messages (message_items s ds) index held got) named
  one-stays file parent index path full_name (of_service v) named =
      let methods = λ (item : ServiceDescriptorInner). item.methods in
      item-stays methods (λ held. AllZip (MethodNames q.names) held v.method) (λ held. AllZip (MethodNames p.names) held v.method) (λ held. methods-stay q.names more held v.method)
      (slice_get q.services index) (slice_get p.services index)
      (λ held got. get-before methods q.services (service_items s ds) index held got) named
  one-stays file parent index path full_name (of_extension x) named =
      let own = λ (item : ExtensionDescriptorInner). item in
      item-stays own (λ item. ExtensionNames q.names item x) (λ item. ExtensionNames p.names item x) (λ item. extension-stays q.names more item x)
      (slice_get q.extensions index) (slice_get p.extensions index)
      (λ held got. get-before own q.extensions (extension_items s ds) index held got) named
  one-stays file parent index path full_name (of_file f) named = tt
  one-stays file parent index path full_name (of_field f) named = tt
  one-stays file parent index path full_name (of_oneof o) named = tt
  one-stays file parent index path full_name (of_method m) named = tt
  one-stays file parent index path full_name (of_enum e) named = tt
  one-stays file parent index path full_name (of_value v) named = tt

  each-stays : (ds : List Shown) → AllByRecursion (NamesOwn q) ds → AllByRecursion (NamesOwn p) ds
  each-stays [] named = tt
  each-stays (d ∷ ds) named = (one-stays d.file d.parent d.index d.path d.full_name d.proto named.0, each-stays ds named.1)

  -- and so do those of new files that fit and break nothing
  link-named : Made q → Known q → IsOk (counts_with (counts_in q) new) → reference_faults q new ≡ [] → AllNamed q → AllNamed p
  link-named made known fits none named =
      let came = each-named p s refl ds (linked-items-are q made new fits).items (owners-apart s q.extensions ds (sym (owners-tell s q.extensions (counts_in q) new) ∙ none)).0 in
      subst (AllByRecursion (NamesOwn p)) (sym (declared-linked (with_names q ds) new known.counts_are s))
      (all-append (NamesOwn p) (declarations no_counts (files_of q)) (map (changed (linking s)) ds) (each-stays (declarations no_counts (files_of q)) named) came)

made-named : (p : Contents) → Made p → AllNamed p
made-named p (empty is) = let nothing : AllNamed no_contents = tt in subst AllNamed (sym is) nothing
made-named p (linked_to {q = q} batch made accepts fits is) =
    subst AllNamed (sym is) (link-named q (new_files q batch) made (made-sound q made).known fits accepts.1 (made-named q made))

-- each declaration of a pool names what its item holds
pub all_named : (p : Contents) → IsPool p → AllNamed p
all_named p pool = made-named p pool.made
