-- Records that are linked by their items are linked as their setting says.
use Rattle.std.proofs.Common.{◌≡◌, ◌<◌, ◌≤◌, ◌+◌, ℕ, ℤ, pos, zero, suc, Bool, true, Option, None, Some, List, [], ◌∷◌, ◌++◌, length, map, take, drop, get_or, set, unwrap_or, refl, ap, subst, sym, ◌∙◌, add-one, append-nil, arith}
use Rattle.std.proofs.Math.Seq.{drop-cons}
use Rattle.std.proofs.lemmas.List.{take_all, drop_all}
use Rattle.std.proofs.lemmas.Option.{slice_get_past}
use Rattle.std.specs.FinMap as finite
use Rattle.std.specs.List.{AllByRecursion, slice_get}
use Rattle.std.specs.Option.{IfSome, option_and_then, option_map, option_map_or, option_or}
use Rattle.std.specs.BTreeSet.{contains_by}
use Rattle.std.specs.Ordering.{nat_cmp}
use Rattle.proto_types.specs.Names.{join}
use Rattle.proto_types.specs.Readers.{text_of, type_of}
use Rattle.proto_types.specs.declared.tag.file.TheConstants as file
use Rattle.proto_types.specs.declared.tag.message.TheConstants as message
use Rattle.proto_types.specs.declared.records.field.FieldDescriptorProto.{FieldDescriptorProto}
use Rattle.proto_types.specs.declared.records.field.FieldType.{FieldType}
use Rattle.proto_types.specs.declared.records.field.FieldType.TheVariants as written
use Rattle.proto_types.specs.declared.records.enumeration.EnumDescriptorProto.{EnumDescriptorProto}
use Rattle.proto_types.specs.declared.records.service.MethodDescriptorProto.{MethodDescriptorProto}
use Rattle.proto_types.specs.declared.records.service.ServiceDescriptorProto.{ServiceDescriptorProto}
use Rattle.proto_types.specs.declared.file.FileDescriptorProto.{FileDescriptorProto}
use Rattle.proto_types.specs.declared.message.DescriptorProto.{DescriptorProto, out-DescriptorProto, roll-DescriptorProto}
use Rattle.proto_types.specs.declared.message.OneofDescriptorProto.{OneofDescriptorProto}
use Rattle.pool_types.specs.declared.kinds.KindIndex.{KindIndex}
use Rattle.pool_types.specs.declared.kinds.KindIndex.TheVariants.{Double}
use Rattle.pool_types.specs.declared.contents.definition.Definition.{Definition}
use Rattle.pool_types.specs.declared.contents.definition.DefinitionKind.{DefinitionKind}
use Rattle.pool_types.specs.declared.contents.definition.DefinitionKind.TheVariants as definition
use Rattle.pool_types.specs.declared.contents.extension.ExtensionDescriptorInner.{ExtensionDescriptorInner}
use Rattle.pool_types.specs.declared.contents.field.FieldDescriptorInner.{FieldDescriptorInner}
use Rattle.pool_types.specs.declared.contents.file.FileDescriptorInner.{FileDescriptorInner}
use Rattle.pool_types.specs.declared.contents.message.MessageDescriptorInner.{MessageDescriptorInner}
use Rattle.pool_types.specs.declared.contents.service.MethodDescriptorInner.{MethodDescriptorInner}
use Rattle.pool_types.specs.declared.contents.service.ServiceDescriptorInner.{ServiceDescriptorInner}
use Rattle.record_walk.specs.declared.counts.Counts.{Counts}
use Rattle.record_walk.specs.Changed.{changed_fields, changed_methods, changed_message, changed_service}
use Rattle.record_walk.specs.Counts.{count_limit, counted, counting}
use Rattle.record_walk.specs.Declarations.{declarations, in_file, enum_walk, enums_walk, file_walk, message_front, message_walk, messages_walk, service_walk, services_walk}
use Rattle.record_walk.specs.Protos.{Proto, of_file, of_message, of_field, of_oneof, of_service, of_method, of_enum, of_value, of_extension}
use Rattle.record_walk.specs.Shown.{Shown, Surrounding, file_shown, inside, row, shown}
use Rattle.record_walk.proofs.Changed.{changed-message-is}
use Rattle.record_walk.proofs.Counted.{counted-append}
use Rattle.record_walk.proofs.Paths.{one-file}
use Rattle.record_walk.proofs.Leading.{message-walk-opens}
use Rattle.record_walk.proofs.Turns.{counted-enum, counted-front, counted-service, services-keep}
use Rattle.name_resolution.specs.declared.filter.ResolveNameFilter.TheVariants.{Message, FieldType as AnyType}
use Rattle.name_resolution.specs.Filter.{is_match}
use Rattle.pool_types.specs.Kinds.{named_kind, simple_kind}
use Rattle.name_resolution.specs.Resolution.{Resolution, found, invalid_type, not_imported, shadowed, not_found, kind_found}
use Rattle.name_resolution.proofs.Found.{IsNamed, resolution-named, IsWanted, resolution-wanted}
use Rattle.plain_data.specs.Each.{map_enumerated}
use Rattle.record_walk.specs.Place.{field_at}
use Rattle.reference_pass.specs.Linked.{linked, linked_extension, linked_field, linked_method, linking, resolved, type_number, typed}
use Rattle.reference_pass.specs.Setting.{Setting, seen_by}
use Rattle.reference_pass.specs.Types.{field_kind, resolve_type}
use Rattle.reference_pass.specs.Items.{extension_item, field_item, field_items, method_item, method_items}
use Rattle.reference_pass.specs.References.{message_found, resolve_message, method_at, index_or_max}
use Rattle.reference_pass.specs.declared.linking.NextItems.{NextItems}
use Rattle.reference_pass.specs.Linking.{ItemLists, HasItem, IsNamedBy, ItemsAre, Links, LinksFields, LinksFile, LinksFiles, LinksMethods, NamesMeanItems, enum_name, kind_name, kind_number, linked_item, message_name, method_by, next_of, reference_by, typed_by, with_type}

-- a type that is a message, and one that is an enum
found-message : (it : ItemLists) (name : List ℕ) (n : ℕ) (w : FieldType) (f : FieldDescriptorProto) → message_name it n ≡ Some name
    → let kind = unwrap_or (named_kind w (definition.Message n)) Double in
    with_type (kind_name it kind) (kind_number w kind f.type_) f ≡ record f { type_name = Some (46 ∷ name); type_ = type_number w (definition.Message n) f.type_ }
found-message it name n written.Group f named = ap (λ got. with_type got f.type_ f) named
found-message it name n _ f named = ap (λ got. with_type got (Some (pos 11)) f) named

found-enum : (it : ItemLists) (name : List ℕ) (n : ℕ) (w : FieldType) (f : FieldDescriptorProto) → enum_name it n ≡ Some name
    → let kind = unwrap_or (named_kind w (definition.Enum n)) Double in
    with_type (kind_name it kind) (kind_number w kind f.type_) f ≡ record f { type_name = Some (46 ∷ name); type_ = type_number w (definition.Enum n) f.type_ }
found-enum it name n written.Group f named = ap (λ got. with_type got f.type_ f) named
found-enum it name n _ f named = ap (λ got. with_type got (Some (pos 14)) f) named

-- a type that a field may have
found-kind : (it : ItemLists) (name : List ℕ) (kind : DefinitionKind) (f : FieldDescriptorProto) → is_match AnyType kind ≡ true → IsNamedBy it name kind
    → let k = unwrap_or (named_kind (type_of f.type_) kind) Double in
    with_type (kind_name it k) (kind_number (type_of f.type_) k f.type_) f ≡ record f { type_name = Some (46 ∷ name); type_ = type_number (type_of f.type_) kind f.type_ }
found-kind it name (definition.Message n) f wanted named = found-message it name n (type_of f.type_) f named
found-kind it name (definition.Enum n) f wanted named = found-enum it name n (type_of f.type_) f named
found-kind it name definition.Package f wanted named = absurd (cc)
found-kind it name (definition.Field n) f wanted named = absurd (cc)
found-kind it name (definition.Oneof n) f wanted named = absurd (cc)
found-kind it name (definition.Service n) f wanted named = absurd (cc)
found-kind it name (definition.Method n) f wanted named = absurd (cc)
found-kind it name (definition.EnumValue n) f wanted named = absurd (cc)
found-kind it name (definition.Extension n) f wanted named = absurd (cc)

-- what a name means has that name
abbrev MeansItem : ItemLists → List ℕ → Definition → Type 0
MeansItem it name def = IsNamedBy it name def.kind

found-named : (s : Setting) (it : ItemLists) (name : List ℕ) (def : Definition) → NamesMeanItems s it → finite.get s.names name ≡ Some def → IsNamedBy it name def.kind
found-named s it name def means is = subst (λ got. IfSome got (MeansItem it name)) is (means.named name)

-- the type of a field, by what its type name means
found-type : (s : Setting) (it : ItemLists) (f : FieldDescriptorProto) (r : Resolution) → NamesMeanItems s it → IsNamed s.names r → IsWanted AnyType r
    → let k = unwrap_or (option_and_then (named_kind (type_of f.type_)) (kind_found r)) Double in
    with_type (kind_name it k) (kind_number (type_of f.type_) k f.type_) f ≡ typed r f
found-type s it f (found name def) means named wanted = found-kind it name def.kind f wanted (found-named s it name def means named)
found-type s it f (invalid_type name def filter) means named wanted = refl
found-type s it f (not_imported name other) means named wanted = refl
found-type s it f (shadowed name other) means named wanted = refl
found-type s it f not_found means named wanted = refl

module _ (s : Setting) (it : ItemLists) (means : NamesMeanItems s it) (d : Shown) where
  abbrev seen : ℕ → Bool
  seen n = contains_by (nat_cmp n) (seen_by s d.file)

  by-text : (f : FieldDescriptorProto) (text : List ℕ)
      → let k = unwrap_or (elim text [ [] ↦ simple_kind (type_of f.type_) | _ ∷ _ ↦ option_and_then (named_kind (type_of f.type_)) (kind_found (resolve_type s d f)) ]) Double in
      let by : FieldDescriptorProto = elim text [ [] ↦ f | _ ∷ _ ↦ with_type (kind_name it k) (kind_number (type_of f.type_) k f.type_) f ] in
      let to : FieldDescriptorProto = elim text [ [] ↦ f | _ ∷ _ ↦ typed (resolve_type s d f) f ] in
      by ≡ to
  by-text f [] = refl
  by-text f (c ∷ cs) =
      found-type s it f (resolve_type s d f) means (resolution-named s.names seen AnyType d.full_name (text_of f.type_name)) (resolution-wanted s.names seen AnyType d.full_name (text_of f.type_name))

  -- a field by the kind of its item
  pub type-linked : (f : FieldDescriptorProto) → typed_by it (unwrap_or (field_kind s d f) Double) f ≡ linked_field s d.file d.full_name f
  type-linked f = by-text f (text_of f.type_name)

  -- the largest number is that of no message
  missing : (given : Option (List ℕ)) → reference_by it count_limit given ≡ given
  missing given = ap (λ (got : Option MessageDescriptorInner). option_or (option_map (λ name. 46 ∷ name) (option_map (λ m. m.id.full_name) got)) given) (slice_get_past it.messages count_limit means.messages)

  reference-kind : (name : List ℕ) (kind : DefinitionKind) (given : Option (List ℕ)) (file : ℕ) (path : List ℤ) → is_match Message kind ≡ true → IsNamedBy it name kind
      → let def : Definition = record { file = file; path = path; kind = kind } in
      reference_by it (index_or_max (message_found (found name def))) given ≡ Some (46 ∷ name)
  reference-kind name (definition.Message n) given file path wanted named = ap (λ got. option_or (option_map (λ name. 46 ∷ name) got) given) named
  reference-kind name (definition.Enum n) given file path wanted named = absurd (cc)
  reference-kind name definition.Package given file path wanted named = absurd (cc)
  reference-kind name (definition.Field n) given file path wanted named = absurd (cc)
  reference-kind name (definition.Oneof n) given file path wanted named = absurd (cc)
  reference-kind name (definition.Service n) given file path wanted named = absurd (cc)
  reference-kind name (definition.Method n) given file path wanted named = absurd (cc)
  reference-kind name (definition.EnumValue n) given file path wanted named = absurd (cc)
  reference-kind name (definition.Extension n) given file path wanted named = absurd (cc)

  found-reference : (given : Option (List ℕ)) (r : Resolution) → IsNamed s.names r → IsWanted Message r
      → reference_by it (index_or_max (message_found r)) given ≡ resolved r given
  found-reference given (found name def) named wanted = reference-kind name def.kind given def.file def.path wanted (found-named s it name def means named)
  found-reference given (invalid_type name def filter) named wanted = missing given
  found-reference given (not_imported name other) named wanted = missing given
  found-reference given (shadowed name other) named wanted = missing given
  found-reference given not_found named wanted = missing given

  -- a reference to a message by the index that its item has
  pub reference-linked : (given : Option (List ℕ)) → reference_by it (index_or_max (message_found (resolve_message s d given))) given ≡ resolved (resolve_message s d given) given
  reference-linked given =
      found-reference given (resolve_message s d given) (resolution-named s.names seen Message d.full_name (text_of given)) (resolution-wanted s.names seen Message d.full_name (text_of given))

-- the item in a position of those that are made of a list
each-get : {X Y : Type 0} (make : ℕ → X → Y) (from : ℕ) (xs : List X) (n : ℕ) (d : X) → n < length xs → slice_get (map_enumerated make from xs) n ≡ Some (make (from + n) (get_or xs n d))
each-get make from [] n d within = absurd (omega (arith, within))
each-get make from (x ∷ xs) zero d within = let here : from ≡ from + 0 = omega arith in ap (λ k. Some (make k x)) here
each-get make from (x ∷ xs) (suc n) d within =
    let there : suc from + n ≡ from + suc n = omega arith in
    each-get make (suc from) xs n d (omega (arith, within)) ∙ ap (λ k. Some (make k (get_or xs n d))) there

each-here : {X Y : Type 0} (make : ℕ → X → Y) (xs : List X) (n : ℕ) (d : X) → n < length xs → slice_get (map_enumerated make 0 xs) n ≡ Some (make n (get_or xs n d))
each-here make xs n d within = let here : 0 + n ≡ n = omega arith in each-get make 0 xs n d within ∙ ap (λ k. Some (make k (get_or xs n d))) here

-- one more of a list is changed where it stands
set-suc : {X : Type 0} (f : X → X) (xs : List X) (i : ℕ) (w d : X) → i < length xs → w ≡ get_or (map f (take i xs) ++ drop i xs) i d
    → set (map f (take i xs) ++ drop i xs) i (f w) ≡ map f (take (suc i) xs) ++ drop (suc i) xs
set-suc f [] i w d within is = absurd (omega (arith, within))
set-suc f (x ∷ xs) zero w d within is = ap (λ y. f y ∷ xs) is
set-suc f (x ∷ xs) (suc n) w d within is = ap (λ ys. f x ∷ ys) (set-suc f xs n w d (omega (arith, within)) is)

set-next : {X : Type 0} (f : X → X) (xs ys : List X) (i : ℕ) (y d : X) → i < length xs → ys ≡ map f (take i xs) ++ drop i xs → y ≡ f (get_or ys i d)
    → set ys i y ≡ map f (take (i + 1) xs) ++ drop (i + 1) xs
set-next f xs ys i y d within so-far is =
    rw add-one ((λ j. set (so-far j) i (is j)) ∙ set-suc f xs i (get_or ys i d) d within (ap (λ zs. get_or zs i d) so-far))

-- it is there as it was
next-kept : {X : Type 0} (f : X → X) (xs : List X) (i : ℕ) (d : X) → i < length xs → get_or (map f (take i xs) ++ drop i xs) i d ≡ get_or xs i d
next-kept f [] i d within = absurd (omega (arith, within))
next-kept f (x ∷ xs) zero d within = refl
next-kept f (x ∷ xs) (suc n) d within = next-kept f xs n d (omega (arith, within))

-- all of a list are changed
all-changed : {X : Type 0} (f : X → X) (xs ys : List X) (i : ℕ) → ys ≡ map f (take i xs) ++ drop i xs → length xs ≤ i → ys ≡ map f xs
all-changed f xs ys i so-far past =
    so-far ∙ (λ j. map f (take_all i xs past j) ++ drop_all i xs past j) ∙ append-nil (map f xs)

-- a list of which each item was changed through a borrow
restored-map : {X : Type 0} (f : X → X) (xs : List X) → take (length xs) (map f xs ++ drop (length (map f xs)) xs) ≡ map f xs
restored-map f [] = refl
restored-map f (x ∷ xs) = ap (λ ys. f x ∷ ys) (restored-map f xs)

restored : {X : Type 0} (f : X → X) (xs ys : List X) → ys ≡ map f xs → take (length xs) (ys ++ drop (length ys) xs) ≡ map f xs
restored f xs ys is = (λ j. take (length xs) (is j ++ drop (length (is j)) xs)) ∙ restored-map f xs

-- so many fields of a list are linked by their items
pub record FieldsSoFar (it : ItemLists) (items : List FieldDescriptorInner) (old : List FieldDescriptorProto) (n : ℕ) (fs : List FieldDescriptorProto) : Type 0 where
  pub by : (s : Setting) (here : Surrounding) (oneofs : List OneofDescriptorProto) → NamesMeanItems s it
      → items ≡ field_items s oneofs here old → fs ≡ changed_fields (linked_field s) here.file here.scope (take n old) ++ drop n old

pub fields-more : (it : ItemLists) (items : List FieldDescriptorInner) (old : List FieldDescriptorProto) (n : ℕ) (fs : List FieldDescriptorProto) (y d : FieldDescriptorProto)
    → FieldsSoFar it items old n fs → n < length old
    → y ≡ option_map_or (λ item. typed_by it item.kind (get_or fs n d)) (slice_get items n) (get_or fs n d) → FieldsSoFar it items old (n + 1) (set fs n y)
fields-more it items old n fs y d so-far within is = record {
  by = λ s here oneofs means items-are.
      let f = get_or old n d in
      let change = λ (g : FieldDescriptorProto). linked_field s here.file (join here.scope (text_of g.name)) g in
      let was = so-far.by s here oneofs means items-are in
      let same : get_or fs n d ≡ f = ap (λ gs. get_or gs n d) was ∙ next-kept change old n d within in
      let item : slice_get items n ≡ Some (field_item s oneofs (field_at here n f) f) =
      ap (λ xs. slice_get xs n) items-are ∙ each-here (λ i g. field_item s oneofs (field_at here i g) g) old n d within in
      set-next change old fs n y d within was
      (is ∙ (λ j. option_map_or (λ (item : FieldDescriptorInner). typed_by it item.kind (same j)) (item j) (same j))
      ∙ type-linked s it means (field_at here n f) f ∙ sym (ap change same));
}

pub fields-none : (it : ItemLists) (items : List FieldDescriptorInner) (old : List FieldDescriptorProto) → FieldsSoFar it items old 0 old
fields-none it items old = record { by = λ s here oneofs means items-are. refl }

pub fields-all : (it : ItemLists) (items : List FieldDescriptorInner) (old : List FieldDescriptorProto) (n : ℕ) (fs : List FieldDescriptorProto)
    → FieldsSoFar it items old n fs → length old ≤ n → LinksFields it items old fs
fields-all it items old n fs so-far past = record {
  by = λ s here oneofs means items-are.
      all-changed (λ (g : FieldDescriptorProto). linked_field s here.file (join here.scope (text_of g.name)) g) old fs n (so-far.by s here oneofs means items-are) past;
}

-- and so many methods
pub record MethodsSoFar (it : ItemLists) (items : List MethodDescriptorInner) (old : List MethodDescriptorProto) (n : ℕ) (ms : List MethodDescriptorProto) : Type 0 where
  pub by : (s : Setting) (here : Surrounding) → NamesMeanItems s it
      → items ≡ method_items s here old → ms ≡ changed_methods (linked_method s) here.file here.scope (take n old) ++ drop n old

pub methods-more : (it : ItemLists) (items : List MethodDescriptorInner) (old : List MethodDescriptorProto) (n : ℕ) (ms : List MethodDescriptorProto) (y d : MethodDescriptorProto)
    → MethodsSoFar it items old n ms → n < length old
    → y ≡ option_map_or (λ item. method_by it item (get_or ms n d)) (slice_get items n) (get_or ms n d) → MethodsSoFar it items old (n + 1) (set ms n y)
methods-more it items old n ms y d so-far within is = record {
  by = λ s here means items-are.
      let m = get_or old n d in
      let at = method_at here n m in
      let change = λ (k : MethodDescriptorProto). linked_method s here.file (join here.scope (text_of k.name)) k in
      let was = so-far.by s here means items-are in
      let same : get_or ms n d ≡ m = ap (λ ks. get_or ks n d) was ∙ next-kept change old n d within in
      let item : slice_get items n ≡ Some (method_item s at m) =
      ap (λ xs. slice_get xs n) items-are ∙ each-here (λ i k. method_item s (method_at here i k) k) old n d within in
      set-next change old ms n y d within was
      (is ∙ (λ j. option_map_or (λ (item : MethodDescriptorInner). method_by it item (same j)) (item j) (same j))
      ∙ (λ j. record m { input_type = reference-linked s it means at m.input_type j; output_type = reference-linked s it means at m.output_type j })
      ∙ sym (ap change same));
}

pub methods-none : (it : ItemLists) (items : List MethodDescriptorInner) (old : List MethodDescriptorProto) → MethodsSoFar it items old 0 old
methods-none it items old = record { by = λ s here means items-are. refl }

pub methods-all : (it : ItemLists) (items : List MethodDescriptorInner) (old : List MethodDescriptorProto) (n : ℕ) (ms : List MethodDescriptorProto)
    → MethodsSoFar it items old n ms → length old ≤ n → LinksMethods it items old ms
methods-all it items old n ms so-far past = record {
  by = λ s here means items-are.
      all-changed (λ (k : MethodDescriptorProto). linked_method s here.file (join here.scope (text_of k.name)) k) old ms n (so-far.by s here means items-are) past;
}

-- the items of declarations are those of the first and of the rest
all-front : {X : Type 0} (P : X → Type 0) (xs ys : List X) → AllByRecursion P (xs ++ ys) → AllByRecursion P xs
all-front P [] ys all = tt
all-front P (x ∷ xs) ys all = (all.0, all-front P xs ys all.1)

all-rest : {X : Type 0} (P : X → Type 0) (xs ys : List X) → AllByRecursion P (xs ++ ys) → AllByRecursion P ys
all-rest P [] ys all = all
all-rest P (x ∷ xs) ys all = all-rest P xs ys all.1

items-front : {s : Setting} {it : ItemLists} (xs ys : List Shown) → ItemsAre s it (xs ++ ys) → ItemsAre s it xs
items-front {s} {it} xs ys are = record { names = are.names; items = all-front (HasItem s it) xs ys are.items }

items-rest : {s : Setting} {it : ItemLists} (xs ys : List Shown) → ItemsAre s it (xs ++ ys) → ItemsAre s it ys
items-rest {s} {it} xs ys are = record { names = are.names; items = all-rest (HasItem s it) xs ys are.items }

-- a list declares what its first declares, and then what the rest does, numbered on
pub record InTurn {X : Type 0} (one : Surrounding → ℤ → ℕ → Counts → X → List Shown) (all : Surrounding → ℤ → ℕ → Counts → List X → List Shown) : Type 0 where
  pub none : (here : Surrounding) (tag : ℤ) (position : ℕ) (base : Counts) → all here tag position base [] ≡ []
  pub more : (here : Surrounding) (tag : ℤ) (position : ℕ) (base : Counts) (x : X) (xs : List X)
      → all here tag position base (x ∷ xs) ≡ one here tag position base x ++ all here tag (suc position) (counted base (one here tag position base x)) xs

-- so many of a list are linked, and what the others declare has the next items
pub record Reached {X : Type 0} (all : ℕ → Counts → List X → List Shown) (change : X → X) (s : Setting) (it : ItemLists) (base : Counts) (now : NextItems) (old : List X) (n : ℕ) (xs : List X) : Type 0 where
  pub counts : Counts
  pub is : now ≡ next_of counts
  pub left : ItemsAre s it (all n counts (drop n old))
  pub ends : counted counts (all n counts (drop n old)) ≡ counted base (all 0 base old)
  pub changed : xs ≡ map change (take n old) ++ drop n old

pub record SoFar {X : Type 0} (all : Surrounding → ℤ → ℕ → Counts → List X → List Shown) (change : Setting → Surrounding → X → X) (it : ItemLists) (before now : NextItems) (old : List X) (n : ℕ) (xs : List X) : Type 0 where
  pub by : (s : Setting) (here : Surrounding) (tag : ℤ) (base : Counts) → before ≡ next_of base → ItemsAre s it (all here tag 0 base old)
      → Reached (all here tag) (change s here) s it base now old n xs

module _ {X : Type 0} (one : Surrounding → ℤ → ℕ → Counts → X → List Shown) (all : Surrounding → ℤ → ℕ → Counts → List X → List Shown) (change : Setting → Surrounding → X → X) (turns : InTurn one all) (it : ItemLists) (before : NextItems) (old : List X) where
  so-far-none : SoFar all change it before before old 0 old
  so-far-none = record { by = λ s here tag base is are. record { counts = base; is = is; left = are; ends = refl; changed = refl } }

  so-far-more : (now after : NextItems) (n : ℕ) (xs : List X) (y d : X) → SoFar all change it before now old n xs → n < length old
      → Links it now after (λ here tag position base. one here tag position base (get_or xs n d)) (λ s here. change s here (get_or xs n d)) y
      → SoFar all change it before after old (n + 1) (set xs n y)
  so-far-more now after n xs y d so-far within links = record {
    by = λ s here tag base is are.
        let was = so-far.by s here tag base is are in
        let x = get_or old n d in
        let same : get_or xs n d ≡ x = ap (λ zs. get_or zs n d) was.changed ∙ next-kept (change s here) old n d within in
        let first = one here tag n was.counts x in
        let rest = all here tag (n + 1) (counted was.counts first) (drop (n + 1) old) in
        let whole : all here tag n was.counts (drop n old) ≡ first ++ rest =
        ap (all here tag n was.counts) (drop-cons old n d within) ∙ turns.more here tag n was.counts x (drop (suc n) old)
        ∙ (λ j. first ++ all here tag (sym (add-one n) j) (counted was.counts first) (drop (sym (add-one n) j) old)) in
        let parted = subst (ItemsAre s it) whole was.left in
        let step = links.by s here tag n was.counts was.is (subst (λ z. ItemsAre s it (one here tag n was.counts z)) (sym same) (items-front first rest parted)) in
        record {
          counts = counted was.counts first;
          is = step.1 ∙ ap (λ z. next_of (counted was.counts (one here tag n was.counts z))) same;
          left = items-rest first rest parted;
          ends = sym (counted-append was.counts first rest) ∙ ap (counted was.counts) (sym whole) ∙ was.ends;
          changed = set-next (change s here) old xs n y d within was.changed step.0;
        };
  }

  so-far-all : (now : NextItems) (n : ℕ) (xs : List X) → SoFar all change it before now old n xs → length old ≤ n
      → Links it before now (λ here tag _ base. all here tag 0 base old) (λ s here. map (change s here) old) xs
  so-far-all now n xs so-far past = record {
    by = λ s here tag position base is are.
        let was = so-far.by s here tag base is are in
        let done : was.counts ≡ counted base (all here tag 0 base old) =
        sym (ap (counted was.counts) (ap (all here tag n was.counts) (drop_all n old past) ∙ turns.none here tag n was.counts)) ∙ was.ends in
        (all-changed (change s here) old xs n was.changed past, was.is ∙ ap next_of done);
  }

-- messages, services and extensions
abbrev pub linked_message_in : Setting → Surrounding → DescriptorProto → DescriptorProto
linked_message_in s here m = changed_message (linking s) here.file (join here.scope (text_of (out-DescriptorProto m).name)) m

abbrev pub linked_service_in : Setting → Surrounding → ServiceDescriptorProto → ServiceDescriptorProto
linked_service_in s here v = changed_service (linking s) here.file (join here.scope (text_of v.name)) v

abbrev pub linked_extension_in : Setting → Surrounding → FieldDescriptorProto → FieldDescriptorProto
linked_extension_in s here x = linked_extension s here.file (join here.scope (text_of x.name)) x

abbrev one_service : Surrounding → ℤ → ℕ → Counts → ServiceDescriptorProto → List Shown
one_service here tag position base v = service_walk here position base.services v

abbrev all_services : Surrounding → ℤ → ℕ → Counts → List ServiceDescriptorProto → List Shown
all_services here tag position base vs = services_walk here position base.services vs

abbrev one_extension : Surrounding → ℤ → ℕ → Counts → FieldDescriptorProto → List Shown
one_extension here tag position base x = shown here tag position base.extensions (of_extension x) ∷ []

abbrev all_extensions : Surrounding → ℤ → ℕ → Counts → List FieldDescriptorProto → List Shown
all_extensions here tag position base xs = row of_extension here tag position base.extensions xs

messages-turn : InTurn message_walk messages_walk
messages-turn = record { none = λ here tag position base. refl; more = λ here tag position base m ms. refl }

services-turn : InTurn one_service all_services
services-turn = record {
  none = λ here tag position base. refl;
  more = λ here tag position base v vs.
      ap (λ (c : Counts). service_walk here position base.services v ++ services_walk here (suc position) c.services vs) (sym (counted-service base here position base.services v));
}

extensions-turn : InTurn one_extension all_extensions
extensions-turn = record { none = λ here tag position base. refl; more = λ here tag position base x xs. refl }

abbrev pub MessagesSoFar : ItemLists → NextItems → NextItems → List DescriptorProto → ℕ → List DescriptorProto → Type 0
MessagesSoFar it before now old n xs = SoFar messages_walk linked_message_in it before now old n xs

abbrev pub ServicesSoFar : ItemLists → NextItems → NextItems → List ServiceDescriptorProto → ℕ → List ServiceDescriptorProto → Type 0
ServicesSoFar it before now old n xs = SoFar all_services linked_service_in it before now old n xs

abbrev pub ExtensionsSoFar : ItemLists → NextItems → NextItems → List FieldDescriptorProto → ℕ → List FieldDescriptorProto → Type 0
ExtensionsSoFar it before now old n xs = SoFar all_extensions linked_extension_in it before now old n xs

pub messages-none : (it : ItemLists) (before : NextItems) (old : List DescriptorProto) → MessagesSoFar it before before old 0 old
messages-none = so-far-none message_walk messages_walk linked_message_in messages-turn

pub services-none : (it : ItemLists) (before : NextItems) (old : List ServiceDescriptorProto) → ServicesSoFar it before before old 0 old
services-none = so-far-none one_service all_services linked_service_in services-turn

pub extensions-none : (it : ItemLists) (before : NextItems) (old : List FieldDescriptorProto) → ExtensionsSoFar it before before old 0 old
extensions-none = so-far-none one_extension all_extensions linked_extension_in extensions-turn

-- what linking says of one
abbrev pub LinksMessage : ItemLists → NextItems → NextItems → DescriptorProto → DescriptorProto → Type 0
LinksMessage it before after m new = Links it before after (λ here tag position base. message_walk here tag position base m) (λ s here. linked_message_in s here m) new

abbrev pub LinksService : ItemLists → NextItems → NextItems → ServiceDescriptorProto → ServiceDescriptorProto → Type 0
LinksService it before after v new = Links it before after (λ here tag position base. one_service here tag position base v) (λ s here. linked_service_in s here v) new

abbrev pub LinksExtension : ItemLists → NextItems → NextItems → FieldDescriptorProto → FieldDescriptorProto → Type 0
LinksExtension it before after x new = Links it before after (λ here tag position base. one_extension here tag position base x) (λ s here. linked_extension_in s here x) new

-- and of lists
abbrev pub LinksMessages : ItemLists → NextItems → NextItems → List DescriptorProto → List DescriptorProto → Type 0
LinksMessages it before after old new = Links it before after (λ here tag _ base. messages_walk here tag 0 base old) (λ s here. map (linked_message_in s here) old) new

abbrev pub LinksServices : ItemLists → NextItems → NextItems → List ServiceDescriptorProto → List ServiceDescriptorProto → Type 0
LinksServices it before after old new = Links it before after (λ here tag _ base. all_services here tag 0 base old) (λ s here. map (linked_service_in s here) old) new

abbrev pub LinksExtensions : ItemLists → NextItems → NextItems → List FieldDescriptorProto → List FieldDescriptorProto → Type 0
LinksExtensions it before after old new = Links it before after (λ here tag _ base. all_extensions here tag 0 base old) (λ s here. map (linked_extension_in s here) old) new

pub messages-more : (it : ItemLists) (before : NextItems) (old : List DescriptorProto) (now after : NextItems) (n : ℕ) (xs : List DescriptorProto) (y d : DescriptorProto)
    → MessagesSoFar it before now old n xs → n < length old → LinksMessage it now after (get_or xs n d) y → MessagesSoFar it before after old (n + 1) (set xs n y)
messages-more = so-far-more message_walk messages_walk linked_message_in messages-turn

pub services-more : (it : ItemLists) (before : NextItems) (old : List ServiceDescriptorProto) (now after : NextItems) (n : ℕ) (xs : List ServiceDescriptorProto) (y d : ServiceDescriptorProto)
    → ServicesSoFar it before now old n xs → n < length old → LinksService it now after (get_or xs n d) y → ServicesSoFar it before after old (n + 1) (set xs n y)
services-more = so-far-more one_service all_services linked_service_in services-turn

pub extensions-more : (it : ItemLists) (before : NextItems) (old : List FieldDescriptorProto) (now after : NextItems) (n : ℕ) (xs : List FieldDescriptorProto) (y d : FieldDescriptorProto)
    → ExtensionsSoFar it before now old n xs → n < length old → LinksExtension it now after (get_or xs n d) y → ExtensionsSoFar it before after old (n + 1) (set xs n y)
extensions-more = so-far-more one_extension all_extensions linked_extension_in extensions-turn

pub messages-all : (it : ItemLists) (before : NextItems) (old : List DescriptorProto) (now : NextItems) (n : ℕ) (xs : List DescriptorProto)
    → MessagesSoFar it before now old n xs → length old ≤ n → LinksMessages it before now old xs
messages-all = so-far-all message_walk messages_walk linked_message_in messages-turn

pub services-all : (it : ItemLists) (before : NextItems) (old : List ServiceDescriptorProto) (now : NextItems) (n : ℕ) (xs : List ServiceDescriptorProto)
    → ServicesSoFar it before now old n xs → length old ≤ n → LinksServices it before now old xs
services-all = so-far-all one_service all_services linked_service_in services-turn

pub extensions-all : (it : ItemLists) (before : NextItems) (old : List FieldDescriptorProto) (now : NextItems) (n : ℕ) (xs : List FieldDescriptorProto)
    → ExtensionsSoFar it before now old n xs → length old ≤ n → LinksExtensions it before now old xs
extensions-all = so-far-all one_extension all_extensions linked_extension_in extensions-turn

-- the next items are the same behind equal ones
next-counting : (a b : Counts) (p : Proto) → next_of a ≡ next_of b → next_of (counting a p) ≡ next_of (counting b p)
next-counting a b (of_file f) same = same
next-counting a b (of_message m) same = λ j. record (same j) { messages = suc (same j).messages }
next-counting a b (of_field f) same = same
next-counting a b (of_oneof o) same = same
next-counting a b (of_service v) same = λ j. record (same j) { services = suc (same j).services }
next-counting a b (of_method m) same = same
next-counting a b (of_enum e) same = same
next-counting a b (of_value v) same = same
next-counting a b (of_extension x) same = λ j. record (same j) { extensions = suc (same j).extensions }

next-counted : (a b : Counts) (ds : List Shown) → next_of a ≡ next_of b → next_of (counted a ds) ≡ next_of (counted b ds)
next-counted a b [] same = same
next-counted a b (d ∷ ds) same = next-counted (counting a d.proto) (counting b d.proto) ds (next-counting a b d.proto same)

-- and enums take none
enums-take-none : (c : Counts) (here : Surrounding) (tag : ℤ) (position index : ℕ) (es : List EnumDescriptorProto) → next_of (counted c (enums_walk here tag position index es)) ≡ next_of c
enums-take-none c here tag position index [] = refl
enums-take-none c here tag position index (e ∷ es) =
    let first = enum_walk here tag position index e in
    let rest = enums_walk here tag (suc position) (suc index) es in
    ap next_of (counted-append c first rest ∙ ap (λ k. counted k rest) (counted-enum c here tag position index e))
    ∙ enums-take-none (counting c (of_enum e)) here tag (suc position) (suc index) es

-- one more of a number, in the program's words
one-more : (n m : ℕ) → n ≡ m → n + 1 ≡ suc m
one-more n m same = add-one n ∙ ap suc same

some-is : {X : Type 0} (d x y : X) → Some x ≡ Some y → x ≡ y
some-is d x y same = ap (λ got. unwrap_or got d) same

-- the item of a declaration is the next one
got-here : {X Y : Type 0} (f : X → Y) (xs : List X) (n m : ℕ) (x : X) (y : Y) → slice_get xs n ≡ Some x → n ≡ m → option_map f (slice_get xs m) ≡ Some y → f x ≡ y
got-here f xs n m x y got same has =
    some-is (f x) (f x) y (sym (ap (option_map f) got) ∙ ap (λ k. option_map f (slice_get xs k)) same ∙ has)

got-none : {X Y : Type 0} (f : X → Y) (xs : List X) (n m : ℕ) (y : Y) → slice_get xs n ≡ None → n ≡ m → option_map f (slice_get xs m) ≡ Some y → ⊥
got-none f xs n m y none same has =
    let lost : option_map f None ≡ Some y = sym (ap (option_map f) none) ∙ ap (λ k. option_map f (slice_get xs k)) same ∙ has in cc

-- a message whose parts were linked through borrows
pub message-ends : (it : ItemLists) (before first second after : NextItems) (m : DescriptorProto) (item : MessageDescriptorInner) (fs : List FieldDescriptorProto) (ms : List DescriptorProto) (xs : List FieldDescriptorProto)
    → slice_get it.messages before.messages ≡ Some item → first ≡ record before { messages = before.messages + 1 }
    → let o = out-DescriptorProto m in
    LinksFields it item.fields o.field fs → LinksMessages it first second o.nested_type ms → LinksExtensions it second after o.extension xs
    → LinksMessage it before after m (roll-DescriptorProto (record o {
      field = take (length o.field) (fs ++ drop (length fs) o.field);
      nested_type = take (length o.nested_type) (ms ++ drop (length ms) o.nested_type);
      extension = take (length o.extension) (xs ++ drop (length xs) o.extension);
    }))
message-ends it before first second after m item fs ms xs got next-is fields nested extensions = record {
  by = λ s here tag position base is are.
      let o = out-DescriptorProto m in
      let d = shown here tag position base.messages (of_message m) in
      let opened = counting base (of_message m) in
      let front = message_front (inside d) o.oneof_decl o.field in
      let deeper = messages_walk (inside d) message.NESTED_TYPE 0 opened o.nested_type in
      let behind = counted opened deeper in
      let enums = enums_walk (inside d) message.ENUM_TYPE 0 behind.enums o.enum_type in
      let last = row of_extension (inside d) message.EXTENSION 0 behind.extensions o.extension in
      let walk = message-walk-opens here tag position base m in
      let whole = subst (ItemsAre s it) walk are in
      let within = items-rest (d ∷ []) (front ++ deeper ++ (enums ++ last)) whole in
      let fields-are = fields.by s (inside d) o.oneof_decl whole.names
      (got-here (λ (item : MessageDescriptorInner). item.fields) it.messages before.messages base.messages item _ got (ap (λ (n : NextItems). n.messages) is) whole.items.0) in
      let nested-are = nested.by s (inside d) message.NESTED_TYPE 0 opened
      (next-is ∙ (λ j. record (is j) { messages = one-more before.messages base.messages (ap (λ (n : NextItems). n.messages) is) j }))
      (items-rest front deeper (items-front (front ++ deeper) (enums ++ last) within)) in
      let extensions-are = extensions.by s (inside d) message.EXTENSION 0 behind nested-are.1 (items-rest enums last (items-rest (front ++ deeper) (enums ++ last) within)) in
      let name = join here.scope (text_of o.name) in
      let change = linking s in
      let counts : next_of (counted base (message_walk here tag position base m)) ≡ next_of (counted behind last) =
      ap (λ ds. next_of (counted base ds)) walk
      ∙ ap next_of (counted-append opened (front ++ deeper) (enums ++ last) ∙ ap (λ c. counted c (enums ++ last)) (counted-append opened front deeper
      ∙ ap (λ c. counted c deeper) (counted-front opened (inside d) o.oneof_decl o.field)) ∙ counted-append behind enums last)
      ∙ next-counted (counted behind enums) behind last (enums-take-none behind (inside d) message.ENUM_TYPE 0 behind.enums o.enum_type) in (
        ap roll-DescriptorProto (λ j. record o {
          field = restored (λ (f : FieldDescriptorProto). linked_field s here.file (join name (text_of f.name)) f) o.field fs fields-are j;
          nested_type = restored (linked_message_in s (inside d)) o.nested_type ms nested-are.0 j;
          extension = restored (linked_extension_in s (inside d)) o.extension xs extensions-are.0 j;
        }) ∙ sym (changed-message-is change here.file name m),
        extensions-are.1 ∙ sym counts,
      );
}

-- without its item a message is none of the declarations
pub message-missing : (it : ItemLists) (before : NextItems) (m : DescriptorProto) → length it.messages ≤ before.messages → LinksMessage it before before m m
message-missing it before m past = record {
  by = λ s here tag position base is are.
      let whole = subst (ItemsAre s it) (message-walk-opens here tag position base m) are in
      absurd (got-none (λ (item : MessageDescriptorInner). item.fields) it.messages before.messages base.messages _ (slice_get_past it.messages before.messages past) (ap (λ (n : NextItems). n.messages) is) whole.items.0);
}

-- a service whose methods were linked through a borrow
pub service-ends : (it : ItemLists) (before after : NextItems) (v : ServiceDescriptorProto) (item : ServiceDescriptorInner) (ms : List MethodDescriptorProto)
    → slice_get it.services before.services ≡ Some item → after ≡ record before { services = before.services + 1 } → LinksMethods it item.methods v.method ms
    → LinksService it before after v (record v { method = take (length v.method) (ms ++ drop (length ms) v.method) })
service-ends it before after v item ms got next-is methods = record {
  by = λ s here tag position base is are.
      let d = shown here file.SERVICE position base.services (of_service v) in
      let methods-are = methods.by s (inside d) are.names
      (got-here (λ (item : ServiceDescriptorInner). item.methods) it.services before.services base.services item _ got (ap (λ (n : NextItems). n.services) is) are.items.0) in (
        λ j. record v { method = restored (λ (k : MethodDescriptorProto). linked_method s here.file (join d.full_name (text_of k.name)) k) v.method ms methods-are j },
        next-is ∙ (λ j. record (is j) { services = one-more before.services base.services (ap (λ (n : NextItems). n.services) is) j })
            ∙ ap next_of (sym (counted-service base here position base.services v)),
      );
}

pub service-missing : (it : ItemLists) (before : NextItems) (v : ServiceDescriptorProto) → length it.services ≤ before.services → LinksService it before before v v
service-missing it before v past = record {
  by = λ s here tag position base is are.
      absurd (got-none (λ (item : ServiceDescriptorInner). item.methods) it.services before.services base.services _ (slice_get_past it.services before.services past) (ap (λ (n : NextItems). n.services) is) are.items.0);
}

-- the extendee of an extension has no part in its type
type-apart : (it : ItemLists) (kind : KindIndex) (x : FieldDescriptorProto) (extendee : Option (List ℕ))
    → typed_by it kind (record x { extendee = extendee }) ≡ record (typed_by it kind x) { extendee = extendee }
type-apart it kind x extendee =
    let given : FieldDescriptorProto = record x { extendee = extendee } in
    let number = kind_number (type_of x.type_) kind x.type_ in
    elim (text_of x.type_name) as (λ t.
    let by : FieldDescriptorProto = elim t [ [] ↦ given | _ ∷ _ ↦ with_type (kind_name it kind) number given ] in
    let to : FieldDescriptorProto = elim t [ [] ↦ x | _ ∷ _ ↦ with_type (kind_name it kind) number x ] in
    by ≡ record to { extendee = extendee }) [
      | [] ↦ refl
      | _ ∷ _ ↦ elim (kind_name it kind) as (λ name. with_type name number given ≡ record (with_type name number x) { extendee = extendee }) [ None ↦ refl | Some name ↦ refl ]
    ]

-- an extension by its item
pub extension-ends : (it : ItemLists) (before after : NextItems) (x : FieldDescriptorProto) (item : ExtensionDescriptorInner) (new : FieldDescriptorProto)
    → slice_get it.extensions before.extensions ≡ Some item → after ≡ record before { extensions = before.extensions + 1 }
    → new ≡ typed_by it item.kind (record x { extendee = reference_by it item.extendee x.extendee }) → LinksExtension it before after x new
extension-ends it before after x item new got next-is new-is = record {
  by = λ s here tag position base is are.
      let d = shown here tag position base.extensions (of_extension x) in
      let item-is : item ≡ extension_item s d x =
      some-is item item (extension_item s d x) (sym got ∙ ap (slice_get it.extensions) (ap (λ (n : NextItems). n.extensions) is) ∙ are.items.0) in (
        new-is ∙ type-apart it item.kind x (reference_by it item.extendee x.extendee)
            ∙ (λ j. record (typed_by it (item-is j).kind x) { extendee = reference_by it (item-is j).extendee x.extendee })
            ∙ (λ j. record (type-linked s it are.names d x j) { extendee = reference-linked s it are.names d x.extendee j }),
        next-is ∙ (λ j. record (is j) { extensions = one-more before.extensions base.extensions (ap (λ (n : NextItems). n.extensions) is) j }),
      );
}

pub extension-missing : (it : ItemLists) (before : NextItems) (x : FieldDescriptorProto) → length it.extensions ≤ before.extensions → LinksExtension it before before x x
extension-missing it before x past = record {
  by = λ s here tag position base is are.
      let nothing : Option ExtensionDescriptorInner = None in
      let lost : nothing ≡ Some (extension_item s (shown here tag position base.extensions (of_extension x)) x) =
      sym (slice_get_past it.extensions before.extensions past) ∙ ap (slice_get it.extensions) (ap (λ (n : NextItems). n.extensions) is) ∙ are.items.0 in absurd (cc);
}

-- a file whose parts were linked through borrows
pub file-ends : (it : ItemLists) (before first second after : NextItems) (f : FileDescriptorProto) (ms : List DescriptorProto) (vs : List ServiceDescriptorProto) (xs : List FieldDescriptorProto)
    → LinksMessages it before first f.message_type ms → LinksServices it first second f.service vs → LinksExtensions it second after f.extension xs
    → LinksFile it before after f (record f {
      message_type = take (length f.message_type) (ms ++ drop (length ms) f.message_type);
      service = take (length f.service) (vs ++ drop (length vs) f.service);
      extension = take (length f.extension) (xs ++ drop (length xs) f.extension);
    })
file-ends it before first second after f ms vs xs messages services extensions = record {
  by = λ s base is are.
      let here = in_file base.files f in
      let whole = messages_walk here file.MESSAGE_TYPE 0 base f.message_type in
      let behind = counted base whole in
      let enums = enums_walk here file.ENUM_TYPE 0 behind.enums f.enum_type in
      let served = services_walk here 0 behind.services f.service in
      let last = row of_extension here file.EXTENSION 0 behind.extensions f.extension in
      let within = items-rest (file_shown [] base.files f ∷ []) (whole ++ enums ++ served ++ last) are in
      let early = items-front (whole ++ enums ++ served) last within in
      let messages-are = messages.by s here file.MESSAGE_TYPE 0 base is (items-front whole enums (items-front (whole ++ enums) served early)) in
      let services-are = services.by s here file.SERVICE 0 behind messages-are.1 (items-rest (whole ++ enums) served early) in
      let after-services = counted behind served in
      let last-base : Counts = record after-services { extensions = behind.extensions } in
      let same : next_of after-services ≡ next_of last-base = λ j. record (next_of after-services) { extensions = services-keep behind here 0 behind.services f.service j } in
      let extensions-are = extensions.by s here file.EXTENSION 0 last-base (services-are.1 ∙ same) (items-rest (whole ++ enums ++ served) last within) in
      let opened = counting base (of_file f) in
      let counts : next_of (counted base (file_walk base f)) ≡ next_of (counted last-base last) =
      ap next_of (counted-append opened (whole ++ enums ++ served) last)
      ∙ next-counted (counted opened (whole ++ enums ++ served)) last-base last
      (next-counted opened base (whole ++ enums ++ served) refl
      ∙ ap next_of (counted-append base (whole ++ enums) served ∙ ap (λ c. counted c served) (counted-append base whole enums))
      ∙ next-counted (counted behind enums) behind served (enums-take-none behind here file.ENUM_TYPE 0 behind.enums f.enum_type)
      ∙ same) in (
        λ j. record f {
          message_type = restored (linked_message_in s here) f.message_type ms messages-are.0 j;
          service = restored (linked_service_in s here) f.service vs services-are.0 j;
          extension = restored (linked_extension_in s here) f.extension xs extensions-are.0 j;
        },
        extensions-are.1 ∙ sym counts,
      );
}

-- one more of files that are numbered on is changed where it stands
each-suc : {X : Type 0} (f : ℕ → X → X) (from : ℕ) (xs : List X) (i : ℕ) (w d : X) → i < length xs → w ≡ get_or (map_enumerated f from (take i xs) ++ drop i xs) i d
    → set (map_enumerated f from (take i xs) ++ drop i xs) i (f (from + i) w) ≡ map_enumerated f from (take (suc i) xs) ++ drop (suc i) xs
each-suc f from [] i w d within is = absurd (omega (arith, within))
each-suc f from (x ∷ xs) zero w d within is = let here : from + 0 ≡ from = omega arith in λ j. f (here j) (is j) ∷ xs
each-suc f from (x ∷ xs) (suc n) w d within is =
    let there : from + suc n ≡ suc from + n = omega arith in
    ap (λ k. f from x ∷ set (map_enumerated f (suc from) (take n xs) ++ drop n xs) n (f k w)) there
    ∙ ap (λ ys. f from x ∷ ys) (each-suc f (suc from) xs n w d (omega (arith, within)) is)

each-kept : {X : Type 0} (f : ℕ → X → X) (from : ℕ) (xs : List X) (i : ℕ) (d : X) → i < length xs → get_or (map_enumerated f from (take i xs) ++ drop i xs) i d ≡ get_or xs i d
each-kept f from [] i d within = absurd (omega (arith, within))
each-kept f from (x ∷ xs) zero d within = refl
each-kept f from (x ∷ xs) (suc n) d within = each-kept f (suc from) xs n d (omega (arith, within))

-- so many files are linked, and what the others declare has the next items
pub record FilesReached (s : Setting) (it : ItemLists) (base : Counts) (now : NextItems) (old : List FileDescriptorInner) (n : ℕ) (fs : List FileDescriptorInner) : Type 0 where
  pub counts : Counts
  pub files : counts.files ≡ base.files + n
  pub is : now ≡ next_of counts
  pub left : ItemsAre s it (declarations counts (map (λ f. f.raw) (drop n old)))
  pub ends : counted counts (declarations counts (map (λ f. f.raw) (drop n old))) ≡ counted base (declarations base (map (λ f. f.raw) old))
  pub changed : fs ≡ map_enumerated (linked_item s) base.files (take n old) ++ drop n old

pub record FilesSoFar (it : ItemLists) (before now : NextItems) (old : List FileDescriptorInner) (n : ℕ) (fs : List FileDescriptorInner) : Type 0 where
  pub by : (s : Setting) (base : Counts) → before ≡ next_of base → ItemsAre s it (declarations base (map (λ f. f.raw) old))
      → FilesReached s it base now old n fs

module _ (it : ItemLists) (before : NextItems) (old : List FileDescriptorInner) where
  pub files-none : FilesSoFar it before before old 0 old
  files-none = record {
    by = λ s base is are. record { counts = base; files = omega arith; is = is; left = are; ends = refl; changed = refl };
  }

  pub files-more : (now after : NextItems) (n : ℕ) (fs : List FileDescriptorInner) (raw : FileDescriptorProto) (d : FileDescriptorInner)
      → FilesSoFar it before now old n fs → n < length old → LinksFile it now after (get_or fs n d).raw raw
      → FilesSoFar it before after old (n + 1) (set fs n (record (get_or fs n d) { raw = raw }))
  files-more now after n fs raw d so-far within links = record {
    by = λ s base is are.
        let was = so-far.by s base is are in
        let f = get_or old n d in
        let same : get_or fs n d ≡ f = ap (λ gs. get_or gs n d) was.changed ∙ each-kept (linked_item s) base.files old n d within in
        let records = λ (gs : List FileDescriptorInner). map (λ g. g.raw) gs in
        let first = file_walk was.counts f.raw in
        let behind = counted was.counts first in
        let rest = declarations behind (records (drop (n + 1) old)) in
        let whole : declarations was.counts (records (drop n old)) ≡ first ++ rest =
        ap (λ gs. declarations was.counts (records gs)) (drop-cons old n d within)
        ∙ (λ j. first ++ declarations behind (records (drop (sym (add-one n) j) old))) in
        let parted = subst (ItemsAre s it) whole was.left in
        let step = links.by s was.counts was.is (subst (λ (g : FileDescriptorInner). ItemsAre s it (file_walk was.counts g.raw)) (sym same) (items-front first rest parted)) in
        let item-is : record (get_or fs n d) { raw = raw } ≡ linked_item s (base.files + n) (get_or fs n d) =
        λ j. record (get_or fs n d) { raw = (step.0 ∙ ap (λ k. linked s k (get_or fs n d).raw) was.files) j } in
        let one = one-file was.counts f.raw in
        let number = was.files in
        record {
          counts = behind;
          files = omega (arith, one, number);
          is = step.1 ∙ ap (λ (g : FileDescriptorInner). next_of (counted was.counts (file_walk was.counts g.raw))) same;
          left = items-rest first rest parted;
          ends = sym (counted-append was.counts first rest) ∙ ap (counted was.counts) (sym whole) ∙ was.ends;
          changed = rw add-one ((λ j. set (was.changed j) n (item-is j)) ∙ each-suc (linked_item s) base.files old n (get_or fs n d) d within (ap (λ gs. get_or gs n d) was.changed));
        };
  }

  pub files-all : (now : NextItems) (n : ℕ) (fs : List FileDescriptorInner) → FilesSoFar it before now old n fs → length old ≤ n → LinksFiles it before now old fs
  files-all now n fs so-far past = record {
    by = λ s base is are.
        let was = so-far.by s base is are in
        let change = map_enumerated (linked_item s) base.files in
        let done : was.counts ≡ counted base (declarations base (map (λ (g : FileDescriptorInner). g.raw) old)) =
        sym (ap (λ gs. counted was.counts (declarations was.counts (map (λ (g : FileDescriptorInner). g.raw) gs))) (drop_all n old past)) ∙ was.ends in (
          was.changed ∙ (λ j. change (take_all n old past j) ++ drop_all n old past j) ∙ append-nil (change old),
          was.is ∙ ap next_of done,
        );
  }
