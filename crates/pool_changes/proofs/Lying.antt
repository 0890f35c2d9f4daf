-- In each pool the oneof of a field is one of those of its message, and what a field or an extension holds is a message of the pool.
use Rattle.std.proofs.Common.{◌≡◌, ◌≤◌, ◌<◌, ℕ, ℤ, pos, negsuc, Option, Some, None, List, [], ◌∷◌, ◌++◌, drop, length, option_map, option_and_then, slice_get, unwrap_or, refl, sym, subst, arith}
use Rattle.std.proofs.lemmas.List.{length-append}
use Rattle.std.proofs.lemmas.List.Elements.{All-append, All-from_recursion, All-nil, All-weaker}
use Rattle.std.proofs.lemmas.Option.{slice_get_within}
use Rattle.std.specs.BTreeSet.{contains_by}
use Rattle.std.specs.FinMap as finite
use Rattle.std.specs.List.{All, AllByRecursion}
use Rattle.std.specs.Option.{IfSome}
use Rattle.std.specs.Ordering.{nat_cmp}
use Rattle.std.specs.Prelude.{⊤}
use Rattle.plain_data.specs.Lists.{at}
use Rattle.proto_types.specs.Readers.{text_of, type_of}
use Rattle.proto_types.specs.declared.file.FileDescriptorProto.{FileDescriptorProto}
use Rattle.proto_types.specs.declared.message.DescriptorProto.{DescriptorProto, out-DescriptorProto}
use Rattle.proto_types.specs.declared.message.OneofDescriptorProto.{OneofDescriptorProto}
use Rattle.proto_types.specs.declared.records.field.FieldDescriptorProto.{FieldDescriptorProto}
use Rattle.proto_types.specs.declared.records.field.FieldType.{FieldType}
use Rattle.proto_types.specs.declared.records.field.FieldType.TheVariants as written
use Rattle.pool_types.specs.Contents.{Contents, no_contents}
use Rattle.pool_types.specs.Kinds.{named_kind, simple_kind}
use Rattle.pool_types.specs.declared.contents.definition.DefinitionKind.{DefinitionKind}
use Rattle.pool_types.specs.declared.contents.definition.DefinitionKind.TheVariants as definition
use Rattle.pool_types.specs.declared.contents.extension.ExtensionDescriptorInner.{ExtensionDescriptorInner}
use Rattle.pool_types.specs.declared.contents.field.FieldDescriptorInner.{FieldDescriptorInner}
use Rattle.pool_types.specs.declared.contents.message.MessageDescriptorInner.{MessageDescriptorInner}
use Rattle.pool_types.specs.declared.kinds.KindIndex.{KindIndex}
use Rattle.pool_types.specs.declared.kinds.KindIndex.TheVariants as index
use Rattle.record_walk.specs.Place.{field_at}
use Rattle.record_walk.specs.Protos.{as_extension, as_message}
use Rattle.record_walk.specs.Shown.{Shown, inside, of_kind}
use Rattle.name_resolution.specs.declared.filter.ResolveNameFilter.TheVariants.{FieldType as field_type}
use Rattle.name_resolution.specs.Resolution.{Resolution, found, invalid_type, kind_found, not_found, not_imported, shadowed}
use Rattle.name_resolution.proofs.Found.{IsNamed, resolution-named}
use Rattle.field_rules.specs.Maps.{item_number}
use Rattle.field_rules.specs.Oneofs.{oneof_of}
use Rattle.reference_pass.specs.Items.{extension_item, extension_items, field_item, message_item, message_items}
use Rattle.reference_pass.specs.References.{message_index}
use Rattle.reference_pass.specs.Setting.{Setting, seen_by}
use Rattle.reference_pass.specs.Types.{resolve_type}
use Rattle.pool_contents.specs.Extended.{extended_by}
use Rattle.pool_contents.proofs.Each.{all-each, length-each}
use Rattle.descriptor_pool.specs.Build.{declared_with, setting_with, with_batch, with_items, with_names}
use Rattle.descriptor_pool.specs.Pool.{Made, empty, linked_to, new_files}
use Rattle.descriptor_pool.proofs.Indexed.{MeansBefore, messages-lie}
use Rattle.descriptor_pool.proofs.Sound.{Known, link-known, made-sound}
use Rattle.pool_changes.proofs.Lists.{each-made, each-mapped, each-weaker}

-- the message of a kind lies before an end
abbrev pub KindLies : ℕ → KindIndex → Type 0
KindLies end (index.Message n) = n < end
KindLies end (index.Group n) = n < end
KindLies end _ = ⊤

kind-further : (first last : ℕ) → first ≤ last → (k : KindIndex) → KindLies first k → KindLies last k
kind-further first last more (index.Message n) lies = omega (arith, lies, more)
kind-further first last more (index.Group n) lies = omega (arith, lies, more)
kind-further first last more _ lies = tt

simple-lies : (end : ℕ) (t : FieldType) → KindLies end (unwrap_or (simple_kind t) index.Double)
simple-lies end written.Double = tt
simple-lies end _ = tt

named-lies : (end : ℕ) (t : FieldType) (kind : DefinitionKind) → IfSome (message_index kind) (λ n. n < end) → KindLies end (unwrap_or (named_kind t kind) index.Double)
named-lies end written.Group (definition.Message n) lies = lies
named-lies end _ (definition.Message n) lies = lies
named-lies end _ _ lies = tt

module _ (s : Setting) (end : ℕ) (lie : (name : List ℕ) → IfSome (finite.get s.names name) (MeansBefore end)) where
  -- what a type name means
  found-lies : (t : FieldType) (r : Resolution) → IsNamed s.names r → KindLies end (unwrap_or (option_and_then (named_kind t) (kind_found r)) index.Double)
  found-lies t (found name def) named = named-lies end t def.kind (subst (λ got. IfSome got (MeansBefore end)) named (lie name))
  found-lies t (invalid_type name def filter) named = tt
  found-lies t (not_imported name other) named = tt
  found-lies t (shadowed name other) named = tt
  found-lies t not_found named = tt

  kind-lies : (d : Shown) (f : FieldDescriptorProto) (text : List ℕ)
      → KindLies end (unwrap_or (elim text [
        | [] ↦ simple_kind (type_of f.type_)
        | _ ∷ _ ↦ option_and_then (named_kind (type_of f.type_)) (kind_found (resolve_type s d f))
      ]) index.Double)
  kind-lies d f [] = simple-lies end (type_of f.type_)
  kind-lies d f (c ∷ cs) =
      found-lies (type_of f.type_) (resolve_type s d f)
      (resolution-named s.names (λ n. contains_by (nat_cmp n) (seen_by s d.file)) field_type d.full_name (text_of f.type_name))

-- the oneof of a field lies before an end
abbrev pub OneofLies : ℕ → FieldDescriptorInner → Type 0
OneofLies end f = IfSome f.oneof (λ o. o < end)

oneof-at : (oneofs : List OneofDescriptorProto) (k : ℕ) (got : Option OneofDescriptorProto) → slice_get oneofs k ≡ got → IfSome (option_map (λ _. k) got) (λ o. o < length oneofs)
oneof-at oneofs k None is = tt
oneof-at oneofs k (Some x) is = slice_get_within oneofs k x is

oneof-lies : (oneofs : List OneofDescriptorProto) (named : Option ℤ) → IfSome (option_and_then (λ n. option_map (λ _. item_number n) (at oneofs n)) named) (λ o. o < length oneofs)
oneof-lies oneofs None = tt
oneof-lies oneofs (Some (pos k)) = oneof-at oneofs k (slice_get oneofs k) refl
oneof-lies oneofs (Some (negsuc k)) = tt

-- the fields of a message hold messages before an end, and are in oneofs that it has
pub record Lies (end : ℕ) (m : MessageDescriptorInner) : Type 0 where
  pub kinds : AllByRecursion (λ f. KindLies end f.kind) m.fields
  pub oneofs : AllByRecursion (OneofLies (length m.oneofs)) m.fields

-- an extension does
abbrev pub HoldsOne : ℕ → ExtensionDescriptorInner → Type 0
HoldsOne end x = KindLies end x.kind

-- what is true of the contents of every pool
pub record PartsLie (p : Contents) : Type 0 where
  pub messages : All (Lies (length p.messages)) p.messages
  pub extensions : All (HoldsOne (length p.messages)) p.extensions

module _ (s : Setting) (end : ℕ) (lie : (name : List ℕ) → IfSome (finite.get s.names name) (MeansBefore end)) where
  item-lies : (d : Shown) (m : DescriptorProto) → Lies end (message_item s d m)
  item-lies d m =
      let fields = (out-DescriptorProto m).field in
      let oneofs = (out-DescriptorProto m).oneof_decl in
      let make = λ (i : ℕ) (f : FieldDescriptorProto). field_item s oneofs (field_at (inside d) i f) f in
      let many : length (message_item s d m).oneofs ≡ length oneofs = length-each _ 0 oneofs in
      record {
        kinds = each-made (λ (f : FieldDescriptorInner). KindLies end f.kind) make (λ i f. kind-lies s end lie (field_at (inside d) i f) f (text_of f.type_name)) 0 fields;
        oneofs = each-made (OneofLies (length (message_item s d m).oneofs)) make
            (λ i f. subst (λ n. IfSome (oneof_of oneofs f) (λ o. o < n)) (sym many) (oneof-lies oneofs f.oneof_index)) 0 fields;
      }

  extension-lies : (d : Shown) (x : FieldDescriptorProto) → HoldsOne end (extension_item s d x)
  extension-lies d x = kind-lies s end lie d x (text_of x.type_name)

  items-lie : (ds : List Shown) → AllByRecursion (Lies end) (message_items s ds)
  items-lie ds = each-mapped (Lies end) (λ (e : Shown × DescriptorProto). message_item s e.0 e.1) (λ e. item-lies e.0 e.1) (of_kind as_message ds)

  extensions-lie : (ds : List Shown) → AllByRecursion (HoldsOne end) (extension_items s ds)
  extensions-lie ds = each-mapped (HoldsOne end) (λ (e : Shown × FieldDescriptorProto). extension_item s e.0 e.1) (λ e. extension-lies e.0 e.1) (of_kind as_extension ds)

further : (first last : ℕ) → first ≤ last → (m : MessageDescriptorInner) → Lies first m → Lies last m
further first last more m here = record {
  kinds = each-weaker (λ (f : FieldDescriptorInner). KindLies first f.kind) (λ (f : FieldDescriptorInner). KindLies last f.kind) (λ f. kind-further first last more f.kind) m.fields here.kinds;
  oneofs = here.oneofs;
}

nothing-lies : PartsLie no_contents
nothing-lies = record { messages = All-nil (Lies 0); extensions = All-nil (HoldsOne 0) }

link-lies : (q : Contents) (new : List FileDescriptorProto) → Known q → PartsLie q → PartsLie (with_batch q new)
link-lies q new known was =
    let s = setting_with q new in
    let ds = declared_with q new in
    let items = with_items (with_names q ds) s ds in
    let more = extended_by (length q.extensions) (drop (length q.extensions) items.extensions) in
    let last = length (with_batch q new).messages in
    let lie = messages-lie (with_batch q new) (link-known q new known) in
    let many : last ≡ length (q.messages ++ message_items s ds) = length-each more 0 (q.messages ++ message_items s ds) in
    let grown : length q.messages ≤ last = let sum = length-append q.messages (message_items s ds) in omega (arith, many, sum) in
    record {
      messages = all-each (Lies last) (Lies last) more (λ n m here. record { kinds = here.kinds; oneofs = here.oneofs }) 0 (q.messages ++ message_items s ds)
          (All-append (Lies last) q.messages (message_items s ds)
          (All-weaker (Lies (length q.messages)) (Lies last) (further (length q.messages) last grown) q.messages was.messages)
          (All-from_recursion (Lies last) (message_items s ds) (items-lie s last lie ds)));
      extensions = All-append (HoldsOne last) q.extensions (extension_items s ds)
          (All-weaker (HoldsOne (length q.messages)) (HoldsOne last) (λ x. kind-further (length q.messages) last grown x.kind) q.extensions was.extensions)
          (All-from_recursion (HoldsOne last) (extension_items s ds) (extensions-lie s last lie ds));
    }

pub made-lies : (p : Contents) → Made p → PartsLie p
made-lies p (empty is) = subst PartsLie (sym is) nothing-lies
made-lies p (linked_to {q = q} batch made accepts fits is) = subst PartsLie (sym is) (link-lies q (new_files q batch) (made-sound q made).known (made-lies q made))
