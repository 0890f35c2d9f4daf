-- Each reference of linked declarations is a dot and a name that the setting has, where the second pass finds no fault.
use Rattle.std.proofs.Common.{◌≡◌, ℕ, ℤ, not, Option, Some, is_some, IsSome, List, [], ◌∷◌, ◌++◌, map, take, codes, refl, subst, sym}
use Rattle.std.proofs.lemmas.Grind.{flat_map-append}
use Rattle.std.specs.FinMap as finite
use Rattle.std.specs.List.{AllByRecursion, flat_map}
use Rattle.proto_types.specs.declared.records.field.FieldDescriptorProto.{FieldDescriptorProto}
use Rattle.proto_types.specs.declared.tag.field.TheConstants as field
use Rattle.proto_types.specs.declared.tag.method.TheConstants as method
use Rattle.proto_types.specs.declared.message.DescriptorProto.{out-DescriptorProto}
use Rattle.plain_data.specs.Lists.{after_each, listed, only_if}
use Rattle.field_rules.specs.Numbers.{field_number_faults}
use Rattle.field_rules.specs.Duplicates.{duplicate_faults}
use Rattle.field_rules.specs.Oneofs.{oneof_faults}
use Rattle.proto_types.specs.Readers.{text_of, type_of}
use Rattle.pool_types.specs.declared.contents.definition.Definition.{Definition}
use Rattle.pool_faults.specs.declared.fault.DescriptorErrorKind.TheVariants.{MissingRequiredField}
use Rattle.pool_types.specs.Contents.{ByText}
use Rattle.pool_faults.specs.Labels.{label_in}
use Rattle.pool_types.specs.declared.contents.extension.ExtensionDescriptorInner.{ExtensionDescriptorInner}
use Rattle.record_walk.specs.Changed.{changed}
use Rattle.record_walk.specs.Protos.{Proto, of_file, of_message, of_field, of_oneof, of_service, of_method, of_enum, of_value, of_extension}
use Rattle.record_walk.specs.Shown.{Shown}
use Rattle.name_resolution.specs.declared.filter.ResolveNameFilter.TheVariants.{Message, FieldType}
use Rattle.pool_types.specs.Kinds.{simple_kind}
use Rattle.name_resolution.specs.References.{reference_fault}
use Rattle.name_resolution.specs.Resolution.{Resolution, found, invalid_type, not_imported, shadowed, not_found}
use Rattle.name_resolution.proofs.Found.{IsNamed, resolution-named}
use Rattle.reference_pass.specs.SecondPass.{Faults, Owner, field_faults, field_record_faults, message_of, second_faults, second_pass}
use Rattle.reference_pass.specs.Defaults.{field_default_faults}
use Rattle.reference_pass.specs.Types.{resolve_type, type_faults}
use Rattle.reference_pass.specs.Linked.{resolved, typed, linking}
use Rattle.reference_pass.specs.References.{resolve_message}
use Rattle.reference_pass.specs.Items.{extension_items}
use Rattle.reference_pass.proofs.Unbroken.{both-empty, extension-parts}
use Rattle.reference_pass.specs.Setting.{Setting, seen_by}
use Rattle.std.specs.BTreeSet.{contains_by}
use Rattle.std.specs.Ordering.{nat_cmp}
use Rattle.record_lists.specs.Reference.{Reference, reference_in, references_in}

has-name : (found : Option Definition) (def : Definition) → found ≡ Some def → IsSome found
has-name got def is = subst IsSome (sym is) refl

-- a text is a dot and a name that these names have
abbrev IsFull : ByText Definition → List ℕ → Type 0
IsFull names text = (name : List ℕ) × (text ≡ 46 ∷ name) × IsSome (finite.get names name)

-- a reference is such a text
abbrev pub Names : ByText Definition → Reference → Type 0
Names names r = IsFull names r.text

abbrev pub AllNamed : ByText Definition → List Shown → Type 0
AllNamed names ds = AllByRecursion (Names names) (flat_map references_in ds)

pub all-append : {X : Type 0} (P : X → Type 0) (xs ys : List X) → AllByRecursion P xs → AllByRecursion P ys → AllByRecursion P (xs ++ ys)
all-append P [] ys first second = second
all-append P (x ∷ xs) ys first second = (first.0, all-append P xs ys first.1 second)

pub named-append : (names : ByText Definition) (ds es : List Shown) → AllNamed names ds → AllNamed names es → AllNamed names (ds ++ es)
named-append names ds es first second =
    subst (AllByRecursion (Names names)) (sym (flat_map-append references_in ds es))
    (all-append (Names names) (flat_map references_in ds) (flat_map references_in es) first second)

-- a reference without a fault was found
found-full : (s : Setting) (path : List ℤ) (file : ℕ) (written : List ℕ) (given : Option (List ℕ)) (r : Resolution)
    → IsNamed s.names r → listed (reference_fault s.files written file path r) ≡ [] → IsFull s.names (text_of (resolved r given))
found-full s path file written given (found name def) named none = (name, refl, has-name (finite.get s.names name) def named)
found-full s path file written given (invalid_type name def filter) named none = absurd (cc)
found-full s path file written given (not_imported name other) named none = absurd (cc)
found-full s path file written given (shadowed name other) named none = absurd (cc)
found-full s path file written given not_found named none = absurd (cc)

-- such a text is the only one of a part
full-alone : (names : ByText Definition) (e : Shown) (part text : List ℕ) → IsFull names text → AllByRecursion (Names names) (reference_in e part text)
full-alone names e part [] full = tt
full-alone names e part (c ∷ cs) full = (full, tt)

-- a type name without a fault is linked as one that was found
type-resolved : (s : Setting) (d e : Shown) (f : FieldDescriptorProto) (part written : List ℕ) → text_of f.type_name ≡ written
    → let faults : Faults = elim written [
      | [] ↦ only_if (not (is_some (simple_kind (type_of f.type_)))) (MissingRequiredField (label_in s.files d.file (d.path ++ field.TYPE_NAME ∷ [])))
      | _ ∷ _ ↦ listed (reference_fault s.files (text_of f.type_name) d.file (d.path ++ field.TYPE_NAME ∷ []) (resolve_type s d f))
    ] in
    let after : FieldDescriptorProto = elim written [ [] ↦ f | _ ∷ _ ↦ typed (resolve_type s d f) f ] in
    faults ≡ [] → AllByRecursion (Names s.names) (reference_in e part (text_of after.type_name))
type-resolved s d e f part [] is none = subst (λ t. AllByRecursion (Names s.names) (reference_in e part t)) (sym is) tt
type-resolved s d e f part (c ∷ cs) is none =
    full-alone s.names e part _ (found-full s _ d.file (text_of f.type_name) f.type_name (resolve_type s d f)
    (resolution-named s.names (λ n. contains_by (nat_cmp n) (seen_by s d.file)) FieldType d.full_name (text_of f.type_name)) none)

-- a message that a method takes or gives is linked as one that was found, where there is no fault
message-resolved : (s : Setting) (d : Shown) (path : List ℤ) (given : Option (List ℕ))
    → listed (reference_fault s.files (text_of given) d.file path (resolve_message s d given)) ≡ [] → IsFull s.names (text_of (resolved (resolve_message s d given) given))
message-resolved s d path given none =
    found-full s path d.file (text_of given) given (resolve_message s d given)
    (resolution-named s.names (λ n. contains_by (nat_cmp n) (seen_by s d.file)) Message d.full_name (text_of given)) none

-- the type of a field is among what it breaks
pub type-told : (s : Setting) (owner : Owner) (d : Shown) (f : FieldDescriptorProto) → field_faults s owner d f ≡ [] → type_faults s d f ≡ []
type-told s owner d f none =
    let m = out-DescriptorProto owner.1 in
    let again = duplicate_faults s.files owner.0.file owner.0.path (take d.index m.field) d.index f in
    let own = both-empty (field_record_faults s owner d f) again none in
    let numbers = field_number_faults s.files owner.0 owner.1 d f in
    let first = both-empty ((numbers ++ type_faults s d f) ++ field_default_faults s d f) (oneof_faults m.oneof_decl f) own.0 in
    let types = both-empty (numbers ++ type_faults s d f) (field_default_faults s d f) first.0 in
    (both-empty numbers (type_faults s d f) types.0).1

-- a declaration without a fault has only references that are resolved, once it is linked
one-resolved : (s : Setting) (old : List ExtensionDescriptorInner) (before : List Shown) (file : ℕ) (parent : Option ℕ) (index : ℕ) (path : List ℤ) (full_name : List ℕ) (p : Proto)
    → let d : Shown = record { file = file; parent = parent; index = index; path = path; full_name = full_name; proto = p } in
    second_faults s old before d ≡ [] → AllByRecursion (Names s.names) (references_in (changed (linking s) d))
one-resolved s old before file parent index path full_name (of_field f) none =
    let d : Shown = record { file = file; parent = parent; index = index; path = path; full_name = full_name; proto = of_field f } in
    type-resolved s d (changed (linking s) d) f (codes "type_name") (text_of f.type_name) refl (type-told s (message_of before d) d f none)
one-resolved s old before file parent index path full_name (of_file f) none = tt
one-resolved s old before file parent index path full_name (of_message m) none = tt
one-resolved s old before file parent index path full_name (of_oneof o) none = tt
one-resolved s old before file parent index path full_name (of_service v) none = tt
one-resolved s old before file parent index path full_name (of_method m) none =
    let d : Shown = record { file = file; parent = parent; index = index; path = path; full_name = full_name; proto = of_method m } in
    let input = path ++ method.INPUT_TYPE ∷ [] in
    let output = path ++ method.OUTPUT_TYPE ∷ [] in
    let both = both-empty (listed (reference_fault s.files (text_of m.input_type) file input (resolve_message s d m.input_type)))
    (listed (reference_fault s.files (text_of m.output_type) file output (resolve_message s d m.output_type))) none in
    (message-resolved s d input m.input_type both.0, (message-resolved s d output m.output_type both.1, tt))
one-resolved s old before file parent index path full_name (of_enum e) none = tt
one-resolved s old before file parent index path full_name (of_value v) none = tt
one-resolved s old before file parent index path full_name (of_extension x) none =
    let d : Shown = record { file = file; parent = parent; index = index; path = path; full_name = full_name; proto = of_extension x } in
    let parts = extension-parts s d x (old ++ extension_items s before) none in (
      message-resolved s d (path ++ field.EXTENDEE ∷ []) x.extendee parts.extendee,
      type-resolved s d (changed (linking s) d) x (codes "type_name") (text_of x.type_name) refl parts.type_,
    )

-- and so have declarations
all-resolved : (s : Setting) (old : List ExtensionDescriptorInner) (before ds : List Shown) → after_each (second_faults s old) before ds ≡ [] → AllNamed s.names (map (changed (linking s)) ds)
all-resolved s old before [] none = tt
all-resolved s old before (d ∷ ds) none =
    let both = both-empty (second_faults s old before d) (after_each (second_faults s old) (before ++ d ∷ []) ds) none in
    all-append (Names s.names) (references_in (changed (linking s) d)) (flat_map references_in (map (changed (linking s)) ds))
    (one-resolved s old before d.file d.parent d.index d.path d.full_name d.proto both.0) (all-resolved s old (before ++ d ∷ []) ds both.1)

pub linked-resolved : (s : Setting) (old : List ExtensionDescriptorInner) (ds : List Shown) → second_pass s old ds ≡ [] → AllNamed s.names (map (changed (linking s)) ds)
linked-resolved s old ds none = all-resolved s old [] ds none
