-- Where both sides of each change are told alike, nothing is told.
use Rattle.std.proofs.Common.{◌≡◌, ℕ, Bool, true, false, not, ◌&&◌, ◌||◌, if◌then◌else◌, List, [], ◌∷◌, ◌++◌, None, Some, codes, option_and_then, is_some, refl, ap, cond, subst, sym, ◌∙◌}
use Rattle.std.proofs.lemmas.Bool.{and_from, or_left, or_right}
use Rattle.std.proofs.lemmas.Slice.Eq.{bytes_eq-Decides}
use Rattle.std.specs.Str.{bytes_eq}
use Rattle.proto_types.specs.Readers.{text_of}
use Rattle.pool_types.specs.declared.contents.file.FileDescriptorInner.{FileDescriptorInner}
use Rattle.pool_types.specs.declared.contents.service.MethodDescriptorInner.{MethodDescriptorInner}
use Rattle.pool_types.specs.declared.contents.message.MessageDescriptorInner.{MessageDescriptorInner}
use Rattle.pool_types.specs.declared.contents.oneof.OneofDescriptorInner.{OneofDescriptorInner}
use Rattle.proto_types.specs.declared.records.field.FieldDescriptorProto.{FieldDescriptorProto}
use Rattle.pool_types.specs.declared.kinds.KindIndex.TheVariants as kind
use Rattle.schema_changes.specs.MapEntries.{map_entry_at}
use Rattle.schema_changes.specs.MessageSets.{is_message_set}
use Rattle.schema_changes.specs.Parts.{parts_of}
use Rattle.schema_changes.specs.declared.change.WireChange.{WireChange}
use Rattle.schema_changes.specs.declared.change.WireChangeKind.TheVariants as change
use Rattle.pool_changes.specs.FieldChanges.{are_formed_alike, are_typed_alike, default_changes, have_first_alike, form_changes, name_changes, oneof_moves, part_json, part_source, presence_changes, reads_number, keeps_values, repeated_changes, type_changes, keeps_form, are_messages_alike, one_repeats}
use Rattle.pool_changes.specs.FieldParts.{Part, default_side, form_side, given_oneof, json_side, message_word, name_side, object_word, oneof_at, oneof_side, presence_side, presence_word, repeated_side, repeated_word, type_side}
use Rattle.pool_changes.specs.Comparing.{set_changes, set_side, set_word}
use Rattle.pool_changes.specs.Removed.{field_record, package_side, package_word, syntax_side, syntax_word, tells}
use Rattle.pool_changes.specs.Services.{input, kept_method_changes, output, streaming, streams}
use Rattle.pool_changes.specs.Words.{message_name}
use Rattle.pool_changes.specs.Sides.{Side, Versions, are_alike, differing, reader, told_between, writer}
use Rattle.pool_changes.specs.declared.kinds.ElementChange.{ElementChange}
use Rattle.pool_changes.specs.declared.kinds.ElementChange.TheVariants as element

-- a text is equal to itself
pub same-text : (t : List ℕ) → bytes_eq t t ≡ true
same-text t = (bytes_eq-Decides t t).1 refl

-- ---- kinds

-- a message that is an entry of a map in both versions, or in none
module _ (word : Bool → List ℕ) where
  named-by : (a b : Bool) (m n : List ℕ) → bytes_eq m n ≡ true → a ≡ b
      → (bytes_eq (word a) (word b) && bytes_eq (if a then [] else m) (if b then [] else n)) ≡ true
  named-by true true m n names same = and_from (bytes_eq (word true) (word true)) true (same-text (word true)) refl
  named-by false false m n names same = and_from (bytes_eq (word false) (word false)) (bytes_eq m n) (same-text (word false)) names
  named-by true false m n names same = absurd cc
  named-by false true m n names same = absurd cc

module _ (v : Versions) (m n : ℕ) (names : bytes_eq (message_name (parts_of (writer v)) m) (message_name (parts_of (reader v)) n) ≡ true)
    (same : is_some (map_entry_at (parts_of (writer v)) m) ≡ is_some (map_entry_at (parts_of (reader v)) n)) where
  pub message_formed : are_formed_alike v (kind.Message m) (kind.Message n) ≡ true
  message_formed =
      named-by object_word (is_some (map_entry_at (parts_of (writer v)) m)) (is_some (map_entry_at (parts_of (reader v)) n))
      (message_name (parts_of (writer v)) m) (message_name (parts_of (reader v)) n) names same

  pub message_typed : are_typed_alike v (kind.Message m) (kind.Message n) ≡ true
  message_typed =
      named-by message_word (is_some (map_entry_at (parts_of (writer v)) m)) (is_some (map_entry_at (parts_of (reader v)) n))
      (message_name (parts_of (writer v)) m) (message_name (parts_of (reader v)) n) names same

-- ---- how often a field may stand, and whether it is told that it is set

pub repeated_alike : (f g : Part) → f.entry.cardinality ≡ g.entry.cardinality → are_alike (repeated_side f) (repeated_side g) ≡ true
repeated_alike f g same =
    and_from (bytes_eq (repeated_word f.entry.cardinality) (repeated_word g.entry.cardinality)) true
    (subst (λ c. bytes_eq (repeated_word f.entry.cardinality) (repeated_word c) ≡ true) same (same-text (repeated_word f.entry.cardinality))) refl

pub presence_alike : (f g : Part) → f.entry.cardinality ≡ g.entry.cardinality → f.has_presence ≡ g.has_presence → are_alike (presence_side f) (presence_side g) ≡ true
presence_alike f g same set =
    let word = presence_word f.entry.cardinality f.has_presence in
    and_from (bytes_eq word (presence_word g.entry.cardinality g.has_presence)) true
    (subst (λ c. bytes_eq word (presence_word c g.has_presence) ≡ true) same
    (subst (λ b. bytes_eq word (presence_word f.entry.cardinality b) ≡ true) set (same-text word))) refl

-- ---- oneofs

pub oneof_neither : (v : Versions) (x y : MessageDescriptorInner) (f g : Part) → option_and_then (oneof_at (writer v) x) f.entry.oneof ≡ None → option_and_then (oneof_at (reader v) y) g.entry.oneof ≡ None
    → are_alike (oneof_side (writer v) x f) (oneof_side (reader v) y g) ≡ true
oneof_neither v x y f g out outside =
    subst (λ got. are_alike (given_oneof f got) (oneof_side (reader v) y g) ≡ true) (sym out)
    (subst (λ got. are_alike (given_oneof f None) (given_oneof g got) ≡ true) (sym outside) refl)

pub oneof_both : (v : Versions) (x y : MessageDescriptorInner) (f g : Part) (o p : OneofDescriptorInner) → option_and_then (oneof_at (writer v) x) f.entry.oneof ≡ Some o
    → option_and_then (oneof_at (reader v) y) g.entry.oneof ≡ Some p → bytes_eq o.id.full_name p.id.full_name ≡ true → are_alike (oneof_side (writer v) x f) (oneof_side (reader v) y g) ≡ true
oneof_both v x y f g o p first second names =
    subst (λ got. are_alike (given_oneof f got) (oneof_side (reader v) y g) ≡ true) (sym first)
    (subst (λ got. are_alike (given_oneof f (Some o)) (given_oneof g got) ≡ true) (sym second)
    (and_from (bytes_eq (codes "part of ") (codes "part of ")) (bytes_eq o.id.full_name p.id.full_name) (same-text (codes "part of ")) names))

-- ---- what is told

either-none : {X : Type 0} (b : Bool) (xs : List X) → xs ≡ [] → (if b then [] else xs) ≡ []
either-none true xs none = refl
either-none false xs none = none

kept-none : {X : Type 0} (b c : Bool) (xs : List X) → c ≡ true → (if b || c then [] else xs) ≡ []
kept-none b c xs kept = ap (λ d. if d then [] else xs) (or_right b c kept)

or-none : {X : Type 0} (b : Bool) (xs : List X) → xs ≡ [] → (if b then xs else []) ≡ []
or-none true xs none = none
or-none false xs none = refl

both-none : {X : Type 0} (xs ys : List X) → xs ≡ [] → ys ≡ [] → xs ++ ys ≡ []
both-none xs ys none other = ap (λ zs. zs ++ ys) none ∙ other

alike-none : (v : Versions) (k : ElementChange) (a b : Side) → are_alike a b ≡ true → differing v k a b ≡ []
alike-none v k a b alike = ap (λ c. cond c [] (told_between v k a b ∷ [])) alike

-- ---- files and message sets

pub package_none : (v : Versions) (f g : FileDescriptorInner) → bytes_eq (text_of f.raw.«package») (text_of g.raw.«package») ≡ true
    → differing v element.FilePackage (package_side (writer v) f) (package_side (reader v) g) ≡ []
package_none v f g named =
    let same = (bytes_eq-Decides (text_of f.raw.«package») (text_of g.raw.«package»)).0 named in
    alike-none v element.FilePackage (package_side (writer v) f) (package_side (reader v) g)
    (and_from (bytes_eq (package_word (text_of f.raw.«package»)) (package_word (text_of g.raw.«package»))) (bytes_eq (text_of f.raw.«package») (text_of g.raw.«package»))
    (subst (λ t. bytes_eq (package_word (text_of f.raw.«package»)) (package_word t) ≡ true) same (same-text (package_word (text_of f.raw.«package»)))) named)

pub syntax_none : (v : Versions) (f g : FileDescriptorInner) → f.syntax ≡ g.syntax
    → differing v element.FileSyntax (syntax_side (writer v) f) (syntax_side (reader v) g) ≡ []
syntax_none v f g same =
    alike-none v element.FileSyntax (syntax_side (writer v) f) (syntax_side (reader v) g)
    (and_from (bytes_eq (syntax_word f.syntax) (syntax_word g.syntax)) true
    (subst (λ s. bytes_eq (syntax_word f.syntax) (syntax_word s) ≡ true) same (same-text (syntax_word f.syntax))) refl)

pub set_none : (v : Versions) (x y : MessageDescriptorInner) → is_message_set (parts_of (writer v)) x ≡ is_message_set (parts_of (reader v)) y → set_changes v x y ≡ []
set_none v x y same =
    let a = is_message_set (parts_of (writer v)) x in
    let b = is_message_set (parts_of (reader v)) y in
    alike-none v element.MessageSet (set_side (writer v) x) (set_side (reader v) y)
    (and_from (bytes_eq (set_word a) (set_word b)) true (subst (λ c. bytes_eq (set_word a) (set_word c) ≡ true) same (same-text (set_word a))) refl)

-- ---- methods

pub method_none : (v : Versions) (m n : MethodDescriptorInner)
    → bytes_eq (message_name (parts_of (writer v)) m.input) (message_name (parts_of (reader v)) n.input) ≡ true
    → bytes_eq (message_name (parts_of (writer v)) m.output) (message_name (parts_of (reader v)) n.output) ≡ true
    → bytes_eq (streaming (writer v) m) (streaming (reader v) n) ≡ true → kept_method_changes v m n ≡ []
method_none v m n taken given streamed =
    both-none (differing v element.MethodInput (input (writer v) m) (input (reader v) n))
    (differing v element.MethodOutput (output (writer v) m) (output (reader v) n) ++ differing v element.MethodStreaming (streams (writer v) m) (streams (reader v) n))
    (alike-none v element.MethodInput (input (writer v) m) (input (reader v) n) taken)
    (both-none (differing v element.MethodOutput (output (writer v) m) (output (reader v) n)) (differing v element.MethodStreaming (streams (writer v) m) (streams (reader v) n))
    (alike-none v element.MethodOutput (output (writer v) m) (output (reader v) n) given)
    (alike-none v element.MethodStreaming (streams (writer v) m) (streams (reader v) n)
    (and_from (bytes_eq (streaming (writer v) m) (streaming (reader v) n)) true streamed refl)))

-- ---- fields and extensions

module _ (v : Versions) (found : List WireChange) (f g : Part) where
  pub json_none : are_alike (json_side f) (json_side g) ≡ true → are_formed_alike v f.entry.kind g.entry.kind ≡ true
      → are_alike (repeated_side f) (repeated_side g) ≡ true → part_json v found f g ≡ []
  json_none json form repeated =
      both-none (differing v element.FieldJsonName (json_side f) (json_side g)) (form_changes v found f g ++ repeated_changes v found f g)
      (alike-none v element.FieldJsonName (json_side f) (json_side g) json)
      (both-none (form_changes v found f g) (repeated_changes v found f g)
      (kept-none (tells v.direction found f.entry.number change.Kind) (keeps_form v f g)
      (told_between v element.FieldJson (form_side (writer v) f) (form_side (reader v) g) ∷ [])
      (or_left (keeps_values v f.entry.kind g.entry.kind) (are_messages_alike v f.entry.kind g.entry.kind)
      (or_right (reads_number f.entry.kind g.entry.kind) (are_formed_alike v f.entry.kind g.entry.kind) form)))
      (either-none (tells v.direction found f.entry.number change.Cardinality)
      (differing v element.FieldRepeated (repeated_side f) (repeated_side g))
      (alike-none v element.FieldRepeated (repeated_side f) (repeated_side g) repeated)))

  pub source_none : (x y : MessageDescriptorInner) → are_alike (name_side f) (name_side g) ≡ true → are_typed_alike v f.entry.kind g.entry.kind ≡ true
      → are_alike (presence_side f) (presence_side g) ≡ true → are_alike (oneof_side (writer v) x f) (oneof_side (reader v) y g) ≡ true
      → have_first_alike v f g ≡ true → part_source v x y found f g ≡ []
  source_none x y name type presence oneof default =
      both-none (name_changes v f g) (type_changes v found f g ++ (presence_changes v found f g ++ (oneof_moves v x y found f g ++ default_changes v f g)))
      (or-none (bytes_eq f.json_name g.json_name) (differing v element.FieldName (name_side f) (name_side g)) (alike-none v element.FieldName (name_side f) (name_side g) name))
      (both-none (type_changes v found f g) (presence_changes v found f g ++ (oneof_moves v x y found f g ++ default_changes v f g))
      (either-none (tells v.direction found f.entry.number change.Kind || not (keeps_form v f g))
      (differing v element.FieldType (type_side (writer v) f) (type_side (reader v) g))
      (alike-none v element.FieldType (type_side (writer v) f) (type_side (reader v) g) type))
      (both-none (presence_changes v found f g) (oneof_moves v x y found f g ++ default_changes v f g)
      (either-none (tells v.direction found f.entry.number change.Required || one_repeats f g)
      (differing v element.FieldPresence (presence_side f) (presence_side g))
      (alike-none v element.FieldPresence (presence_side f) (presence_side g) presence))
      (both-none (oneof_moves v x y found f g) (default_changes v f g)
      (either-none (tells v.direction found f.entry.number change.Oneof)
      (differing v element.FieldOneof (oneof_side (writer v) x f) (oneof_side (reader v) y g))
      (alike-none v element.FieldOneof (oneof_side (writer v) x f) (oneof_side (reader v) y g) oneof))
      (ap (λ b. if b then [] else differing v element.FieldDefault (default_side (writer v) f) (default_side (reader v) g)) default))))
