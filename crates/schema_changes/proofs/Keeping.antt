-- Where nothing is lost, the new message keeps the old one.
use Rattle.std.proofs.Common.{◌≡◌, ◌≢◌, ℕ, zero, suc, Bool, true, false, not, cond, eqb, ◌==◌, length, ◌&&◌, ◌||◌, List, [], ◌∷◌, ◌++◌, Option, Some, None, option_map, option_and_then, slice_get, is_some, unwrap_or, flat_map, ◌⊎◌, inl, inr, refl, ap, sym, subst, subst₂, ◌∙◌, arith}
use Rattle.std.proofs.lemmas.Bool.{and_parts, and_from, eq-eqb, eqb-true, or_cases, or_left, or_right, false≢true, false_from_ne_true}
use Rattle.std.proofs.lemmas.List.Elements.{All-contains, All-from_recursion, filter-append}
use Rattle.std.specs.FinMap as finite
use Rattle.std.specs.Prelude.{⊤}
use Rattle.std.specs.List.{AllByRecursion, Contains, list_all}
use Rattle.std.specs.Option.{is_none, option_map_or, option_or}
use Rattle.pool_types.specs.Kinds.{is_message}
use Rattle.pool_types.specs.LookUps.{field_numbered}
use Rattle.pool_types.specs.declared.contents.extension.ExtensionDescriptorInner.{ExtensionDescriptorInner}
use Rattle.pool_types.specs.declared.contents.field.FieldDescriptorInner.{FieldDescriptorInner}
use Rattle.pool_types.specs.declared.contents.message.MessageDescriptorInner.{MessageDescriptorInner}
use Rattle.pool_types.specs.declared.contents.oneof.OneofDescriptorInner.{OneofDescriptorInner}
use Rattle.pool_types.specs.declared.kinds.Cardinality.{Cardinality}
use Rattle.pool_types.specs.declared.kinds.Cardinality.TheVariants as cardinality
use Rattle.pool_types.specs.declared.kinds.KindIndex.{KindIndex}
use Rattle.pool_types.specs.declared.kinds.KindIndex.TheVariants as index
use Rattle.message_values.specs.Values.{Numbered}
use Rattle.message_values.specs.Schema.{Kind, Field}
use Rattle.message_values.specs.Schema as kind
use Rattle.message_values.specs.Numbers.{Form, form}
use Rattle.message_values.specs.Numbers as form
use Rattle.message_values.specs.Fields.{in_one}
use Rattle.message_values.specs.Fields as fields
use Rattle.message_values.specs.Reading.{IsRead}
use Rattle.message_values.specs.Writing.{Besides, IsWritten}
use Rattle.message_values.specs.Kept.{Pairs, KeepsCardinality, KeepsField, KeepsMessage, KeepsAll}
use Rattle.message_values.specs.Carried.{AreCarried}
use Rattle.message_values.proofs.Step.{law}
use Rattle.schema_changes.specs.declared.change.WireChange.{WireChange}
use Rattle.schema_changes.specs.declared.change.WireChangeKind.{WireChangeKind}
use Rattle.schema_changes.specs.declared.change.WireChangeKind.TheVariants as change
use Rattle.schema_changes.specs.declared.entries.Entry.{Entry}
use Rattle.schema_changes.specs.Parts.{Parts, in_proto3, are_named_alike, named_as, one_name}
use Rattle.schema_changes.specs.Entries.{field_entry, extension_entry, extension_at, extension_in, entry_numbered, entry_at, kind_seen, cardinality_seen, field_seen, field_at, schema_of}
use Rattle.schema_changes.specs.Kinds.{entry_check, keeps_numbers, keeps_check, messages_of, keeps_kind_by, keeps_cardinality, is_repeated, is_required}
use Rattle.schema_changes.specs.MapEntries.{is_map_entry, map_entry_at, plain_message_at}
use Rattle.schema_changes.specs.Pairs.{keeps_but_kind, keeps_entry, keeps_part, keeps_number, leaves_reserved, keeps_parts, keeps_there, are_alike, keeps_map, are_inner_pairs, keeps_message, are_paired, are_matched, keeps_kind}
use Rattle.schema_changes.specs.Records.{keeps_range, reserved_of}
use Rattle.schema_changes.specs.Changes.{Compared, old_entry, new_entry, unless, kept_changes, entry_changes, old_member, first_some, joined_changes, members_changes, oneof_changes, was_required, required_changes, taken_changes, added_changes, extension_changes, added_extension_changes, range_changes, message_changes, is_lossy, losses}
use Rattle.schema_changes.specs.Unchanged.{LooksUp, LookUp, NothingIsLost, IsReached, IsClosed, LeavesOut}
use Rattle.schema_changes.proofs.Forms.{named_alike, keeps-form}

-- ---- lists that are empty

pub left-none : {A : Type 0} (xs ys : List A) → xs ++ ys ≡ [] → xs ≡ []
left-none [] ys h = refl
left-none (x ∷ xs) ys h = absurd cc

pub right-none : {A : Type 0} (xs ys : List A) → xs ++ ys ≡ [] → ys ≡ []
right-none [] ys h = h
right-none (x ∷ xs) ys h = absurd cc

pub each-none : {A B : Type 0} (f : A → List B) (xs : List A) → flat_map f xs ≡ [] → AllByRecursion (λ x. f x ≡ []) xs
each-none f [] h = tt
each-none f (x ∷ xs) h = (left-none (f x) (flat_map f xs) h, each-none f xs (right-none (f x) (flat_map f xs) h))

-- ---- changes of which none loses anything

-- none of some changes loses anything
abbrev pub Unlost : List WireChange → Type 0
Unlost changes = losses changes ≡ []

parted : (a b : List WireChange) → losses (a ++ b) ≡ losses a ++ losses b
parted a b = filter-append (λ (w : WireChange). is_lossy w.kind) a b

pub left-unlost : (a b : List WireChange) → Unlost (a ++ b) → Unlost a
left-unlost a b h = left-none (losses a) (losses b) (sym (parted a b) ∙ h)

pub right-unlost : (a b : List WireChange) → Unlost (a ++ b) → Unlost b
right-unlost a b h = right-none (losses a) (losses b) (sym (parted a b) ∙ h)

each-unlost : {A : Type 0} (f : A → List WireChange) (xs : List A) → Unlost (flat_map f xs) → AllByRecursion (λ x. Unlost (f x)) xs
each-unlost f [] h = tt
each-unlost f (x ∷ xs) h = (left-unlost (f x) (flat_map f xs) h, each-unlost f xs (right-unlost (f x) (flat_map f xs) h))

five-unlost : (a b c d e f : List WireChange) → Unlost (a ++ (b ++ (c ++ (d ++ (e ++ f))))) → Unlost a × Unlost b × Unlost c × Unlost d × Unlost e
five-unlost a b c d e f h =
    let p = right-unlost a (b ++ (c ++ (d ++ (e ++ f)))) h in
    let q = right-unlost b (c ++ (d ++ (e ++ f))) p in
    let r = right-unlost c (d ++ (e ++ f)) q in
    let s = right-unlost d (e ++ f) r in
    (left-unlost a (b ++ (c ++ (d ++ (e ++ f)))) h, left-unlost b (c ++ (d ++ (e ++ f))) p, left-unlost c (d ++ (e ++ f)) q, left-unlost d (e ++ f) r, left-unlost e f s)

-- what holds of each element, at an index
pub at-index : {A : Type 0} (P : A → Type 0) (xs : List A) (i : ℕ) (x : A) → AllByRecursion P xs → slice_get xs i ≡ Some x → P x
at-index P [] i x all e = absurd cc
at-index P (y ∷ ys) zero x all e = let same : y ≡ x = cc in subst P same all.0
at-index P (y ∷ ys) (suc i) x all e = at-index P ys i x all.1 e

pub at-contained : {A : Type 0} (P : A → Type 0) (xs : List A) (x : A) → AllByRecursion P xs → Contains xs x → P x
at-contained P xs x all has = All-contains P xs x (All-from_recursion P xs all) has

-- a change that loses something is not there, so its test passes
passed : (ok : Bool) (n : ℕ) (k : WireChangeKind) → is_lossy k ≡ true → Unlost (unless ok n k) → ok ≡ true
passed true n k lossy h = refl
passed false n k lossy h =
    let c : WireChange = record { number = n; kind = k } in
    let one : c ∷ [] ≡ [] = sym (ap (λ b. cond b (c ∷ []) []) lossy) ∙ h in
    absurd cc

pub mapped : {A B : Type 0} (f : A → B) (o : Option A) (y : B) → option_map f o ≡ Some y → (x : A) × (o ≡ Some x) × (f x ≡ y)
mapped f (Some x) y h = let same : f x ≡ y = cc in (x, refl, same)
mapped f None y h = absurd cc

pub followed : {A B : Type 0} (f : A → Option B) (o : Option A) (y : B) → option_and_then f o ≡ Some y → (x : A) × (o ≡ Some x) × (f x ≡ Some y)
followed f (Some x) y h = (x, refl, h)
followed f None y h = absurd cc

-- ---- kinds and cardinalities

abbrev HasMessages : Form → Bool → Type 0
HasMessages (form.Message m) b = b ≡ true
HasMessages (form.Group m) b = b ≡ true
HasMessages _ b = ⊤

has-messages : (b : Bool) (k : KindIndex) → HasMessages (form (kind_seen b k)) (is_message k)
has-messages b (index.Message m) = refl
has-messages b (index.Group m) = refl
has-messages b _ = tt

same-repeated : (c d : Cardinality) → cond (is_repeated c) (is_repeated d) (not (true && is_repeated d)) ≡ true → fields.is_repeated (cardinality_seen c) ≡ fields.is_repeated (cardinality_seen d)
same-repeated cardinality.Optional cardinality.Optional h = refl
same-repeated cardinality.Optional cardinality.Required h = refl
same-repeated cardinality.Required cardinality.Optional h = refl
same-repeated cardinality.Required cardinality.Required h = refl
same-repeated cardinality.Repeated cardinality.Repeated h = refl
same-repeated _ _ h = absurd (false≢true h)

still-repeated : (b : Bool) (c d : Cardinality) → cond (is_repeated c) (is_repeated d) (not (b && is_repeated d)) ≡ true → fields.is_repeated (cardinality_seen c) ≡ true → fields.is_repeated (cardinality_seen d) ≡ true
still-repeated b cardinality.Repeated cardinality.Repeated h e = refl
still-repeated b cardinality.Repeated cardinality.Optional h e = absurd (false≢true h)
still-repeated b cardinality.Repeated cardinality.Required h e = absurd (false≢true h)
still-repeated b cardinality.Optional d h e = absurd (false≢true e)
still-repeated b cardinality.Required d h e = absurd (false≢true e)

cardinality-by : (F : Form) (b : Bool) (c d : Cardinality) → HasMessages F b → cond (is_repeated c) (is_repeated d) (not (b && is_repeated d)) ≡ true → KeepsCardinality F (cardinality_seen c) (cardinality_seen d)
cardinality-by (form.Message m) b c d has h = same-repeated c d (subst (λ x. cond (is_repeated c) (is_repeated d) (not (x && is_repeated d)) ≡ true) has h)
cardinality-by (form.Group m) b c d has h = same-repeated c d (subst (λ x. cond (is_repeated c) (is_repeated d) (not (x && is_repeated d)) ≡ true) has h)
cardinality-by (form.Number k) b c d has h = still-repeated b c d h
cardinality-by form.Text b c d has h = still-repeated b c d h

required-seen : (c : Cardinality) → cardinality_seen c ≡ kind.Required → is_required c ≡ true
required-seen cardinality.Required h = refl
required-seen cardinality.Optional h = absurd cc
required-seen cardinality.Repeated h = absurd cc

seen-required : (c : Cardinality) → is_required c ≡ true → cardinality_seen c ≡ kind.Required
seen-required cardinality.Required h = refl
seen-required cardinality.Optional h = absurd (false≢true h)
seen-required cardinality.Repeated h = absurd (false≢true h)

was-some : (o : Option Entry) → was_required o ≡ true → (f : Entry) × (o ≡ Some f) × (is_required f.cardinality ≡ true)
was-some (Some f) h = (f, refl, h)
was-some None h = absurd (false≢true h)

or_of_not : (b c : Bool) → (not b || c) ≡ true → b ≡ true → c ≡ true
or_of_not true c h e = h
or_of_not false c h e = absurd (false≢true e)

-- ---- entries

-- where an entry comes from: a field at a position, or an extension that is listed
pub data Source (p : Parts) (m : MessageDescriptorInner) (f : Entry) : Type 0 where
  OfField : (i : ℕ) (x : FieldDescriptorInner) → slice_get m.fields i ≡ Some x → field_entry x ≡ f → Source p m f
  OfExtension : (i : ℕ) → Contains m.extensions i → extension_in p m i ≡ Some f → f.oneof ≡ None → Source p m f

number-at : (xs : List FieldDescriptorInner) (i n : ℕ) (x : FieldDescriptorInner) → slice_get xs i ≡ Some x → option_map (λ f. f.number) (slice_get xs i) ≡ Some n → x.number ≡ n
number-at xs i n x e h = let same : Some x.number ≡ Some n = sym (ap (option_map (λ (f : FieldDescriptorInner). f.number)) e) ∙ h in cc

extension-number : (xs : List ExtensionDescriptorInner) (i n : ℕ) (x : ExtensionDescriptorInner) → slice_get xs i ≡ Some x → option_map (λ f. f.number) (slice_get xs i) ≡ Some n → x.number ≡ n
extension-number xs i n x e h = let same : Some x.number ≡ Some n = sym (ap (option_map (λ (f : ExtensionDescriptorInner). f.number)) e) ∙ h in cc

-- an entry that is found by a number has that number
source-by : (p : Parts) (m : MessageDescriptorInner) → LooksUp p m → (n : ℕ) (f : Entry) (o : Option FieldDescriptorInner) → field_numbered m n ≡ o
    → option_or (option_map field_entry o) (option_and_then (extension_at p) (finite.get m.extension_numbers n)) ≡ Some f → Source p m f × (f.number ≡ n)
source-by p m looks n f (Some x) e h =
    let same : field_entry x ≡ f = cc in
    let at = followed (slice_get m.fields) (finite.get m.field_numbers n) x e in
    (OfField at.0 x at.2 same, sym (ap (λ (g : Entry). g.number) same) ∙ number-at m.fields at.0 n x at.2 (looks.fields n at.0 at.1))
source-by p m looks n f None e h =
    let at = followed (extension_at p) (finite.get m.extension_numbers n) f h in
    let listed = looks.extensions n at.0 at.1 in
    let x = mapped extension_entry (slice_get p.extensions at.0) f at.2 in
    let number : f.number ≡ n = sym (ap (λ (g : Entry). g.number) x.2) ∙ extension-number p.extensions at.0 n x.0 x.1 listed.1 in
    let own : Entry → Option Entry = λ g. cond (is_some (field_numbered m g.number)) None (Some g) in
    let here = ap (option_and_then own) at.2 ∙ ap (λ got. cond (is_some got) None (Some f)) (ap (field_numbered m) number ∙ e) in
    (OfExtension at.0 listed.0 here (sym (ap (λ (g : Entry). g.oneof) x.2)), number)

pub source : (p : Parts) (m : MessageDescriptorInner) → LooksUp p m → (n : ℕ) (f : Entry) → entry_numbered p m n ≡ Some f → Source p m f × (f.number ≡ n)
unfolding entry_numbered
source p m looks n f h = source-by p m looks n f (field_numbered m n) refl h

-- what holds of each field and of each extension holds of an entry
pub by-source : (P : Entry → Type 0) (Q : Option Entry → Type 0) (p : Parts) (m : MessageDescriptorInner) (f : Entry) → AllByRecursion (λ x. P (field_entry x)) m.fields → AllByRecursion (λ i. Q (extension_in p m i)) m.extensions
    → ((g : Entry) → Q (Some g) → P g) → Source p m f → P f
by-source P Q p m f of-fields of-extensions step (OfField i x e same) = subst P same (at-index (λ y. P (field_entry y)) m.fields i x of-fields e)
by-source P Q p m f of-fields of-extensions step (OfExtension i has e none) = step f (subst Q e (at-contained (λ j. Q (extension_in p m j)) m.extensions i of-extensions has))

-- ---- the first member of a oneof

first-by : (f : ℕ → Option Entry) (x : ℕ) (xs : List ℕ) (o : Option Entry) → f x ≡ o → (a : Entry) → option_or o (first_some f xs) ≡ Some a
    → ((a : Entry) → first_some f xs ≡ Some a → (j : ℕ) × (f j ≡ Some a)) → (j : ℕ) × (f j ≡ Some a)
first-by f x xs (Some b) e a h more = let same : b ≡ a = cc in (x, e ∙ ap Some same)
first-by f x xs None e a h more = more a h

first-is : (f : ℕ → Option Entry) (xs : List ℕ) (a : Entry) → first_some f xs ≡ Some a → (j : ℕ) × (f j ≡ Some a)
first-is f [] a h = absurd cc
first-is f (x ∷ xs) a h = first-by f x xs (f x) refl a h (first-is f xs)

-- a member changes nothing by itself, or there is no first one
joined-at : (c : Compared) (o : Option Entry) (xs : List ℕ) (f : Entry) (i : ℕ) → Unlost (members_changes c o xs) → Contains xs i → old_member c i ≡ Some f
    → (o ≡ None) ⊎ ((a : Entry) × (o ≡ Some a) × ((eqb a.number f.number || in_one a.oneof f.oneof) ≡ true))
joined-at c None xs f i none has e = inl refl
joined-at c (Some a) xs f i none has e =
    let at = at-contained (λ j. Unlost (joined_changes a (old_member c j))) xs i (each-unlost (λ j. joined_changes a (old_member c j)) xs none) has in
    inr (a, refl, passed (eqb a.number f.number || in_one a.oneof f.oneof) f.number change.Oneof refl (subst (λ o. Unlost (joined_changes a o)) e at))

-- a list with a member has a first one
first-some-at : (f : ℕ → Option Entry) (xs : List ℕ) (i : ℕ) (a : Entry) → first_some f xs ≡ None → Contains xs i → f i ≡ Some a → ⊥
first-some-at f xs i a none has e = let at = at-contained (λ j. f j ≡ None) xs i (all-none xs none) has in absurd cc
  where
    each : (x : ℕ) (ys : List ℕ) (o : Option Entry) → f x ≡ o → option_or o (first_some f ys) ≡ None → (f x ≡ None) × (first_some f ys ≡ None)
    each x ys None e h = (e, h)
    each x ys (Some b) e h = absurd cc

    all-none : (xs : List ℕ) → first_some f xs ≡ None → AllByRecursion (λ j. f j ≡ None) xs
    all-none [] h = tt
    all-none (x ∷ ys) h = let both = each x ys (f x) refl h in (both.0, all-none ys both.1)

one_oneof : (a b c : Option ℕ) → in_one a b ≡ true → in_one a c ≡ true → in_one b c ≡ true
one_oneof (Some x) (Some y) (Some z) h k = let xy : x ≡ y = eqb-true x y h in let xz : x ≡ z = eqb-true x z k in subst₂ (λ u v. eqb u v ≡ true) xy xz (eq-eqb x x refl)
one_oneof (Some x) (Some y) None h k = absurd (false≢true k)
one_oneof (Some x) None c h k = absurd (false≢true h)
one_oneof None b c h k = absurd (false≢true h)

turned : (a b : Option ℕ) → in_one a b ≡ true → in_one b a ≡ true
turned (Some x) (Some y) h = let same : x ≡ y = eqb-true x y h in eq-eqb y x (sym same)
turned (Some x) None h = absurd (false≢true h)
turned None b h = absurd (false≢true h)

-- both are in one oneof with the first, or are it
both-joined : (k l : ℕ) (a f g : Entry) → k ≢ l → f.number ≡ k → g.number ≡ l → (a.number ≡ f.number → a ≡ f) → (a.number ≡ g.number → a ≡ g)
    → (eqb a.number f.number || in_one a.oneof f.oneof) ≡ true → (eqb a.number g.number || in_one a.oneof g.oneof) ≡ true → in_one f.oneof g.oneof ≡ true
both-joined k l a f g apart fk gl is-f is-g h i =
    elim (or_cases (eqb a.number f.number) (in_one a.oneof f.oneof) h) [
      | inl same ↦ elim (or_cases (eqb a.number g.number) (in_one a.oneof g.oneof) i) [
        | inl same' ↦ absurd (apart (sym fk ∙ sym (eqb-true _ _ same) ∙ eqb-true _ _ same' ∙ gl))
        | inr with' ↦ subst (λ (x : Entry). in_one x.oneof g.oneof ≡ true) (is-f (eqb-true _ _ same)) with'
      ]
      | inr with ↦ elim (or_cases (eqb a.number g.number) (in_one a.oneof g.oneof) i) [
        | inl same' ↦ turned g.oneof f.oneof (subst (λ (x : Entry). in_one x.oneof f.oneof ≡ true) (is-g (eqb-true _ _ same')) with)
        | inr with' ↦ one_oneof a.oneof f.oneof g.oneof with with'
      ]
    ]

-- ---- a message of which nothing is lost

module _ (reached : ℕ → Bool) (c : Compared) (looks-old : LooksUp c.old c.before) (looks-new : LooksUp c.new c.after) (reaches : (k : ℕ) (f : Entry) → old_entry c k ≡ Some f → IsReached reached f.kind) (none : Unlost (message_changes c)) where
  lists-none : Unlost (flat_map (λ x. entry_changes c (field_entry x)) c.before.fields) × Unlost (flat_map (λ i. extension_changes c (extension_in c.old c.before i)) c.before.extensions) × Unlost (flat_map (oneof_changes c) c.after.oneofs)
      × Unlost (flat_map (λ x. added_changes c (field_entry x)) c.after.fields) × Unlost (flat_map (λ i. added_extension_changes c (extension_in c.new c.after i)) c.after.extensions)
  lists-none =
      five-unlost (flat_map (λ x. entry_changes c (field_entry x)) c.before.fields) (flat_map (λ i. extension_changes c (extension_in c.old c.before i)) c.before.extensions) (flat_map (oneof_changes c) c.after.oneofs)
      (flat_map (λ x. added_changes c (field_entry x)) c.after.fields) (flat_map (λ i. added_extension_changes c (extension_in c.new c.after i)) c.after.extensions)
      (flat_map (range_changes c) (reserved_of c.old c.before)) none

  fields-none : AllByRecursion (λ x. Unlost (entry_changes c (field_entry x))) c.before.fields
  fields-none = each-unlost (λ x. entry_changes c (field_entry x)) c.before.fields lists-none.0

  extensions-none : AllByRecursion (λ i. Unlost (extension_changes c (extension_in c.old c.before i))) c.before.extensions
  extensions-none = each-unlost (λ i. extension_changes c (extension_in c.old c.before i)) c.before.extensions lists-none.1

  oneofs-none : AllByRecursion (λ o. Unlost (oneof_changes c o)) c.after.oneofs
  oneofs-none = each-unlost (oneof_changes c) c.after.oneofs lists-none.2

  required-none : AllByRecursion (λ x. Unlost (added_changes c (field_entry x))) c.after.fields
  required-none = each-unlost (λ x. added_changes c (field_entry x)) c.after.fields lists-none.3

  required-extensions-none : AllByRecursion (λ i. Unlost (added_extension_changes c (extension_in c.new c.after i))) c.after.extensions
  required-extensions-none = each-unlost (λ i. added_extension_changes c (extension_in c.new c.after i)) c.after.extensions lists-none.4

  kept-at : (k : ℕ) (f g : Entry) → old_entry c k ≡ Some f → new_entry c k ≡ Some g → Unlost (kept_changes c f (Some g))
  kept-at k f g e eg =
      let s = source c.old c.before looks-old k f e in
      let h = by-source (λ y. Unlost (entry_changes c y)) (λ o. Unlost (extension_changes c o)) c.old c.before f fields-none extensions-none (λ y q. q) s.0 in
      subst (λ o. Unlost (kept_changes c f o)) (ap (new_entry c) s.1 ∙ eg) h

  entry-kept : (k : ℕ) (f g : Entry) → old_entry c k ≡ Some f → new_entry c k ≡ Some g → KeepsField (named_alike reached c.old c.new) (schema_of c.old) (schema_of c.new) (field_seen c.old f) (field_seen c.new g)
  entry-kept k f g e eg =
      let h = kept-at k f g e eg in
      let kind : keeps_kind c.old f c.new g ≡ true = passed (keeps_kind c.old f c.new g) f.number change.Kind refl (left-unlost (unless (keeps_kind c.old f c.new g) f.number change.Kind) (unless (keeps_cardinality f.kind f.cardinality g.cardinality) f.number change.Cardinality) h) in
      let card : keeps_cardinality f.kind f.cardinality g.cardinality ≡ true = passed (keeps_cardinality f.kind f.cardinality g.cardinality) f.number change.Cardinality refl (right-unlost (unless (keeps_kind c.old f c.new g) f.number change.Kind) (unless (keeps_cardinality f.kind f.cardinality g.cardinality) f.number change.Cardinality) h) in
      record {
        kind = keeps-form reached c.old c.new f g (reaches k f e) kind;
        cardinality = cardinality-by (form (kind_seen (in_proto3 c.old f.file) f.kind)) (is_message f.kind) f.cardinality g.cardinality (has-messages (in_proto3 c.old f.file) f.kind) card;
      }

  -- the oneof of a new entry, in which its position is listed
  in-oneof : (k : ℕ) (g : Entry) (o : ℕ) → new_entry c k ≡ Some g → g.oneof ≡ Some o
      → (w : OneofDescriptorInner) × (i : ℕ) × (slice_get c.after.oneofs o ≡ Some w) × Contains w.fields i × (old_member c i ≡ old_entry c k)
  in-oneof k g o e eo = by (source c.new c.after looks-new k g e).0 (source c.new c.after looks-new k g e).1
    where
      by : Source c.new c.after g → g.number ≡ k → (w : OneofDescriptorInner) × (i : ℕ) × (slice_get c.after.oneofs o ≡ Some w) × Contains w.fields i × (old_member c i ≡ old_entry c k)
      by (OfField i x at same) number =
          let w = looks-new.oneofs i o x at (ap (λ (y : Entry). y.oneof) same ∙ eo) in
          (w.0, i, w.1, w.2, ap (option_and_then (λ (y : FieldDescriptorInner). old_entry c y.number)) at ∙ ap (old_entry c) (ap (λ (y : Entry). y.number) same ∙ number))
      by (OfExtension i has at nothing) number = let no : None ≡ Some o = sym nothing ∙ eo in absurd cc

  member-found : (k : ℕ) (a f : Entry) → old_entry c k ≡ Some f → (j : ℕ) → old_member c j ≡ Some a → a.number ≡ f.number → a ≡ f
  member-found k a f e j at same =
      let x = followed (λ (y : FieldDescriptorInner). old_entry c y.number) (slice_get c.after.fields j) a at in
      let number : a.number ≡ (x.0).number = (source c.old c.before looks-old (x.0).number a x.2).1 in
      let fk : f.number ≡ k = (source c.old c.before looks-old k f e).1 in
      let here : old_entry c k ≡ Some a = ap (old_entry c) (sym fk ∙ sym same ∙ number) ∙ x.2 in
      cc

  entries-joined : (k l o : ℕ) (f f' g g' : Entry) → k ≢ l → old_entry c k ≡ Some f → old_entry c l ≡ Some f' → new_entry c k ≡ Some g → new_entry c l ≡ Some g' → g.oneof ≡ Some o → g'.oneof ≡ Some o → in_one f.oneof f'.oneof ≡ true
  entries-joined k l o f f' g g' apart e e' eg eg' eo eo' =
      let w = in-oneof k g o eg eo in
      let w' = in-oneof l g' o eg' eo' in
      let one : w'.0 ≡ w.0 = (let two : Some w'.0 ≡ Some w.0 = sym w'.2 ∙ w.2 in cc) in
      let none-here = at-index (λ v. Unlost (oneof_changes c v)) c.after.oneofs o w.0 oneofs-none w.2 in
      let first = first_some (old_member c) (w.0).fields in
      let has' : Contains (w.0).fields w'.1 = subst (λ (v : OneofDescriptorInner). Contains v.fields w'.1) one w'.3 in
      let mine : old_member c w.1 ≡ Some f = w.4 ∙ e in
      let mine' : old_member c w'.1 ≡ Some f' = w'.4 ∙ e' in
      elim (joined-at c first (w.0).fields f w.1 none-here w.3 mine) [
        | inl empty ↦ absurd (first-some-at (old_member c) (w.0).fields w.1 f empty w.3 mine)
        | inr p ↦ elim (joined-at c first (w.0).fields f' w'.1 none-here has' mine') [
          | inl empty ↦ absurd (first-some-at (old_member c) (w.0).fields w.1 f empty w.3 mine)
          | inr q ↦
              let same : q.0 ≡ p.0 = (let two : Some q.0 ≡ Some p.0 = sym q.1 ∙ p.1 in cc) in
              let j = first-is (old_member c) (w.0).fields p.0 p.1 in
              both-joined k l p.0 f f' apart (source c.old c.before looks-old k f e).1 (source c.old c.before looks-old l f' e').1
              (member-found k p.0 f e j.0 j.1) (member-found l p.0 f' e' j.0 j.1) p.2
              (subst (λ (y : Entry). (eqb y.number f'.number || in_one y.oneof f'.oneof) ≡ true) same q.2)
        ]
      ]

  oneofs-at : (k l : ℕ) (f f' g g' : Entry) (o o' : Option ℕ) → k ≢ l → old_entry c k ≡ Some f → old_entry c l ≡ Some f' → new_entry c k ≡ Some g → new_entry c l ≡ Some g'
      → g.oneof ≡ o → g'.oneof ≡ o' → in_one o o' ≡ true → in_one f.oneof f'.oneof ≡ true
  oneofs-at k l f f' g g' (Some o) (Some p) apart e e' eg eg' eo eo' one = let same : o ≡ p = eqb-true o p one in entries-joined k l o f f' g g' apart e e' eg eg' eo (eo' ∙ ap Some (sym same))
  oneofs-at k l f f' g g' (Some o) None apart e e' eg eg' eo eo' one = absurd (false≢true one)
  oneofs-at k l f f' g g' None o' apart e e' eg eg' eo eo' one = absurd (false≢true one)

  required-at : (k : ℕ) (g : Entry) → new_entry c k ≡ Some g → is_required g.cardinality ≡ true → (f : Entry) × (old_entry c k ≡ Some f) × (is_required f.cardinality ≡ true)
  required-at k g eg needs =
      let s = source c.new c.after looks-new k g eg in
      let h = by-source (λ y. Unlost (added_changes c y)) (λ o. Unlost (added_extension_changes c o)) c.new c.after g required-none required-extensions-none (λ y q. q) s.0 in
      let was = was-some (old_entry c g.number) (or_of_not (is_required g.cardinality) _ (passed (not (is_required g.cardinality) || was_required (old_entry c g.number)) g.number change.Required refl (left-unlost (required_changes c g) (taken_changes c g) h)) needs) in
      (was.0, ap (old_entry c) (sym s.1) ∙ was.1, was.2)

-- ---- the entries of the message with an index

module _ (p : Parts) (m : ℕ) (x : MessageDescriptorInner) (at : slice_get p.messages m ≡ Some x) where
  entry-is : (k : ℕ) → entry_at p m k ≡ entry_numbered p x k
  unfolding entry_at
  entry-is k = ap (option_and_then (λ (z : MessageDescriptorInner). entry_numbered p z k)) at

  entry-seen : (k : ℕ) (F : Field) → field_at p m k ≡ Some F → (f : Entry) × (entry_numbered p x k ≡ Some f) × (field_seen p f ≡ F)
  entry-seen k F e = let f = mapped (field_seen p) _ F e in (f.0, sym (entry-is k) ∙ f.1, f.2)

-- a new message has no entry of a number that the old one may have besides
left-out : (besides : ℕ → Bool) (new : Parts) (n : ℕ) → ((k : ℕ) → besides k ≡ true → entry_at new n k ≡ None) → (k : ℕ) (G : Field) → field_at new n k ≡ Some G → besides k ≡ false
left-out besides new n free k G eg =
    let g = mapped (field_seen new) _ G eg in
    false_from_ne_true _ (λ has. let found : entry_at new n k ≡ Some g.0 = g.1 in let left : entry_at new n k ≡ None = free k has in absurd cc)

-- ---- the messages with two indexes

module _ (reached : ℕ → Bool) (old new : Parts) (m n : ℕ) (x y : MessageDescriptorInner) (at-x : slice_get old.messages m ≡ Some x) (at-y : slice_get new.messages n ≡ Some y) (looks-old : LooksUp old x) (looks-new : LooksUp new y)
    (reaches : (k : ℕ) (f : Entry) → entry_at old m k ≡ Some f → IsReached reached f.kind) (besides : Besides) (free : (k : ℕ) → besides m k ≡ true → entry_at new n k ≡ None) (none : Unlost (message_changes (record { old = old; before = x; new = new; after = y }))) where
  abbrev c : Compared
  c = record { old = old; before = x; new = new; after = y }

  reached-at : (k : ℕ) (f : Entry) → entry_numbered old x k ≡ Some f → IsReached reached f.kind
  reached-at k f e = reaches k f (entry-is old m x at-x k ∙ e)

  fields-kept : (k : ℕ) (F G : Field) → field_at old m k ≡ Some F → field_at new n k ≡ Some G → KeepsField (named_alike reached old new) (schema_of old) (schema_of new) F G
  fields-kept k F G e eg =
      let f = entry-seen old m x at-x k F e in
      let g = entry-seen new n y at-y k G eg in
      subst₂ (λ a b. KeepsField (named_alike reached old new) (schema_of old) (schema_of new) a b) f.2 g.2 (entry-kept reached c looks-old looks-new reached-at none k f.0 g.0 f.1 g.1)

  oneofs-kept : (k l : ℕ) (F F' G G' : Field) → field_at old m k ≡ Some F → field_at old m l ≡ Some F' → field_at new n k ≡ Some G → field_at new n l ≡ Some G' → k ≢ l → in_one G.oneof G'.oneof ≡ true → in_one F.oneof F'.oneof ≡ true
  oneofs-kept k l F F' G G' e e' eg eg' apart one =
      let f = entry-seen old m x at-x k F e in
      let f' = entry-seen old m x at-x l F' e' in
      let g = entry-seen new n y at-y k G eg in
      let g' = entry-seen new n y at-y l G' eg' in
      subst₂ (λ (a b : Field). in_one a.oneof b.oneof ≡ true) f.2 f'.2
      (oneofs-at reached c looks-old looks-new reached-at none k l f.0 f'.0 g.0 g'.0 (g.0).oneof (g'.0).oneof apart f.1 f'.1 g.1 g'.1 refl refl
      (subst₂ (λ (a b : Field). in_one a.oneof b.oneof ≡ true) (sym g.2) (sym g'.2) one))

  required-kept : (k : ℕ) (G : Field) → field_at new n k ≡ Some G → G.cardinality ≡ kind.Required → (F : Field) × (field_at old m k ≡ Some F) × (F.cardinality ≡ kind.Required)
  required-kept k G eg req =
      let g = entry-seen new n y at-y k G eg in
      let needs : is_required (g.0).cardinality ≡ true = required-seen (g.0).cardinality (ap (λ (z : Field). z.cardinality) g.2 ∙ req) in
      let f = required-at reached c looks-old looks-new reached-at none k g.0 g.1 needs in
      (field_seen old f.0, ap (option_map (field_seen old)) (entry-is old m x at-x k ∙ f.1), seen-required (f.0).cardinality f.2)

  pub keeps-message : KeepsMessage (named_alike reached old new) besides (schema_of old) (schema_of new) m n
  keeps-message = record { fields = fields-kept; required = required-kept; oneofs = oneofs-kept; left_out = left-out (besides m) new n free }

-- ---- messages that are a pair by their parts

all-at : {X : Type 0} (test : X → Bool) (xs : List X) (i : ℕ) (x : X) → list_all test xs ≡ true → slice_get xs i ≡ Some x → test x ≡ true
all-at test [] i x all at = absurd cc
all-at test (y ∷ ys) zero x all at = let same : y ≡ x = cc in ap test (sym same) ∙ (and_parts (test y) (list_all test ys) all).0
all-at test (y ∷ ys) (suc i) x all at = all-at test ys i x (and_parts (test y) (list_all test ys) all).1 at

none-contained : (xs : List ℕ) (x : ℕ) → (length xs == 0) ≡ true → Contains xs x → ⊥
none-contained xs x empty has = let none : length xs ≡ 0 = eqb-true (length xs) 0 empty in omega (arith, none, has.1)

-- what kinds keep by one test they keep by a wider one
kind-wider : (P Q : Pairs) (old new : Parts) (f g : Entry) → ((m n : ℕ) → P m n ≡ true → Q m n ≡ true) → keeps_kind_by P old f new g ≡ true → keeps_kind_by Q old f new g ≡ true
kind-wider P Q old new f g wider h =
    let scalar = keeps_numbers old f.kind new g.kind || keeps_check (entry_check old f) (entry_check new g) in
    elim (or_cases scalar (option_map_or (λ e. P e.0 e.1) (messages_of f.kind g.kind) false) h) [
      | inl first ↦ or_left scalar (option_map_or (λ e. Q e.0 e.1) (messages_of f.kind g.kind) false) first
      | inr messages ↦ or_right scalar (option_map_or (λ e. Q e.0 e.1) (messages_of f.kind g.kind) false) (by (messages_of f.kind g.kind) messages)
    ]
  where
    by : (got : Option (ℕ × ℕ)) → option_map_or (λ e. P e.0 e.1) got false ≡ true → option_map_or (λ e. Q e.0 e.1) got false ≡ true
    by (Some e) is = wider e.0 e.1 is
    by None is = absurd (false≢true is)

alike-paired : (old new : Parts) (m n : ℕ) → are_alike old m new n ≡ true → are_paired old m new n ≡ true
unfolding are_paired
alike-paired old new m n alike = or_left (are_alike old m new n || keeps_map old m new n) (keeps_message old m new n) (or_left (are_alike old m new n) (keeps_map old m new n) alike)

-- messages that are alike have one name
alike-named : (old new : Parts) (m n : ℕ) → are_alike old m new n ≡ true → one_name old m new n ≡ true
unfolding are_alike
alike-named old new m n alike = (and_parts (one_name old m new n) (cond (is_some (map_entry_at old m)) (is_some (map_entry_at new n)) (is_none (map_entry_at new n))) alike).0

map-paired : (old new : Parts) (m n : ℕ) → keeps_map old m new n ≡ true → are_paired old m new n ≡ true
unfolding are_paired
map-paired old new m n map = or_left (are_alike old m new n || keeps_map old m new n) (keeps_message old m new n) (or_right (are_alike old m new n) (keeps_map old m new n) map)

-- messages of a pair have one name, or keep each other by a test that only pairs pass
pub data Paired (old new : Parts) (m n : ℕ) : Type 0 where
  ByName : one_name old m new n ≡ true → Paired old new m n
  ByParts : (P : Pairs) (x y : MessageDescriptorInner) → ((a b : ℕ) → P a b ≡ true → are_paired old a new b ≡ true)
      → slice_get old.messages m ≡ Some x → slice_get new.messages n ≡ Some y → keeps_parts P old x new y ≡ true → Paired old new m n

-- messages of which the new one keeps the old one are there
kept-there : (P : Pairs) (old new : Parts) (a b : Option MessageDescriptorInner) → keeps_there P old a new b ≡ true → (x : MessageDescriptorInner) × (y : MessageDescriptorInner) × (a ≡ Some x) × (b ≡ Some y) × (keeps_parts P old x new y ≡ true)
kept-there P old new (Some x) (Some y) h = (x, y, refl, refl, h)
kept-there P old new None b h = absurd (false≢true h)
kept-there P old new (Some x) None h = absurd (false≢true h)

-- the entry of a map, or the message that is none, is there
entry-there : (p : Parts) (m : ℕ) (x : MessageDescriptorInner) → map_entry_at p m ≡ Some x → slice_get p.messages m ≡ Some x
unfolding map_entry_at
entry-there p m x h =
    let z = followed (λ z. cond (is_map_entry p z) (Some z) None) (slice_get p.messages m) x h in
    z.1 ∙ by (is_map_entry p z.0) z.0 z.2
  where
    by : (b : Bool) (z : MessageDescriptorInner) → cond b (Some z) None ≡ Some x → Some z ≡ Some x
    by true z is = is
    by false z is = absurd cc

plain-there : (p : Parts) (m : ℕ) (x : MessageDescriptorInner) → plain_message_at p m ≡ Some x → slice_get p.messages m ≡ Some x
unfolding plain_message_at
plain-there p m x h =
    let z = followed (λ z. cond (is_map_entry p z) None (Some z)) (slice_get p.messages m) x h in
    z.1 ∙ by (is_map_entry p z.0) z.0 z.2
  where
    by : (b : Bool) (z : MessageDescriptorInner) → cond b None (Some z) ≡ Some x → Some z ≡ Some x
    by true z is = absurd cc
    by false z is = is

by-map : (old new : Parts) (m n : ℕ) → keeps_map old m new n ≡ true → Paired old new m n
unfolding keeps_map
by-map old new m n h =
    let there = kept-there (λ a b. are_alike old a new b) old new (map_entry_at old m) (map_entry_at new n) h in
    ByParts (λ a b. are_alike old a new b) there.0 there.1 (alike-paired old new) (entry-there old m there.0 there.2) (entry-there new n there.1 there.3) there.4

by-message : (old new : Parts) (m n : ℕ) → are_paired old m new n ≡ true → keeps_message old m new n ≡ true → Paired old new m n
unfolding keeps_message
by-message old new m n pair h =
    let there = kept-there (are_inner_pairs old m new n) old new (plain_message_at old m) (plain_message_at new n) h in
    ByParts (are_inner_pairs old m new n) there.0 there.1 inner (plain-there old m there.0 there.2) (plain-there new n there.1 there.3) there.4
  where
    inner : (a b : ℕ) → are_inner_pairs old m new n a b ≡ true → are_paired old a new b ≡ true
    inner a b is =
        elim (or_cases (are_alike old a new b || keeps_map old a new b) (a == m && b == n) is) [
          | inl known ↦ elim (or_cases (are_alike old a new b) (keeps_map old a new b) known) [
            | inl alike ↦ alike-paired old new a b alike
            | inr map ↦ map-paired old new a b map
          ]
          | inr same ↦
              let both = and_parts (a == m) (b == n) same in
              subst₂ (λ i j. are_paired old i new j ≡ true) (sym (eqb-true a m both.0)) (sym (eqb-true b n both.1)) pair
        ]

pair-cases : (old new : Parts) (m n : ℕ) → are_paired old m new n ≡ true → Paired old new m n
unfolding are_paired
pair-cases old new m n h =
    elim (or_cases (are_alike old m new n || keeps_map old m new n) (keeps_message old m new n) h) [
      | inl known ↦ elim (or_cases (are_alike old m new n) (keeps_map old m new n) known) [
        | inl alike ↦ ByName (alike-named old new m n alike)
        | inr map ↦ by-map old new m n map
      ]
      | inr kept ↦ by-message old new m n h kept
    ]

pub match-cases : (old new : Parts) (m n : ℕ) → are_matched old m new n ≡ true → Paired old new m n
match-cases old new m n h =
    elim (or_cases (one_name old m new n) (are_paired old m new n) h) [
      | inl named ↦ ByName named
      | inr pair ↦ pair-cases old new m n pair
    ]

-- ---- the parts of messages of which the new one keeps the old one

module _ (P : Pairs) (old : Parts) (x : MessageDescriptorInner) (new : Parts) (y : MessageDescriptorInner) (keeps : keeps_parts P old x new y ≡ true) where
  abbrev alone : Bool
  alone = length x.extensions == 0 && length y.extensions == 0

  abbrev each-part : Bool
  each-part = list_all (λ z. keeps_part P old x new (field_entry z)) y.fields

  abbrev numbers : Bool
  numbers = list_all (keeps_number new y) x.fields

  abbrev ranges : Bool
  ranges = list_all (keeps_range new y) (reserved_of old x)

  whole : (alone && each-part && numbers && ranges) ≡ true
  unfolding keeps_parts
  whole = keeps

  but-ranges : ((alone && each-part && numbers) ≡ true) × (ranges ≡ true)
  but-ranges = and_parts (alone && each-part && numbers) ranges whole

  but-numbers : ((alone && each-part) ≡ true) × (numbers ≡ true)
  but-numbers = and_parts (alone && each-part) numbers but-ranges.0

  but-parts : (alone ≡ true) × (each-part ≡ true)
  but-parts = and_parts alone each-part but-numbers.0

  pub no-extension : (i : ℕ) → Contains y.extensions i → ⊥
  no-extension i has = none-contained y.extensions i (and_parts (length x.extensions == 0) (length y.extensions == 0) but-parts.0).1 has

  pub no-old-extension : (i : ℕ) → Contains x.extensions i → ⊥
  no-old-extension i has = none-contained x.extensions i (and_parts (length x.extensions == 0) (length y.extensions == 0) but-parts.0).0 has

  pub part-kept : (i : ℕ) (z : FieldDescriptorInner) → slice_get y.fields i ≡ Some z → keeps_part P old x new (field_entry z) ≡ true
  part-kept i z at = all-at (λ z. keeps_part P old x new (field_entry z)) y.fields i z but-parts.1 at

  pub number-kept : (i : ℕ) (z : FieldDescriptorInner) → slice_get x.fields i ≡ Some z → keeps_number new y z ≡ true
  number-kept i z at = all-at (keeps_number new y) x.fields i z but-numbers.1 at

  pub ranges-kept : list_all (keeps_range new y) (reserved_of old x) ≡ true
  ranges-kept = but-ranges.1

module _ (reached : ℕ → Bool) (old new : Parts) (m n : ℕ) (x y : MessageDescriptorInner) (at-x : slice_get old.messages m ≡ Some x) (at-y : slice_get new.messages n ≡ Some y) (looks-new : LooksUp new y)
    (reaches : (k : ℕ) (f : Entry) → entry_at old m k ≡ Some f → IsReached reached f.kind) (besides : Besides) (free : (k : ℕ) → besides m k ≡ true → entry_at new n k ≡ None)
    (P : Pairs) (paired : (a b : ℕ) → P a b ≡ true → are_paired old a new b ≡ true) (keeps : keeps_parts P old x new y ≡ true) where
  -- what each part of the new message keeps
  part-at : (k : ℕ) (g : Entry) → entry_numbered new y k ≡ Some g → keeps_entry P old (entry_numbered old x k) new g ≡ true
  part-at k g eg = by (source new y looks-new k g eg).0 (source new y looks-new k g eg).1
    where
      by : Source new y g → g.number ≡ k → keeps_entry P old (entry_numbered old x k) new g ≡ true
      by (OfField i z at same) number =
          let part = subst (λ e. keeps_part P old x new e ≡ true) same (part-kept P old x new y keeps i z at) in
          subst (λ k. keeps_entry P old (entry_numbered old x k) new g ≡ true) number (and_parts (keeps_entry P old (entry_numbered old x g.number) new g) (leaves_reserved old x g) part).0
      by (OfExtension i has at nothing) number = absurd (no-extension P old x new y keeps i has)

  kept-part : (k : ℕ) (f g : Entry) → entry_numbered old x k ≡ Some f → entry_numbered new y k ≡ Some g
      → (keeps_kind_by P old f new g ≡ true) × (keeps_cardinality f.kind f.cardinality g.cardinality ≡ true) × ((is_none g.oneof || in_one f.oneof g.oneof) ≡ true)
  kept-part k f g e eg =
      let kept = subst (λ got. keeps_entry P old got new g ≡ true) e (part-at k g eg) in
      let halves = and_parts (keeps_kind_by P old f new g) (keeps_but_kind f g) kept in
      let counted = keeps_cardinality f.kind f.cardinality g.cardinality in
      let needed = not (is_required g.cardinality) || is_required f.cardinality in
      let places = and_parts (counted && needed) (is_none g.oneof || in_one f.oneof g.oneof) halves.1 in
      (halves.0, (and_parts counted needed places.0).0, places.1)

  pair-fields : (k : ℕ) (F G : Field) → field_at old m k ≡ Some F → field_at new n k ≡ Some G → KeepsField (named_alike reached old new) (schema_of old) (schema_of new) F G
  pair-fields k F G e eg =
      let f = entry-seen old m x at-x k F e in
      let g = entry-seen new n y at-y k G eg in
      let kept = kept-part k f.0 g.0 f.1 g.1 in
      let kind = kind-wider P (λ a b. are_paired old a new b) old new f.0 g.0 paired kept.0 in
      subst₂ (λ a b. KeepsField (named_alike reached old new) (schema_of old) (schema_of new) a b) f.2 g.2 (record {
        kind = keeps-form reached old new f.0 g.0 (reaches k f.0 (entry-is old m x at-x k ∙ f.1)) kind;
        cardinality = cardinality-by (form (kind_seen (in_proto3 old (f.0).file) (f.0).kind)) (is_message (f.0).kind) (f.0).cardinality (g.0).cardinality (has-messages (in_proto3 old (f.0).file) (f.0).kind) kept.1;
      })

  needed-at : (k : ℕ) (g : Entry) (got : Option Entry) → entry_numbered old x k ≡ got → keeps_entry P old got new g ≡ true → is_required g.cardinality ≡ true → (f : Entry) × (entry_numbered old x k ≡ Some f) × (is_required f.cardinality ≡ true)
  needed-at k g None e kept needs = absurd (false≢true (sym (ap not needs) ∙ kept))
  needed-at k g (Some f) e kept needs =
      let counted = keeps_cardinality f.kind f.cardinality g.cardinality in
      let needed = not (is_required g.cardinality) || is_required f.cardinality in
      let place = (and_parts (keeps_kind_by P old f new g) (keeps_but_kind f g) kept).1 in
      let first = (and_parts (counted && needed) (is_none g.oneof || in_one f.oneof g.oneof) place).0 in
      (f, e, or_of_not (is_required g.cardinality) (is_required f.cardinality) (and_parts counted needed first).1 needs)

  pair-required : (k : ℕ) (G : Field) → field_at new n k ≡ Some G → G.cardinality ≡ kind.Required → (F : Field) × (field_at old m k ≡ Some F) × (F.cardinality ≡ kind.Required)
  pair-required k G eg req =
      let g = entry-seen new n y at-y k G eg in
      let needs : is_required (g.0).cardinality ≡ true = required-seen (g.0).cardinality (ap (λ (z : Field). z.cardinality) g.2 ∙ req) in
      let f = needed-at k g.0 (entry_numbered old x k) refl (part-at k g.0 g.1) needs in
      (field_seen old f.0, ap (option_map (field_seen old)) (entry-is old m x at-x k ∙ f.1), seen-required (f.0).cardinality f.2)

  -- what is in a oneof is in the old one
  in-old : (o p q : Option ℕ) → (is_none o || in_one p o) ≡ true → in_one o q ≡ true → in_one p o ≡ true
  in-old (Some o) p q h one = h
  in-old None p q h one = absurd (false≢true one)

  pair-oneofs : (k l : ℕ) (F F' G G' : Field) → field_at old m k ≡ Some F → field_at old m l ≡ Some F' → field_at new n k ≡ Some G → field_at new n l ≡ Some G' → k ≢ l → in_one G.oneof G'.oneof ≡ true → in_one F.oneof F'.oneof ≡ true
  pair-oneofs k l F F' G G' e e' eg eg' apart one =
      let f = entry-seen old m x at-x k F e in
      let f' = entry-seen old m x at-x l F' e' in
      let g = entry-seen new n y at-y k G eg in
      let g' = entry-seen new n y at-y l G' eg' in
      let both : in_one (g.0).oneof (g'.0).oneof ≡ true = subst₂ (λ (a b : Field). in_one a.oneof b.oneof ≡ true) (sym g.2) (sym g'.2) one in
      let here = in-old (g.0).oneof (f.0).oneof (g'.0).oneof (kept-part k f.0 g.0 f.1 g.1).2 both in
      let there = in-old (g'.0).oneof (f'.0).oneof (g.0).oneof (kept-part l f'.0 g'.0 f'.1 g'.1).2 (turned (g.0).oneof (g'.0).oneof both) in
      let across = one_oneof (g.0).oneof (f.0).oneof (g'.0).oneof (turned (f.0).oneof (g.0).oneof here) both in
      subst₂ (λ (a b : Field). in_one a.oneof b.oneof ≡ true) f.2 f'.2
      (one_oneof (g'.0).oneof (f.0).oneof (f'.0).oneof (turned (f.0).oneof (g'.0).oneof across) (turned (f'.0).oneof (g'.0).oneof there))

  keeps-pair : KeepsMessage (named_alike reached old new) besides (schema_of old) (schema_of new) m n
  keeps-pair = record { fields = pair-fields; required = pair-required; oneofs = pair-oneofs; left_out = left-out (besides m) new n free }

-- messages with one name are there
named-at : (new : Parts) (n : ℕ) (x : MessageDescriptorInner) (r : Option MessageDescriptorInner) → slice_get new.messages n ≡ r → named_as new n x ≡ true → (y : MessageDescriptorInner) × (r ≡ Some y) × (are_named_alike x y ≡ true)
named-at new n x (Some y) e h = (y, refl, subst (λ (o : Option MessageDescriptorInner). unwrap_or (option_map (are_named_alike x) o) false ≡ true) e h)
named-at new n x None e h = absurd (false≢true (subst (λ (o : Option MessageDescriptorInner). unwrap_or (option_map (are_named_alike x) o) false ≡ true) e h))

both-at : (old new : Parts) (m n : ℕ) (o : Option MessageDescriptorInner) → slice_get old.messages m ≡ o → unwrap_or (option_map (named_as new n) o) false ≡ true
    → (x : MessageDescriptorInner) × (y : MessageDescriptorInner) × (slice_get old.messages m ≡ Some x) × (slice_get new.messages n ≡ Some y) × (are_named_alike x y ≡ true)
both-at old new m n (Some x) e h = let y = named-at new n x (slice_get new.messages n) refl h in (x, y.0, e, y.1, y.2)
both-at old new m n None e h = absurd (false≢true h)

pub both-named : (old new : Parts) (m n : ℕ) → one_name old m new n ≡ true
    → (x : MessageDescriptorInner) × (y : MessageDescriptorInner) × (slice_get old.messages m ≡ Some x) × (slice_get new.messages n ≡ Some y) × (are_named_alike x y ≡ true)
unfolding one_name
both-named old new m n h = both-at old new m n (slice_get old.messages m) refl h

-- the messages of a pair are there
pub both-paired : (old new : Parts) (m n : ℕ) → are_matched old m new n ≡ true → (x : MessageDescriptorInner) × (y : MessageDescriptorInner) × (slice_get old.messages m ≡ Some x) × (slice_get new.messages n ≡ Some y)
both-paired old new m n pair = by (match-cases old new m n pair)
  where
    by : Paired old new m n → (x : MessageDescriptorInner) × (y : MessageDescriptorInner) × (slice_get old.messages m ≡ Some x) × (slice_get new.messages n ≡ Some y)
    by (ByName named) = let b = both-named old new m n named in (b.0, b.1, b.2, b.3)
    by (ByParts P x y paired at-x at-y keeps) = (x, y, at-x, at-y)

pub keeps-all : (old new : Parts) (reached : ℕ → Bool) (besides : Besides) → LookUp old → LookUp new → IsClosed old reached → NothingIsLost old new reached → LeavesOut old new reached besides
    → KeepsAll (named_alike reached old new) besides (schema_of old) (schema_of new)
keeps-all old new reached besides look-old look-new closed none free m n pair = by (match-cases old new m n p.1)
  where
    p : (reached m ≡ true) × (are_matched old m new n ≡ true)
    p = and_parts (reached m) (are_matched old m new n) pair

    by : Paired old new m n → KeepsMessage (named_alike reached old new) besides (schema_of old) (schema_of new) m n
    by (ByName named) =
        let b = both-named old new m n named in
        keeps-message reached old new m n b.0 b.1 b.2 b.3 (look-old m b.0 b.2) (look-new n b.1 b.3) (λ k f e. closed m k f p.0 e) besides (λ k. free m n k p.0 p.1) (none m n b.0 b.1 p.0 named b.2 b.3)
    by (ByParts P x y paired at-x at-y keeps) =
        keeps-pair reached old new m n x y at-x at-y (look-new n y at-y) (λ k f e. closed m k f p.0 e) besides (λ k. free m n k p.0 p.1) P paired keeps

pub unchanged : (old new : Parts) (reached : ℕ → Bool) (besides : Besides) → LookUp old → LookUp new → IsClosed old reached → NothingIsLost old new reached → LeavesOut old new reached besides
    → (levels m n : ℕ) → reached m ≡ true → one_name old m new n ≡ true → (vs : List Numbered) → IsWritten (schema_of old) besides levels m vs
    → IsRead (schema_of new) levels n vs × AreCarried (schema_of old) (schema_of new) levels m n vs
unchanged old new reached besides look-old look-new closed none free levels m n here same vs w =
    law (schema_of old) (schema_of new) (named_alike reached old new) besides (keeps-all old new reached besides look-old look-new closed none free) levels m n (and_from (reached m) (are_matched old m new n) here (or_left (one_name old m new n) (are_paired old m new n) same)) vs w
