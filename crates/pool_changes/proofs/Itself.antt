-- No pool changes anything of itself.
use Rattle.std.proofs.Common.{◌≡◌, ◌<◌, ◌+◌, ◌==◌, ◌&&◌, ◌||◌, ℕ, zero, suc, Bool, true, false, not, cond, Option, Some, None, ℤ, List, [], ◌∷◌, ◌++◌, length, map, flat_map, option_map, option_and_then, slice_get, is_some, unwrap_or, refl, ap, sym, subst, ◌∙◌, arith}
use Rattle.std.proofs.lemmas.Bool.{and_from, eqb-true, eq-eqb, false≢true, or_left, or_right}
use Rattle.std.proofs.lemmas.Slice.Eq.{bytes_eq-Decides}
use Rattle.std.proofs.lemmas.Int.{ints}
use Rattle.std.specs.FinMap as finite
use Rattle.std.specs.Prelude.{int_le}
use Rattle.std.specs.List.{AllByRecursion, list_all}
use Rattle.std.specs.Option.{IfSome, is_none, option_map_or, option_or}
use Rattle.std.proofs.lemmas.Bool.Decides.{Decides-int_eq}
use Rattle.std.specs.Ordering.{int_eq}
use Rattle.pool_types.specs.Contents.{Contents}
use Rattle.pool_types.specs.Extension.{has_number}
use Rattle.pool_types.specs.Kinds.{is_message}
use Rattle.pool_types.specs.LookUps.{field_numbered}
use Rattle.pool_types.specs.declared.contents.enumeration.EnumValueDescriptorInner.{EnumValueDescriptorInner}
use Rattle.pool_types.specs.declared.contents.extension.ExtensionDescriptorInner.{ExtensionDescriptorInner}
use Rattle.pool_types.specs.declared.contents.field.FieldDescriptorInner.{FieldDescriptorInner}
use Rattle.pool_types.specs.declared.contents.message.MessageDescriptorInner.{MessageDescriptorInner}
use Rattle.pool_types.specs.declared.contents.oneof.OneofDescriptorInner.{OneofDescriptorInner}
use Rattle.pool_types.specs.declared.kinds.Cardinality.{Cardinality}
use Rattle.pool_types.specs.declared.kinds.Cardinality.TheVariants as cardinality
use Rattle.pool_types.specs.declared.kinds.KindIndex.{KindIndex}
use Rattle.pool_types.specs.declared.kinds.KindIndex.TheVariants as index
use Rattle.field_rules.specs.Maps.{item_number}
use Rattle.message_values.specs.Fields.{in_one}
use Rattle.proto_types.specs.Readers.{number_of}
use Rattle.proto_types.specs.declared.message.ReservedRange.{ReservedRange}
use Rattle.descriptor_pool.specs.Invariant.{IsPool}
use Rattle.descriptor_pool.specs.Maps.{fields_in}
use Rattle.descriptor_pool.proofs.Extendees.{numbers_are_unique}
use Rattle.schema_changes.specs.declared.change.WireChangeKind.{WireChangeKind}
use Rattle.schema_changes.specs.declared.change.WireChangeKind.TheVariants as change
use Rattle.schema_changes.specs.declared.entries.Entry.{Entry}
use Rattle.schema_changes.specs.Changes.{Compared, added_changes, added_extension_changes, entry_changes, extension_changes, first_some, is_taken, joined_changes, kept_changes, members_changes, message_changes, old_entry, old_member, oneof_changes, range_changes, required_changes, taken_changes, unless, was_required}
use Rattle.schema_changes.specs.Entries.{entry_numbered, extension_at, extension_entry, extension_in, field_entry}
use Rattle.schema_changes.specs.Kinds.{holds, holds_all, is_required, keeps_cardinality, keeps_check, keeps_numbers, messages_of, text_check}
use Rattle.schema_changes.specs.MapEntries.{map_entry_at}
use Rattle.schema_changes.specs.Pairs.{are_alike, are_paired, keeps_kind, keeps_map, keeps_message, leaves_reserved}
use Rattle.schema_changes.specs.Parts.{Parts, are_named_alike, has_value, in_proto3, is_open, one_name, parts_of, values_of}
use Rattle.schema_changes.specs.Pools.{changes_from, changes_with, message_named, of_message, wire_changes}
use Rattle.schema_changes.specs.Records.{covers, is_kept_free, keeps_range, reserved_of}
use Rattle.schema_changes.proofs.Keeping.{at-index, followed, mapped}
use Rattle.schema_changes.proofs.Tests.{passes_at}
use Rattle.pool_changes.proofs.Lists.{first-found, flat-none, passing-at, picked-are}
use Rattle.pool_changes.proofs.Looking.{extends-it, extends_one, leads, lies, lists, names_mean, number-leads, one-of, stands_in}
use Rattle.pool_changes.proofs.Lying.{HoldsOne, KindLies, made-lies}

-- ---- kinds

valued : (v : EnumValueDescriptorInner) (vs : List EnumValueDescriptorInner) → has_value (v ∷ vs) v.number ≡ true
valued v vs = or_left (int_eq v.number v.number) (has_value vs v.number) ((Decides-int_eq v.number v.number).1 refl)

values-hold : (p : Parts) (e : ℕ) (vs : List EnumValueDescriptorInner) → ((v : EnumValueDescriptorInner) → has_value vs v.number ≡ true → has_value (values_of p e) v.number ≡ true)
    → list_all (λ v. holds p (index.Enum e) v.number) vs ≡ true
unfolding holds
values-hold p e [] has = refl
values-hold p e (v ∷ vs) has =
    and_from (is_open p e || has_value (values_of p e) v.number) (list_all (λ w. holds p (index.Enum e) w.number) vs)
    (or_right (is_open p e) (has_value (values_of p e) v.number) (has v (valued v vs)))
    (values-hold p e vs (λ w h. has w (or_right (int_eq v.number w.number) (has_value vs w.number) h)))

enum-itself : (p : Parts) (e : ℕ) → keeps_numbers p (index.Enum e) p (index.Enum e) ≡ true
unfolding keeps_numbers holds_all
enum-itself p e = by (is_open p e) refl
  where
    by : (b : Bool) → is_open p e ≡ b → cond b (is_open p e) (true && list_all (λ v. holds p (index.Enum e) v.number) (values_of p e)) ≡ true
    by true is = is
    by false is = values-hold p e (values_of p e) (λ v h. h)

named-itself : (p : Parts) (m : ℕ) (x : MessageDescriptorInner) → slice_get p.messages m ≡ Some x → one_name p m p m ≡ true
unfolding one_name
named-itself p m x there =
    subst (λ o. unwrap_or (option_map (λ v. unwrap_or (option_map (are_named_alike v) o) false) o) false ≡ true) (sym there) ((bytes_eq-Decides x.id.full_name x.id.full_name).1 refl)

found-below : {X : Type 0} (xs : List X) (n : ℕ) → n < length xs → (x : X) × (slice_get xs n ≡ Some x)
found-below [] n below = absurd (omega (arith, below))
found-below (x ∷ xs) zero below = (x, refl)
found-below (x ∷ xs) (suc n) below = found-below xs n (omega (arith, below))

either-way : (b : Bool) → (b || not b) ≡ true
either-way true = refl
either-way false = refl

bool-itself : (p : Parts) → keeps_numbers p index.Bool p index.Bool ≡ true
unfolding keeps_numbers holds
bool-itself p = refl

-- and it is an entry of a map, or it is not
alike-itself : (p : Parts) (m : ℕ) (x : MessageDescriptorInner) → slice_get p.messages m ≡ Some x → are_alike p m p m ≡ true
unfolding are_alike
alike-itself p m x there =
    and_from (one_name p m p m) (cond (is_some (map_entry_at p m)) (is_some (map_entry_at p m)) (is_none (map_entry_at p m))) (named-itself p m x there) (by (map_entry_at p m))
  where
    by : (got : Option MessageDescriptorInner) → cond (is_some got) (is_some got) (is_none got) ≡ true
    by (Some y) = refl
    by None = refl

pair-itself : (p : Parts) (m : ℕ) → m < length p.messages → are_paired p m p m ≡ true
unfolding are_paired
pair-itself p m below =
    let x = found-below p.messages m below in
    or_left (are_alike p m p m || keeps_map p m p m) (keeps_message p m p m) (or_left (are_alike p m p m) (keeps_map p m p m) (alike-itself p m x.0 x.1))

kind-itself : (p : Parts) (b : Bool) (k : KindIndex) → KindLies (length p.messages) k
    → (keeps_numbers p k p k || keeps_check (text_check b k) (text_check b k) || option_map_or (λ e. are_paired p e.0 p e.1) (messages_of k k) false) ≡ true
unfolding keeps_numbers holds_all
kind-itself p b index.Double lies = refl
kind-itself p b index.Float lies = refl
kind-itself p b index.Int32 lies = refl
kind-itself p b index.Int64 lies = refl
kind-itself p b index.Uint32 lies = refl
kind-itself p b index.Uint64 lies = refl
kind-itself p b index.Sint32 lies = refl
kind-itself p b index.Sint64 lies = refl
kind-itself p b index.Fixed32 lies = refl
kind-itself p b index.Fixed64 lies = refl
kind-itself p b index.Sfixed32 lies = refl
kind-itself p b index.Sfixed64 lies = refl
kind-itself p b index.Bool lies = or_left (keeps_numbers p index.Bool p index.Bool || false) false (or_left (keeps_numbers p index.Bool p index.Bool) false (bool-itself p))
kind-itself p b index.String lies = or_left (b || not b) false (either-way b)
kind-itself p b index.Bytes lies = refl
kind-itself p b (index.Message m) lies = pair-itself p m lies
kind-itself p b (index.Group m) lies = pair-itself p m lies
kind-itself p b (index.Enum e) lies = or_left (keeps_numbers p (index.Enum e) p (index.Enum e) || false) false (or_left (keeps_numbers p (index.Enum e) p (index.Enum e)) false (enum-itself p e))

cardinality-itself : (k : KindIndex) (c : Cardinality) → keeps_cardinality k c c ≡ true
cardinality-itself k cardinality.Repeated = refl
cardinality-itself k cardinality.Optional = by (is_message k)
  where
    by : (b : Bool) → not (b && false) ≡ true
    by true = refl
    by false = refl
cardinality-itself k cardinality.Required = by (is_message k)
  where
    by : (b : Bool) → not (b && false) ≡ true
    by true = refl
    by false = refl

pub untold : (b : Bool) (n : ℕ) (what : WireChangeKind) → b ≡ true → unless b n what ≡ []
untold true n what passes = refl
untold false n what fails = absurd (false≢true fails)

-- a range covers itself
self-held : (a b : ℤ) → (int_le a a && int_le b b) ≡ true
self-held a b = grind (arith, ints)

covers-itself : (r : ReservedRange) → covers r r ≡ true
covers-itself r = self-held (number_of r.start) (number_of r.«end»)

-- so what a message reserves stays reserved, where another one reserves the same
pub ranges-none : (p : Contents) (x y : MessageDescriptorInner) → reserved_of (parts_of p) y ≡ reserved_of (parts_of p) x
    → flat_map (range_changes (record { old = parts_of p; before = x; new = parts_of p; after = y })) (reserved_of (parts_of p) x) ≡ []
ranges-none p x y same =
    flat-none (range_changes (record { old = parts_of p; before = x; new = parts_of p; after = y })) (reserved_of (parts_of p) x) (λ i r at.
    let c : Compared = record { old = parts_of p; before = x; new = parts_of p; after = y } in
    let n = item_number (number_of r.start) in
    untold (keeps_range (parts_of p) y r || is_taken c n) n change.Unreserved (or_left (keeps_range (parts_of p) y r) (is_taken c n)
    (passes_at (covers r) (reserved_of (parts_of p) y) i r (ap (λ (rs : List ReservedRange). slice_get rs i) same ∙ at) (covers-itself r))))

-- a field that is not there, and so the entry that is
pub free-of-field : (got : Option FieldDescriptorInner) (e g : Entry) → cond (is_some got) None (Some e) ≡ Some g → (got ≡ None) × (e ≡ g)
free-of-field None e g h = (refl, cc)
free-of-field (Some f) e g h = absurd cc

stands : (n : ℕ) (f : FieldDescriptorInner) (got : Option ℕ) → f.oneof ≡ got → stands_in n f ≡ true → f.oneof ≡ Some n
stands n f None is h = absurd (false≢true (sym (ap (λ o. option_map_or (λ m. m == n) o false) is) ∙ h))
stands n f (Some o) is h = is ∙ ap Some (eqb-true o n (sym (ap (λ got. option_map_or (λ m. m == n) got false) is) ∙ h))

module _ (p : Contents) (pool : IsPool p) (k : ℕ) (x : MessageDescriptorInner) (there : slice_get p.messages k ≡ Some x) where
  -- ---- entries by their numbers

  pub field-found : (i : ℕ) (f : FieldDescriptorInner) → slice_get x.fields i ≡ Some f → entry_numbered (parts_of p) x f.number ≡ Some (field_entry f)
  unfolding entry_numbered
  field-found i f at =
      let key = ap (option_and_then (λ (g : FieldDescriptorInner). Some g.number)) at in
      let position = ((leads p pool k x there).numbers f.number i).1 key in
      let field : field_numbered x f.number ≡ Some f = ap (option_and_then (slice_get x.fields)) position ∙ at in
      ap (λ got. option_or (option_map field_entry got) (option_and_then (extension_at (parts_of p)) (finite.get x.extension_numbers f.number))) field

  -- an extension that the message lists, unless a field has its number
  pub extension-found : (j i : ℕ) (g : Entry) → slice_get x.extensions j ≡ Some i → extension_in (parts_of p) x i ≡ Some g → entry_numbered (parts_of p) x g.number ≡ Some g
  unfolding entry_numbered
  extension-found j i g at has =
      let own : Entry → Option Entry = λ e. cond (is_some (field_numbered x e.number)) None (Some e) in
      let e = followed own (extension_at (parts_of p) i) g has in
      let free = free-of-field (field_numbered x (e.0).number) e.0 g e.2 in
      let here : extension_at (parts_of p) i ≡ Some g = e.1 ∙ ap Some free.1 in
      let item = mapped extension_entry (slice_get p.extensions i) g here in
      let first = passing-at (extends_one k) 0 p.extensions j i (sym (ap (λ (is : List ℕ). slice_get is j) (lists p pool k x there)) ∙ at) in
      let same : first.at ≡ i = omega (arith, first.is) in
      let one : Some first.element ≡ Some item.0 = sym (subst (λ n. slice_get p.extensions n ≡ Some first.element) same first.there) ∙ item.1 in
      let element : first.element ≡ item.0 = cc in
      let extends : ((item.0).extendee == k) ≡ true = subst (λ (y : ExtensionDescriptorInner). (y.extendee == k) ≡ true) element first.passes in
      let number : (item.0).number ≡ g.number = ap (λ (y : Entry). y.number) item.2 in
      let has-it : has_number k g.number item.0 ≡ true = and_from ((item.0).extendee == k) ((item.0).number == g.number) extends (eq-eqb (item.0).number g.number number) in
      let place = first-found (has_number k g.number) 0 p.extensions i item.0 item.1 has-it in
      let leads-there : finite.get x.extension_numbers g.number ≡ Some place.0 = number-leads p pool k x there g.number ∙ place.1 in
      let other = extends-it p pool k x there g.number place.0 leads-there in
      let alike : place.0 ≡ i = numbers_are_unique p pool place.0 i other.0 item.0 other.1 item.1 (eqb-true (other.0).extendee k other.2 ∙ sym (eqb-true (item.0).extendee k extends)) (other.3 ∙ sym number) in
      let free-here : field_numbered x g.number ≡ None = subst (λ (y : Entry). field_numbered x y.number ≡ None) free.1 free.0 in
      ap (λ got. option_or (option_map field_entry got) (option_and_then (extension_at (parts_of p)) (finite.get x.extension_numbers g.number))) free-here
      ∙ ap (option_and_then (extension_at (parts_of p))) (leads-there ∙ ap Some alike) ∙ here

  extension-lies : (i : ℕ) (g : Entry) → extension_in (parts_of p) x i ≡ Some g → KindLies (length p.messages) g.kind
  extension-lies i g has =
      let own : Entry → Option Entry = λ e. cond (is_some (field_numbered x e.number)) None (Some e) in
      let e = followed own (extension_at (parts_of p) i) g has in
      let free = free-of-field (field_numbered x (e.0).number) e.0 g e.2 in
      let item = mapped extension_entry (slice_get p.extensions i) e.0 e.1 in
      subst (λ (y : Entry). KindLies (length p.messages) y.kind) (item.2 ∙ free.1) (one-of (HoldsOne (length p.messages)) p.extensions i item.0 (made-lies p pool.made).extensions item.1)

  -- ---- where another message has what this one has, and maybe more

  module _ (y : MessageDescriptorInner) (fields-stay : (i : ℕ) (f : FieldDescriptorInner) → slice_get x.fields i ≡ Some f → slice_get y.fields i ≡ Some f)
      (found-again : (e : Entry) → entry_numbered (parts_of p) x e.number ≡ Some e → entry_numbered (parts_of p) y e.number ≡ Some e) where
    abbrev c : Compared
    c = record { old = parts_of p; before = x; new = parts_of p; after = y }

    entry-none : (f : Entry) → KindLies (length p.messages) f.kind → entry_numbered (parts_of p) x f.number ≡ Some f → entry_changes c f ≡ []
    entry-none f lie is =
        let kind : keeps_kind (parts_of p) f (parts_of p) f ≡ true = kind-itself (parts_of p) (in_proto3 (parts_of p) f.file) f.kind lie in
        ap (kept_changes c f) (found-again f is)
        ∙ ap (λ ys. ys ++ unless (keeps_cardinality f.kind f.cardinality f.cardinality) f.number change.Cardinality) (untold (keeps_kind (parts_of p) f (parts_of p) f) f.number change.Kind kind)
        ∙ untold (keeps_cardinality f.kind f.cardinality f.cardinality) f.number change.Cardinality (cardinality-itself f.kind f.cardinality)

    pub required-none : (f : Entry) → entry_numbered (parts_of p) x f.number ≡ Some f → required_changes c f ≡ []
    required-none f is =
        ap (λ got. unless (not (is_required f.cardinality) || was_required got) f.number change.Required) is
        ∙ untold (not (is_required f.cardinality) || is_required f.cardinality) f.number change.Required (by (is_required f.cardinality))
      where
        by : (b : Bool) → (not b || b) ≡ true
        by true = refl
        by false = refl

    taken-none : (f : Entry) → entry_numbered (parts_of p) x f.number ≡ Some f → taken_changes c f ≡ []
    taken-none f is =
        untold (leaves_reserved (parts_of p) x f) f.number change.Unreserved (or_right (not (is_kept_free (parts_of p) x f.number)) (is_some (entry_numbered (parts_of p) x f.number)) (ap is_some is))

    pub added-none : (f : Entry) → entry_numbered (parts_of p) x f.number ≡ Some f → added_changes c f ≡ []
    added-none f is = ap (λ ys. ys ++ taken_changes c f) (required-none f is) ∙ taken-none f is

    pub fields-none : flat_map (λ f. entry_changes c (field_entry f)) x.fields ≡ []
    fields-none = flat-none (λ (f : FieldDescriptorInner). entry_changes c (field_entry f)) x.fields (λ i f at.
        entry-none (field_entry f) (at-index (λ (g : FieldDescriptorInner). KindLies (length p.messages) g.kind) x.fields i f (lies p pool k x there).kinds at) (field-found i f at))

    extension-none : (j i : ℕ) → slice_get x.extensions j ≡ Some i → extension_changes c (extension_in (parts_of p) x i) ≡ []
    extension-none j i at = by (extension_in (parts_of p) x i) refl
      where
        by : (got : Option Entry) → extension_in (parts_of p) x i ≡ got → extension_changes c got ≡ []
        by None is = refl
        by (Some g) is = entry-none g (extension-lies i g is) (extension-found j i g at is)

    pub extensions-none : flat_map (λ i. extension_changes c (extension_in (parts_of p) x i)) x.extensions ≡ []
    extensions-none = flat-none (λ (i : ℕ). extension_changes c (extension_in (parts_of p) x i)) x.extensions extension-none

    -- the member of a oneof at a position
    abbrev InOneof : ℕ → ℕ → Type 0
    InOneof n j = (a : Entry) × (old_member c j ≡ Some a) × (a.oneof ≡ Some n)

    member : (n : ℕ) → AllByRecursion (InOneof n) (fields_in x.fields n)
    member n = picked-are (stands_in n) (InOneof n) 0 x.fields (λ i f at passes.
        let from : 0 + i ≡ i = omega arith in
        subst (InOneof n) (sym from) (
          field_entry f,
          ap (option_and_then (λ (g : FieldDescriptorInner). old_entry c g.number)) (fields-stay i f at) ∙ field-found i f at,
          stands n f f.oneof refl passes,
        ))

    joined-none : (n : ℕ) (a g : Entry) → a.oneof ≡ Some n → g.oneof ≡ Some n → joined_changes a (Some g) ≡ []
    joined-none n a g in-a in-g =
        untold (a.number == g.number || in_one a.oneof g.oneof) g.number change.Oneof
        (or_right (a.number == g.number) (in_one a.oneof g.oneof) (ap (λ o. in_one o g.oneof) in-a ∙ ap (in_one (Some n)) in-g ∙ eq-eqb n n refl))

    all-joined : (n : ℕ) (a : Entry) → a.oneof ≡ Some n → (js : List ℕ) → AllByRecursion (InOneof n) js → flat_map (λ j. joined_changes a (old_member c j)) js ≡ []
    all-joined n a in-a [] all = refl
    all-joined n a in-a (j ∷ js) all =
        ap (λ ys. ys ++ flat_map (λ i. joined_changes a (old_member c i)) js) (ap (joined_changes a) (all.0.1) ∙ joined-none n a all.0.0 in-a all.0.2) ∙ all-joined n a in-a js all.1

    members-none : (n : ℕ) (js : List ℕ) → AllByRecursion (InOneof n) js → members_changes c (first_some (old_member c) js) js ≡ []
    members-none n [] all = refl
    members-none n (j ∷ js) all =
        ap (λ got. members_changes c (option_or got (first_some (old_member c) js)) (j ∷ js)) (all.0.1) ∙ all-joined n all.0.0 all.0.2 (j ∷ js) all

    oneof-none : (n : ℕ) (o : OneofDescriptorInner) → slice_get x.oneofs n ≡ Some o → oneof_changes c o ≡ []
    oneof-none n o at =
        let listed : o.fields ≡ fields_in x.fields n = subst (λ got. IfSome got (λ (v : OneofDescriptorInner). v.fields ≡ fields_in x.fields n)) at ((leads p pool k x there).oneofs n) in
        members-none n o.fields (subst (AllByRecursion (InOneof n)) (sym listed) (member n))

    pub oneofs-none : flat_map (oneof_changes c) x.oneofs ≡ []
    oneofs-none = flat-none (oneof_changes c) x.oneofs oneof-none

    pub added-extensions-none : flat_map (λ i. added_extension_changes c (extension_in (parts_of p) x i)) x.extensions ≡ []
    added-extensions-none = flat-none (λ (i : ℕ). added_extension_changes c (extension_in (parts_of p) x i)) x.extensions (λ j i at. by j i at (extension_in (parts_of p) x i) refl)
      where
        by : (j i : ℕ) → slice_get x.extensions j ≡ Some i → (got : Option Entry) → extension_in (parts_of p) x i ≡ got → added_extension_changes c got ≡ []
        by j i at None is = refl
        by j i at (Some g) is = added-none g (extension-found j i g at is)

  -- nothing changes of a message
  pub message-itself : message_changes (record { old = parts_of p; before = x; new = parts_of p; after = x }) ≡ []
  message-itself =
      let stay : (i : ℕ) (f : FieldDescriptorInner) → slice_get x.fields i ≡ Some f → slice_get x.fields i ≡ Some f = λ i f at. at in
      let again : (e : Entry) → entry_numbered (parts_of p) x e.number ≡ Some e → entry_numbered (parts_of p) x e.number ≡ Some e = λ e is. is in
      let c : Compared = record { old = parts_of p; before = x; new = parts_of p; after = x } in
      let added = flat-none (λ (f : FieldDescriptorInner). added_changes c (field_entry f)) x.fields (λ i f at. added-none x stay again (field_entry f) (field-found i f at)) in
      let ranges = ranges-none p x x refl in
      λ t. fields-none x stay again t ++ (extensions-none x stay again t ++ (oneofs-none x stay again t ++ (added t ++ (added-extensions-none x stay again t ++ ranges t))))

-- nothing comes of messages of which nothing changes
from-itself : (p : Contents) → IsPool p → (first : ℕ) (xs : List MessageDescriptorInner) → ((i : ℕ) (x : MessageDescriptorInner) → slice_get xs i ≡ Some x → (k : ℕ) × (slice_get p.messages k ≡ Some x))
    → changes_from p p first xs ≡ []
from-itself p pool first [] lie = refl
from-itself p pool first (x ∷ xs) lie =
    let k = lie 0 x refl in
    let meant : message_named p x.id.full_name ≡ Some x = names_mean p pool k.0 x k.1 in
    ap (λ ys. ys ++ changes_from p p (suc first) xs) (ap (changes_with p p first x) meant ∙ ap (map (of_message first)) (message-itself p pool k.0 x k.1))
    ∙ from-itself p pool (suc first) xs (λ i y at. lie (suc i) y at)

pub changes-nothing : (p : Contents) → IsPool p → wire_changes p p ≡ []
changes-nothing p pool = from-itself p pool 0 p.messages (λ i x at. (i, at))
