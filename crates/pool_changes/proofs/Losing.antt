-- By what changes of a message something of it is lost.
use Rattle.std.proofs.Common.{◌≡◌, ◌≢◌, ◌⊎◌, ◌==◌, ◌+◌, ◌||◌, ℕ, zero, suc, Bool, true, false, not, Option, Some, None, List, [], ◌∷◌, ◌++◌, flat_map, option_and_then, slice_get, inl, inr, refl, ap, sym, subst, ◌∙◌, arith}
use Rattle.std.proofs.lemmas.Bool.{eq-eqb, eqb-true, false≢true, or_parts}
use Rattle.std.specs.List.{AllByRecursion}
use Rattle.std.specs.Option.{IfSome, option_map_or, option_or}
use Rattle.pool_types.specs.Contents.{Contents}
use Rattle.pool_types.specs.declared.contents.field.FieldDescriptorInner.{FieldDescriptorInner}
use Rattle.pool_types.specs.declared.contents.message.MessageDescriptorInner.{MessageDescriptorInner}
use Rattle.pool_types.specs.declared.contents.oneof.OneofDescriptorInner.{OneofDescriptorInner}
use Rattle.proto_types.specs.declared.message.ReservedRange.{ReservedRange}
use Rattle.message_values.specs.Fields.{in_one}
use Rattle.message_values.specs.Writing.{Besides}
use Rattle.descriptor_pool.specs.Invariant.{IsPool}
use Rattle.descriptor_pool.specs.Maps.{fields_in}
use Rattle.schema_changes.specs.declared.change.WireChange.{WireChange}
use Rattle.schema_changes.specs.declared.change.WireChangeKind.{WireChangeKind}
use Rattle.schema_changes.specs.declared.change.WireChangeKind.TheVariants as change
use Rattle.schema_changes.specs.declared.entries.Entry.{Entry}
use Rattle.schema_changes.specs.Changes.{Compared, added_changes, added_extension_changes, entry_changes, extension_changes, first_some, joined_changes, kept_changes, members_changes, message_changes, new_entry, old_entry, old_member, oneof_changes, range_changes, required_changes, taken_changes, unless, was_required}
use Rattle.schema_changes.specs.Entries.{entry_at, entry_numbered, extension_in, field_entry}
use Rattle.schema_changes.specs.Kinds.{is_required, keeps_cardinality}
use Rattle.schema_changes.specs.Lost.{AreEntries, LosesOf}
use Rattle.schema_changes.specs.Pairs.{keeps_kind}
use Rattle.schema_changes.specs.Parts.{parts_of}
use Rattle.schema_changes.specs.Records.{reserved_of}
use Rattle.schema_changes.proofs.Keeping.{at-index, followed, source}
use Rattle.schema_changes.proofs.Unkept.{cardinality-lost, kind-lost, oneof-lost, required-lost}
use Rattle.pool_changes.specs.Lost.{ChangeIsLost, MayLose}
use Rattle.pool_changes.proofs.Itself.{extension-found, field-found}
use Rattle.pool_changes.proofs.Lacking.{lacks-one}
use Rattle.pool_changes.proofs.Lists.{picked-are}
use Rattle.pool_changes.proofs.Looking.{leads, looks-up, stands_in}

-- ---- elements of lists

-- an element is in a list
abbrev In : {X : Type 0} → List X → X → Type 0
In xs x = (i : ℕ) × (slice_get xs i ≡ Some x)

in-either : {X : Type 0} (xs ys : List X) (i : ℕ) (x : X) → slice_get (xs ++ ys) i ≡ Some x → In xs x ⊎ In ys x
in-either [] ys i x at = inr (i, at)
in-either (z ∷ xs) ys zero x at = inl (zero, at)
in-either (z ∷ xs) ys (suc i) x at = elim (in-either xs ys i x at) [ inl first ↦ inl (suc first.0, first.1) | inr second ↦ inr second ]

in-flat : {X Y : Type 0} (f : X → List Y) (xs : List X) (i : ℕ) (y : Y) → slice_get (flat_map f xs) i ≡ Some y → (j : ℕ) × (x : X) × (slice_get xs j ≡ Some x) × In (f x) y
in-flat f [] i y at = absurd cc
in-flat f (x ∷ xs) i y at =
    elim (in-either (f x) (flat_map f xs) i y at) [
      | inl here ↦ (zero, x, refl, here)
      | inr later ↦ (let rest = in-flat f xs later.0 y later.1 in (suc rest.0, rest.1, rest.2, rest.3))
    ]

-- ---- what a change says

-- a change that is there, where a test failed
failed : (b : Bool) (n : ℕ) (k : WireChangeKind) (i : ℕ) (w : WireChange) → slice_get (unless b n k) i ≡ Some w → (b ≡ false) × (w ≡ record { number = n; kind = k })
failed true n k i w at = absurd cc
failed false n k zero w at = (refl, cc)
failed false n k (suc i) w at = absurd cc

-- whether a change is by a kind, by a cardinality, by a oneof, or by a field that is required; any other loses nothing by itself
data Says (c : Compared) : WireChange → Type 0 where
  by_kind : (f g : Entry) → old_entry c f.number ≡ Some f → new_entry c f.number ≡ Some g → keeps_kind c.old f c.new g ≡ false → Says c (record { number = f.number; kind = change.Kind })
  by_cardinality : (f g : Entry) → old_entry c f.number ≡ Some f → new_entry c f.number ≡ Some g → keeps_cardinality f.kind f.cardinality g.cardinality ≡ false
      → Says c (record { number = f.number; kind = change.Cardinality })
  by_oneof : (f g f' g' : Entry) → old_entry c f.number ≡ Some f → new_entry c f.number ≡ Some g → old_entry c f'.number ≡ Some f' → new_entry c f'.number ≡ Some g' → (f.number == f'.number) ≡ false
      → in_one f.oneof f'.oneof ≡ false → in_one g.oneof g'.oneof ≡ true → Says c (record { number = f'.number; kind = change.Oneof })
  by_required : (g : Entry) → new_entry c g.number ≡ Some g → is_required g.cardinality ≡ true → was_required (old_entry c g.number) ≡ false → Says c (record { number = g.number; kind = change.Required })
  by_free : (n : ℕ) → Says c (record { number = n; kind = change.FreeNumber })
  by_reserved : (n : ℕ) → Says c (record { number = n; kind = change.Unreserved })

says : (c : Compared) (w u : WireChange) → w ≡ u → Says c u → Says c w
says c w u same told = subst (Says c) (sym same) told

-- what a new entry keeps
kept-says : (c : Compared) (f : Entry) (got : Option Entry) (i : ℕ) (w : WireChange) → old_entry c f.number ≡ Some f → new_entry c f.number ≡ got → slice_get (kept_changes c f got) i ≡ Some w → Says c w
kept-says c f None i w old new at = let one = failed _ f.number change.FreeNumber i w at in says c w _ one.1 (by_free f.number)
kept-says c f (Some g) i w old new at =
    elim (in-either (unless (keeps_kind c.old f c.new g) f.number change.Kind) (unless (keeps_cardinality f.kind f.cardinality g.cardinality) f.number change.Cardinality) i w at) [
      | inl kind ↦ (let one = failed (keeps_kind c.old f c.new g) f.number change.Kind kind.0 w kind.1 in says c w _ one.1 (by_kind f g old new one.0))
      | inr cardinality ↦ (let one = failed (keeps_cardinality f.kind f.cardinality g.cardinality) f.number change.Cardinality cardinality.0 w cardinality.1 in says c w _ one.1 (by_cardinality f g old new one.0))
    ]

-- what is added
needed : (r was : Bool) → (not r || was) ≡ false → (r ≡ true) × (was ≡ false)
needed true was h = (refl, h)
needed false was h = absurd (false≢true (sym h))

added-says : (c : Compared) (g : Entry) (i : ℕ) (w : WireChange) → new_entry c g.number ≡ Some g → slice_get (added_changes c g) i ≡ Some w → Says c w
added-says c g i w new at =
    elim (in-either (required_changes c g) (taken_changes c g) i w at) [
      | inl required ↦ (
          let one = failed (not (is_required g.cardinality) || was_required (old_entry c g.number)) g.number change.Required required.0 w required.1 in
          let both = needed (is_required g.cardinality) (was_required (old_entry c g.number)) one.0 in
          says c w _ one.1 (by_required g new both.0 both.1)
          )
      | inr taken ↦ (let one = failed _ g.number change.Unreserved taken.0 w taken.1 in says c w _ one.1 (by_reserved g.number))
    ]

-- the first value that a function gives is one that it gives of an element
abbrev Given : {X Y : Type 0} → (X → Option Y) → List X → Y → Type 0
Given {X} f xs y = (j : ℕ) × (x : X) × (slice_get xs j ≡ Some x) × (f x ≡ Some y)

given-by : {X Y : Type 0} (f : X → Option Y) (x : X) (xs : List X) (y : Y) (got : Option Y) → f x ≡ got → option_or got (first_some f xs) ≡ Some y → (first_some f xs ≡ Some y → Given f xs y) → Given f (x ∷ xs) y
given-by f x xs y None is later rest = let found = rest later in (suc found.0, found.1, found.2, found.3)
given-by f x xs y (Some z) is same rest = (zero, x, refl, is ∙ same)

first-given : {X Y : Type 0} (f : X → Option Y) (xs : List X) (y : Y) → first_some f xs ≡ Some y → Given f xs y
first-given f [] y h = absurd cc
first-given f (x ∷ xs) y h = given-by f x xs y (f x) refl h (first-given f xs y)

-- a field that stands in a oneof
stands : (n : ℕ) (f : FieldDescriptorInner) (got : Option ℕ) → f.oneof ≡ got → stands_in n f ≡ true → f.oneof ≡ Some n
stands n f None is h = absurd (false≢true (sym (ap (λ o. option_map_or (λ m. m == n) o false) is) ∙ h))
stands n f (Some o) is h = is ∙ ap Some (eqb-true o n (sym (ap (λ got. option_map_or (λ m. m == n) got false) is) ∙ h))

in-one-turned : (o p : Option ℕ) → in_one o p ≡ true → in_one p o ≡ true
in-one-turned (Some a) (Some b) h = eq-eqb b a (sym (eqb-true a b h))
in-one-turned None p h = absurd (false≢true h)
in-one-turned (Some a) None h = absurd (false≢true h)

in-one-own : (o p : Option ℕ) → in_one o p ≡ true → in_one p p ≡ true
in-one-own (Some a) (Some b) h = eq-eqb b b refl
in-one-own None p h = absurd (false≢true h)
in-one-own (Some a) None h = absurd (false≢true h)

-- ---- two messages of two pools

module _ (old new : Contents) (old-pool : IsPool old) (new-pool : IsPool new) (m n : ℕ) (x y : MessageDescriptorInner) (there-x : slice_get old.messages m ≡ Some x) (there-y : slice_get new.messages n ≡ Some y) where
  abbrev c : Compared
  c = record { old = parts_of old; before = x; new = parts_of new; after = y }

  -- a new field at a position, which is in a oneof
  abbrev InNew : ℕ → ℕ → Type 0
  InNew t j = (h : FieldDescriptorInner) × (slice_get y.fields j ≡ Some h) × (h.oneof ≡ Some t)

  members : (t : ℕ) (o : OneofDescriptorInner) → slice_get y.oneofs t ≡ Some o → AllByRecursion (InNew t) o.fields
  members t o at =
      let listed : o.fields ≡ fields_in y.fields t = subst (λ got. IfSome got (λ (v : OneofDescriptorInner). v.fields ≡ fields_in y.fields t)) at ((leads new new-pool n y there-y).oneofs t) in
      subst (AllByRecursion (InNew t)) (sym listed) (picked-are (stands_in t) (InNew t) 0 y.fields (λ i f here passes.
      let from : 0 + i ≡ i = omega arith in
      subst (InNew t) (sym from) (f, here, stands t f f.oneof refl passes)))

  -- the old and the new entry of such a field
  record Member (t : ℕ) (f : Entry) : Type 0 where
    g : Entry
    was : old_entry c f.number ≡ Some f
    is : new_entry c f.number ≡ Some g
    within : g.oneof ≡ Some t

  member : (t j : ℕ) (f : Entry) → InNew t j → old_member c j ≡ Some f → Member t f
  member t j f in-new has =
      let h = followed (λ (g : FieldDescriptorInner). old_entry c g.number) (slice_get y.fields j) f has in
      let one : Some in-new.0 ≡ Some h.0 = sym in-new.1 ∙ h.1 in
      let same : in-new.0 ≡ h.0 = cc in
      let number = (source (parts_of old) x (looks-up old old-pool m x there-x) (h.0).number f h.2).1 in
      record {
        g = field_entry h.0;
        was = ap (old_entry c) number ∙ h.2;
        is = ap (new_entry c) number ∙ field-found new new-pool n y there-y j h.0 h.1;
        within = ap (λ (e : FieldDescriptorInner). e.oneof) (sym same) ∙ in-new.2;
      }

  joined-says : (t : ℕ) (f f' : Entry) (i : ℕ) (w : WireChange) → Member t f → Member t f' → slice_get (joined_changes f (Some f')) i ≡ Some w → Says c w
  joined-says t f f' i w first second at =
      let one = failed (f.number == f'.number || in_one f.oneof f'.oneof) f'.number change.Oneof i w at in
      let both = or_parts (f.number == f'.number) (in_one f.oneof f'.oneof) one.0 in
      let together : in_one (first.g).oneof (second.g).oneof ≡ true = ap (λ o. in_one o (second.g).oneof) first.within ∙ ap (in_one (Some t)) second.within ∙ eq-eqb t t refl in
      says c w _ one.1 (by_oneof f first.g f' second.g first.was first.is second.was second.is both.0 both.1 together)

  joins-say : (t j : ℕ) (f : Entry) (got : Option Entry) (i : ℕ) (w : WireChange) → Member t f → InNew t j → old_member c j ≡ got → slice_get (joined_changes f got) i ≡ Some w → Says c w
  joins-say t j f None i w first in-new is at = absurd cc
  joins-say t j f (Some f') i w first in-new is at = joined-says t f f' i w first (member t j f' in-new is) at

  oneof-by : (t : ℕ) (o : OneofDescriptorInner) → AllByRecursion (InNew t) o.fields → (got : Option Entry) → first_some (old_member c) o.fields ≡ got → (i : ℕ) (w : WireChange)
      → slice_get (members_changes c got o.fields) i ≡ Some w → Says c w
  oneof-by t o all None is i w at = absurd cc
  oneof-by t o all (Some f) is i w at =
      let given = first-given (old_member c) o.fields f is in
      let first = member t given.1 f (at-index (InNew t) o.fields given.0 given.1 all given.2) given.3 in
      let found = in-flat (λ (j : ℕ). joined_changes f (old_member c j)) o.fields i w at in
      joins-say t found.1 f (old_member c found.1) (found.3).0 w first (at-index (InNew t) o.fields found.0 found.1 all found.2) refl (found.3).1

  oneof-says : (t : ℕ) (o : OneofDescriptorInner) → slice_get y.oneofs t ≡ Some o → (i : ℕ) (w : WireChange) → slice_get (oneof_changes c o) i ≡ Some w → Says c w
  oneof-says t o at i w here = oneof-by t o (members t o at) (first_some (old_member c) o.fields) refl i w here

  extension-says : (j k : ℕ) → slice_get x.extensions j ≡ Some k → (got : Option Entry) → extension_in (parts_of old) x k ≡ got → (i : ℕ) (w : WireChange) → slice_get (extension_changes c got) i ≡ Some w → Says c w
  extension-says j k at None is i w here = absurd cc
  extension-says j k at (Some e) is i w here = kept-says c e (new_entry c e.number) i w (extension-found old old-pool m x there-x j k e at is) refl here

  new-extension-says : (j k : ℕ) → slice_get y.extensions j ≡ Some k → (got : Option Entry) → extension_in (parts_of new) y k ≡ got → (i : ℕ) (w : WireChange) → slice_get (added_extension_changes c got) i ≡ Some w → Says c w
  new-extension-says j k at None is i w here = absurd cc
  new-extension-says j k at (Some e) is i w here = added-says c e i w (extension-found new new-pool n y there-y j k e at is) here

  -- ---- each of the lists that the changes are made of

  abbrev OfFields : List WireChange
  OfFields = flat_map (λ f. entry_changes c (field_entry f)) x.fields

  abbrev OfExtensions : List WireChange
  OfExtensions = flat_map (λ i. extension_changes c (extension_in (parts_of old) x i)) x.extensions

  abbrev OfOneofs : List WireChange
  OfOneofs = flat_map (oneof_changes c) y.oneofs

  abbrev OfAdded : List WireChange
  OfAdded = flat_map (λ g. added_changes c (field_entry g)) y.fields

  abbrev OfAddedExtensions : List WireChange
  OfAddedExtensions = flat_map (λ i. added_extension_changes c (extension_in (parts_of new) y i)) y.extensions

  abbrev OfRanges : List WireChange
  OfRanges = flat_map (range_changes c) (reserved_of (parts_of old) x)

  fields-say : (w : WireChange) → In OfFields w → Says c w
  fields-say w has =
      let e = in-flat (λ (f : FieldDescriptorInner). entry_changes c (field_entry f)) x.fields has.0 w has.1 in
      kept-says c (field_entry e.1) (new_entry c (e.1).number) (e.3).0 w (field-found old old-pool m x there-x e.0 e.1 e.2) refl (e.3).1

  extensions-say : (w : WireChange) → In OfExtensions w → Says c w
  extensions-say w has =
      let e = in-flat (λ (i : ℕ). extension_changes c (extension_in (parts_of old) x i)) x.extensions has.0 w has.1 in
      extension-says e.0 e.1 e.2 (extension_in (parts_of old) x e.1) refl (e.3).0 w (e.3).1

  oneofs-say : (w : WireChange) → In OfOneofs w → Says c w
  oneofs-say w has =
      let e = in-flat (oneof_changes c) y.oneofs has.0 w has.1 in
      oneof-says e.0 e.1 e.2 (e.3).0 w (e.3).1

  added-say : (w : WireChange) → In OfAdded w → Says c w
  added-say w has =
      let e = in-flat (λ (g : FieldDescriptorInner). added_changes c (field_entry g)) y.fields has.0 w has.1 in
      added-says c (field_entry e.1) (e.3).0 w (field-found new new-pool n y there-y e.0 e.1 e.2) (e.3).1

  added-extensions-say : (w : WireChange) → In OfAddedExtensions w → Says c w
  added-extensions-say w has =
      let e = in-flat (λ (i : ℕ). added_extension_changes c (extension_in (parts_of new) y i)) y.extensions has.0 w has.1 in
      new-extension-says e.0 e.1 e.2 (extension_in (parts_of new) y e.1) refl (e.3).0 w (e.3).1

  ranges-say : (w : WireChange) → In OfRanges w → Says c w
  ranges-say w has =
      let e = in-flat (range_changes c) (reserved_of (parts_of old) x) has.0 w has.1 in
      let one = failed _ _ change.Unreserved (e.3).0 w (e.3).1 in
      says c w _ one.1 (by_reserved _)

  all-say : (i : ℕ) (w : WireChange) → slice_get (message_changes c) i ≡ Some w → Says c w
  all-say i w at =
      elim (in-either OfFields (OfExtensions ++ (OfOneofs ++ (OfAdded ++ (OfAddedExtensions ++ OfRanges)))) i w at) [
        | inl fields ↦ fields-say w fields
        | inr a ↦ elim (in-either OfExtensions (OfOneofs ++ (OfAdded ++ (OfAddedExtensions ++ OfRanges))) a.0 w a.1) [
          | inl extensions ↦ extensions-say w extensions
          | inr b ↦ elim (in-either OfOneofs (OfAdded ++ (OfAddedExtensions ++ OfRanges)) b.0 w b.1) [
            | inl oneofs ↦ oneofs-say w oneofs
            | inr d ↦ elim (in-either OfAdded (OfAddedExtensions ++ OfRanges) d.0 w d.1) [
              | inl added ↦ added-say w added
              | inr e ↦ elim (in-either OfAddedExtensions OfRanges e.0 w e.1) [
                | inl added ↦ added-extensions-say w added
                | inr ranges ↦ ranges-say w ranges
              ]
            ]
          ]
        ]
      ]

  -- ---- what is lost

  old-at : (i : ℕ) (f : Entry) → old_entry c i ≡ Some f → entry_at (parts_of old) m i ≡ Some f
  unfolding entry_at
  old-at i f is = ap (option_and_then (λ (z : MessageDescriptorInner). entry_numbered (parts_of old) z i)) there-x ∙ is

  new-at : (i : ℕ) (g : Entry) → new_entry c i ≡ Some g → entry_at (parts_of new) n i ≡ Some g
  unfolding entry_at
  new-at i g is = ap (option_and_then (λ (z : MessageDescriptorInner). entry_numbered (parts_of new) z i)) there-y ∙ is

  was-at : (i : ℕ) → was_required (old_entry c i) ≡ false → was_required (entry_at (parts_of old) m i) ≡ false
  unfolding entry_at
  was-at i never = ap was_required (ap (option_and_then (λ (z : MessageDescriptorInner). entry_numbered (parts_of old) z i)) there-x) ∙ never

  entries : (f g : Entry) → old_entry c f.number ≡ Some f → new_entry c f.number ≡ Some g → AreEntries (parts_of old) (parts_of new) m n f.number f g
  entries f g was is = record { old_entry = old-at f.number f was; new_entry = new-at f.number g is }

  loses : (besides : Besides) (w : WireChange) → Says c w → MayLose old new m n w.number w.kind → LosesOf (parts_of old) (parts_of new) besides m n
  loses besides w (by_kind f g was is unkept) may =
      kind-lost (parts_of old) (parts_of new) besides m n f.number f g (entries f g was is) may.0 (may.1 f (old-at f.number f was)) (lacks-one new new-pool g.kind) unkept
  loses besides w (by_cardinality f g was is unkept) may =
      cardinality-lost (parts_of old) (parts_of new) besides m n f.number f g (entries f g was is) may.0 (may.1 f (old-at f.number f was)) unkept
  loses besides w (by_oneof f g f' g' was is was' is' apart alone together) may =
      let scalar = may.1 f.number g' g (new-at f'.number g' is') (new-at f.number g is) (in-one-turned g.oneof g'.oneof together) f (old-at f.number f was) in
      let scalar' = may.1 f'.number g' g' (new-at f'.number g' is') (new-at f'.number g' is') (in-one-own g.oneof g'.oneof together) f' (old-at f'.number f' was') in
      oneof-lost (parts_of old) (parts_of new) besides m n f.number f'.number f g f' g' (entries f g was is) (entries f' g' was' is') may.0 scalar scalar' (λ same. false≢true (sym apart ∙ eq-eqb f.number f'.number same)) alone together
  loses besides w (by_required g is needs never) may =
      required-lost (parts_of old) (parts_of new) besides m n g.number g (new-at g.number g is) needs (was-at g.number never)
  loses besides w (by_free i) may = absurd may
  loses besides w (by_reserved i) may = absurd may

pub change-lost : (old new : Contents) → IsPool old → IsPool new → ChangeIsLost old new
change-lost old new old-pool new-pool besides m n at x y w there-x there-y here may =
    loses old new old-pool new-pool m n x y there-x there-y besides w (all-say old new old-pool new-pool m n x y there-x there-y at w here) may
