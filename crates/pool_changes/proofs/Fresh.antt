-- A field with a number that is free changes nothing.
use Rattle.std.proofs.Common.{◌≡◌, ◌≢◌, ◌==◌, ◌||◌, ℕ, zero, suc, false, not, cond, Option, Some, None, List, [], ◌∷◌, ◌++◌, length, flat_map, option_map, option_and_then, slice_get, is_some, refl, ap, sym, subst, ◌∙◌, arith}
use Rattle.std.proofs.lemmas.Bool.{or_left, or_right}
use Rattle.std.proofs.lemmas.Bool.Decides.{nat_tests}
use Rattle.std.proofs.lemmas.Cmp.{nat_cmp_total}
use Rattle.std.specs.FinMap as finite
use Rattle.std.specs.Option.{option_or}
use Rattle.std.specs.Ordering.{eq_by_cmp, nat_cmp}
use Rattle.pool_types.specs.Contents.{Contents}
use Rattle.pool_types.specs.LookUps.{field_numbered}
use Rattle.pool_types.specs.declared.contents.field.FieldDescriptorInner.{FieldDescriptorInner}
use Rattle.pool_types.specs.declared.contents.message.MessageDescriptorInner.{MessageDescriptorInner}
use Rattle.descriptor_pool.specs.Invariant.{IsPool}
use Rattle.schema_changes.specs.declared.change.WireChangeKind.TheVariants as change
use Rattle.schema_changes.specs.declared.entries.Entry.{Entry}
use Rattle.schema_changes.specs.Changes.{Compared, added_changes, added_extension_changes, message_changes, old_entry, required_changes, taken_changes, was_required}
use Rattle.schema_changes.specs.Entries.{entry_numbered, extension_at, extension_in, field_entry}
use Rattle.schema_changes.specs.Kinds.{is_required}
use Rattle.schema_changes.specs.Pairs.{leaves_reserved}
use Rattle.schema_changes.specs.Parts.{parts_of}
use Rattle.schema_changes.specs.Records.{is_kept_free, reserved_of}
use Rattle.schema_changes.proofs.Keeping.{followed, mapped}
use Rattle.pool_changes.specs.Laws.{with_field}
use Rattle.pool_changes.proofs.Itself.{extension-found, extensions-none, field-found, fields-none, free-of-field, oneofs-none, ranges-none, added-none, untold}
use Rattle.pool_changes.proofs.Lists.{flat-none}
use Rattle.pool_changes.proofs.Looking.{looks-up}

-- an element of a list stays where another comes behind
before-more : {X : Type 0} (xs ys : List X) (i : ℕ) (x : X) → slice_get xs i ≡ Some x → slice_get (xs ++ ys) i ≡ Some x
before-more [] ys i x at = absurd cc
before-more (z ∷ xs) ys zero x at = at
before-more (z ∷ xs) ys (suc i) x at = before-more xs ys i x at

-- the last element, or one before it
last-or-before : {X : Type 0} (P : X → Type 0) (xs : List X) (y : X) (i : ℕ) (x : X) → slice_get (xs ++ y ∷ []) i ≡ Some x → (slice_get xs i ≡ Some x → P x) → (y ≡ x → P x) → P x
last-or-before P [] y zero x at before last = last (cc)
last-or-before P [] y (suc i) x at before last = absurd cc
last-or-before P (z ∷ xs) y zero x at before last = before at
last-or-before P (z ∷ xs) y (suc i) x at before last = last-or-before P xs y i x at before last

module _ (p : Contents) (pool : IsPool p) (k : ℕ) (x : MessageDescriptorInner) (there : slice_get p.messages k ≡ Some x) (g : FieldDescriptorInner) (fresh : entry_numbered (parts_of p) x g.number ≡ None)
    (unreserved : is_kept_free (parts_of p) x g.number ≡ false) (needless : is_required g.cardinality ≡ false) where
  abbrev y : MessageDescriptorInner
  y = with_field x g

  abbrev c : Compared
  c = record { old = parts_of p; before = x; new = parts_of p; after = y }

  stay : (i : ℕ) (f : FieldDescriptorInner) → slice_get x.fields i ≡ Some f → slice_get y.fields i ≡ Some f
  stay i f at = before-more x.fields (g ∷ []) i f at

  -- its map leads on from other numbers
  number-stays : (n : ℕ) → n ≢ g.number → finite.get y.field_numbers n ≡ finite.get x.field_numbers n
  number-stays n other =
      let same : eq_by_cmp nat_cmp n g.number ≡ (g.number == n) = grind (arith, nat_tests) in
      let apart : (g.number == n) ≡ false = grind (arith, nat_tests, other) in
      finite.get-insert nat_cmp_total x.field_numbers g.number (length x.fields) n
      ∙ ap (λ b. cond b (Some (length x.fields)) (finite.get x.field_numbers n)) (same ∙ apart)

  field-stays : (n : ℕ) → n ≢ g.number → field_numbered y n ≡ field_numbered x n
  field-stays n other = ap (option_and_then (slice_get y.fields)) (number-stays n other) ∙ by (finite.get x.field_numbers n) refl
    where
      by : (got : Option ℕ) → finite.get x.field_numbers n ≡ got → option_and_then (slice_get y.fields) got ≡ option_and_then (slice_get x.fields) got
      by None is = refl
      by (Some i) is =
          let f = mapped (λ (z : FieldDescriptorInner). z.number) (slice_get x.fields i) n ((looks-up p pool k x there).fields n i is) in
          stay i f.0 f.1 ∙ sym f.1

  -- what is found by its number has another one
  other-number : (e : Entry) → entry_numbered (parts_of p) x e.number ≡ Some e → e.number ≢ g.number
  other-number e is same = let none : entry_numbered (parts_of p) x e.number ≡ None = ap (entry_numbered (parts_of p) x) same ∙ fresh in absurd cc

  again : (e : Entry) → entry_numbered (parts_of p) x e.number ≡ Some e → entry_numbered (parts_of p) y e.number ≡ Some e
  unfolding entry_numbered
  again e is =
      ap (λ got. option_or (option_map field_entry got) (option_and_then (extension_at (parts_of p)) (finite.get x.extension_numbers e.number))) (field-stays e.number (other-number e is)) ∙ is

  new-required : required_changes c (field_entry g) ≡ []
  new-required = untold (not (is_required g.cardinality) || was_required (old_entry c g.number)) g.number change.Required (or_left (not (is_required g.cardinality)) (was_required (old_entry c g.number)) (ap not needless))

  new-taken : taken_changes c (field_entry g) ≡ []
  new-taken =
      untold (leaves_reserved (parts_of p) x (field_entry g)) g.number change.Unreserved
      (or_left (not (is_kept_free (parts_of p) x g.number)) (is_some (entry_numbered (parts_of p) x g.number)) (ap not unreserved))

  new-added : added_changes c (field_entry g) ≡ []
  new-added = ap (λ ys. ys ++ taken_changes c (field_entry g)) new-required ∙ new-taken

  same-ranges : reserved_of (parts_of p) y ≡ reserved_of (parts_of p) x
  unfolding reserved_of
  same-ranges = refl

  added-fields : flat_map (λ f. added_changes c (field_entry f)) y.fields ≡ []
  added-fields = flat-none (λ (f : FieldDescriptorInner). added_changes c (field_entry f)) y.fields (λ i f at.
      last-or-before (λ (h : FieldDescriptorInner). added_changes c (field_entry h) ≡ []) x.fields g i f at
      (λ old. added-none p pool k x there y stay again (field_entry f) (field-found p pool k x there i f old))
      (λ same. subst (λ (h : FieldDescriptorInner). added_changes c (field_entry h) ≡ []) same new-added))

  -- an extension that the message lists, as long as no field has its number
  extension-added : (j i : ℕ) → slice_get x.extensions j ≡ Some i → added_extension_changes c (extension_in (parts_of p) y i) ≡ []
  extension-added j i at = by (extension_in (parts_of p) y i) refl
    where
      found : (e : Entry) → extension_at (parts_of p) i ≡ Some e → field_numbered y e.number ≡ None → (got : Option FieldDescriptorInner) → field_numbered x e.number ≡ got → added_changes c e ≡ []
      found e here free None is =
          let own : Entry → Option Entry = λ a. cond (is_some (field_numbered x a.number)) None (Some a) in
          let has : extension_in (parts_of p) x i ≡ Some e = ap (option_and_then own) here ∙ ap (λ got. cond (is_some got) None (Some e)) is in
          added-none p pool k x there y stay again e (extension-found p pool k x there j i e at has)
      found e here free (Some f) is =
          let position = followed (slice_get x.fields) (finite.get x.field_numbers e.number) f is in
          let number : Some f.number ≡ Some e.number = sym (ap (option_map (λ (z : FieldDescriptorInner). z.number)) position.2) ∙ (looks-up p pool k x there).fields e.number position.0 position.1 in
          let same : f.number ≡ e.number = cc in
          let own : entry_numbered (parts_of p) x (field_entry f).number ≡ Some (field_entry f) = field-found p pool k x there position.0 f position.2 in
          let other : e.number ≢ g.number = λ twice. other-number (field_entry f) own (same ∙ twice) in
          let stays : Some f ≡ None = sym is ∙ sym (field-stays e.number other) ∙ free in
          absurd cc

      by : (got : Option Entry) → extension_in (parts_of p) y i ≡ got → added_extension_changes c got ≡ []
      by None is = refl
      by (Some e) is =
          let own : Entry → Option Entry = λ a. cond (is_some (field_numbered y a.number)) None (Some a) in
          let a = followed own (extension_at (parts_of p) i) e is in
          let free = free-of-field (field_numbered y (a.0).number) a.0 e a.2 in
          let here : extension_at (parts_of p) i ≡ Some e = a.1 ∙ ap Some free.1 in
          let no-field : field_numbered y e.number ≡ None = subst (λ (z : Entry). field_numbered y z.number ≡ None) free.1 free.0 in
          found e here no-field (field_numbered x e.number) refl

  pub fresh-none : message_changes c ≡ []
  fresh-none =
      let extensions = flat-none (λ (i : ℕ). added_extension_changes c (extension_in (parts_of p) y i)) x.extensions extension-added in
      let ranges = ranges-none p x y same-ranges in
      λ t. fields-none p pool k x there y stay again t ++ (extensions-none p pool k x there y stay again t ++ (oneofs-none p pool k x there y stay again t ++ (added-fields t ++ (extensions t ++ ranges t))))
