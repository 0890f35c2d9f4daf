-- The maps of the messages of a pool lead to what has the number, and its names mean its messages.
use Rattle.std.proofs.Common.{◌≡◌, ◌<◌, ◌+◌, ◌==◌, ℕ, Bool, true, false, Option, Some, None, List, [], ◌∷◌, length, option_map, option_and_then, slice_get, refl, ap, sym, subst, ◌∙◌, arith}
use Rattle.std.proofs.lemmas.Bool.{and_parts, eqb-true, eq-eqb}
use Rattle.std.proofs.lemmas.List.Elements.{All-get_or}
use Rattle.std.proofs.lemmas.Slice.Eq.{bytes_eq-Decides}
use Rattle.std.proofs.lemmas.Option.{get_or_from_slice_get, slice_get_within}
use Rattle.std.specs.FinMap as finite
use Rattle.std.specs.List.{All, AllByRecursion, Contains}
use Rattle.std.specs.Option.{IfSome, option_map_or}
use Rattle.std.specs.Str.{bytes_eq}
use Rattle.pool_types.specs.Contents.{Contents}
use Rattle.pool_types.specs.Extension.{extension_numbered, has_number}
use Rattle.pool_types.specs.declared.contents.definition.Definition.{Definition}
use Rattle.pool_types.specs.declared.contents.definition.DefinitionKind.TheVariants as definition
use Rattle.pool_types.specs.declared.contents.enumeration.EnumDescriptorInner.{EnumDescriptorInner}
use Rattle.pool_types.specs.declared.contents.extension.ExtensionDescriptorInner.{ExtensionDescriptorInner}
use Rattle.pool_types.specs.declared.contents.field.FieldDescriptorInner.{FieldDescriptorInner}
use Rattle.pool_types.specs.declared.contents.message.MessageDescriptorInner.{MessageDescriptorInner}
use Rattle.pool_types.specs.declared.contents.oneof.OneofDescriptorInner.{OneofDescriptorInner}
use Rattle.descriptor_pool.specs.Extensions.{listing_all}
use Rattle.descriptor_pool.specs.FullNames.{Means}
use Rattle.descriptor_pool.specs.Invariant.{IsPool}
use Rattle.descriptor_pool.specs.Maps.{MapsLead, fields_in}
use Rattle.descriptor_pool.proofs.Apart.{full_names_mean}
use Rattle.descriptor_pool.proofs.Extendees.{lists_are_whole, numbers_lead, past-end}
use Rattle.descriptor_pool.proofs.Leading.{maps_lead}
use Rattle.schema_changes.specs.Chains.{AllLookUp}
use Rattle.schema_changes.specs.Parts.{parts_of}
use Rattle.schema_changes.specs.Pools.{NamesMean, message_meant, message_named}
use Rattle.schema_changes.specs.Unchanged.{LookUp, LooksUp}
use Rattle.schema_changes.proofs.Keeping.{at-index}
use Rattle.pool_changes.specs.Removed.{enum_meant, enum_named}
use Rattle.pool_changes.proofs.Lists.{first-passes, made-at, passing, passing-has, picked-has}
use Rattle.pool_changes.proofs.Lying.{Lies, OneofLies, made-lies}

-- what holds of all elements of a list, at an index
pub one-of : {X : Type 0} (P : X → Type 0) (xs : List X) (i : ℕ) (x : X) → All P xs → slice_get xs i ≡ Some x → P x
one-of P xs i x all there = subst P (get_or_from_slice_get xs i x x there) (All-get_or P xs i x (slice_get_within xs i x there) all)

numbered-by : (got : Option FieldDescriptorInner) (n : ℕ) → option_and_then (λ f. Some f.number) got ≡ Some n → option_map (λ f. f.number) got ≡ Some n
numbered-by None n h = h
numbered-by (Some f) n h = h

-- whether a field stands in the oneof with a position
abbrev pub stands_in : ℕ → FieldDescriptorInner → Bool
stands_in n f = option_map_or (λ o. o == n) f.oneof false

pub stands-there : (n : ℕ) (f : FieldDescriptorInner) → f.oneof ≡ Some n → stands_in n f ≡ true
stands-there n f is = ap (λ got. option_map_or (λ o. o == n) got false) is ∙ eq-eqb n n refl

-- whether an extension extends the message with an index
abbrev pub extends_one : ℕ → ExtensionDescriptorInner → Bool
extends_one k x = x.extendee == k

module _ (p : Contents) (pool : IsPool p) (k : ℕ) (m : MessageDescriptorInner) (there : slice_get p.messages k ≡ Some m) where
  pub leads : MapsLead m
  leads = one-of MapsLead p.messages k m (maps_lead p pool) there

  pub lies : Lies (length p.messages) m
  lies = one-of (Lies (length p.messages)) p.messages k m (made-lies p pool.made).messages there

  -- its map leads from a number to the extension of it that has the number
  pub number-leads : (n : ℕ) → finite.get m.extension_numbers n ≡ extension_numbered p.extensions k n
  number-leads n = sym (ap (option_and_then (λ (x : MessageDescriptorInner). finite.get x.extension_numbers n)) there) ∙ numbers_lead p pool k n

  -- and it lists those that extend it
  pub lists : m.extensions ≡ passing (extends_one k) 0 p.extensions
  lists =
      let first : 0 + k ≡ k = omega arith in
      let at = ap (λ (ms : List MessageDescriptorInner). slice_get ms k) (lists_are_whole p pool) ∙ made-at (listing_all p) 0 p.messages k ∙ ap (λ (n : ℕ). option_map (listing_all p n) (slice_get p.messages k)) first ∙ ap (option_map (listing_all p k)) there in
      let same : Some m ≡ Some (listing_all p k m) = sym there ∙ at in
      let is : m ≡ listing_all p k m = cc in
      ap (λ (x : MessageDescriptorInner). x.extensions) is

  -- an extension that its map leads to
  pub extends-it : (n i : ℕ) → finite.get m.extension_numbers n ≡ Some i
      → (x : ExtensionDescriptorInner) × (slice_get p.extensions i ≡ Some x) × ((x.extendee == k) ≡ true) × (x.number ≡ n)
  extends-it n i h =
      let f = first-passes (has_number k n) 0 p.extensions i (sym (number-leads n) ∙ h) in
      let same : f.at ≡ i = omega (arith, f.is) in
      let both = and_parts (f.element.extendee == k) (f.element.number == n) f.passes in
      (f.element, subst (λ j. slice_get p.extensions j ≡ Some f.element) same f.there, both.0, eqb-true f.element.number n both.1)

  oneof-there : (o : ℕ) (got : Option OneofDescriptorInner) → slice_get m.oneofs o ≡ got → o < length m.oneofs → (w : OneofDescriptorInner) × (slice_get m.oneofs o ≡ Some w)
  oneof-there o (Some w) is below = (w, is)
  oneof-there o None is below = let past = past-end m.oneofs o is in absurd (omega (arith, below, past))

  pub looks-up : LooksUp (parts_of p) m
  looks-up = record {
    fields = λ n i h. numbered-by (slice_get m.fields i) n ((leads.numbers n i).0 h);
    extensions = λ n i h.
        let x = extends-it n i h in
        let from : 0 + i ≡ i = omega arith in (
          subst (λ (is : List ℕ). Contains is i) (sym lists) (subst (Contains (passing (extends_one k) 0 p.extensions)) from (passing-has (extends_one k) 0 p.extensions i x.0 x.1 x.2)),
          ap (option_map (λ (y : ExtensionDescriptorInner). y.number)) x.1 ∙ ap Some x.3,
        );
    oneofs = λ i o f at is.
        let from : 0 + i ≡ i = omega arith in
        let below = subst (λ (got : Option ℕ). IfSome got (λ n. n < length m.oneofs)) is (at-index (OneofLies (length m.oneofs)) m.fields i f lies.oneofs at) in
        let w = oneof-there o (slice_get m.oneofs o) refl below in
        let listed : (w.0).fields ≡ fields_in m.fields o = subst (λ (got : Option OneofDescriptorInner). IfSome got (λ v. v.fields ≡ fields_in m.fields o)) w.1 (leads.oneofs o) in
        (w.0, w.1, subst (λ (is : List ℕ). Contains is i) (sym listed) (subst (Contains (fields_in m.fields o)) from (picked-has (stands_in o) 0 m.fields i f at (stands-there o f is))));
  }

pub look_up : (p : Contents) → IsPool p → LookUp (parts_of p)
look_up p pool k m there = looks-up p pool k m there

-- the full name of a message means it
named-by : (p : Contents) (name : List ℕ) (n : ℕ) (m : MessageDescriptorInner) (got : Option Definition) → option_map (λ def. def.kind) got ≡ Some (definition.Message n) → slice_get p.messages n ≡ Some m
    → option_and_then (λ d. message_meant p d.kind) got ≡ Some m
named-by p name n m None means there = absurd cc
named-by p name n m (Some def) means there = let kind : def.kind ≡ definition.Message n = cc in ap (message_meant p) kind ∙ there

pub names_mean : (p : Contents) → IsPool p → NamesMean p
unfolding message_named
names_mean p pool n m there =
    named-by p m.id.full_name n m (finite.get p.names m.id.full_name)
    (subst (λ got. IfSome got (λ (x : MessageDescriptorInner). Means p x.id.full_name (definition.Message n))) there ((full_names_mean p pool).messages n)) there

-- so does a name that is that of a message with an index
pub message_meant_at : (p : Contents) → IsPool p → (n : ℕ) (m : MessageDescriptorInner) (name : List ℕ) → slice_get p.messages n ≡ Some m → bytes_eq m.id.full_name name ≡ true → message_named p name ≡ Some m
message_meant_at p pool n m name there named =
    subst (λ t. message_named p t ≡ Some m) ((bytes_eq-Decides m.id.full_name name).0 named) (names_mean p pool n m there)

-- and one that is that of an enum
enum-by : (p : Contents) (n : ℕ) (e : EnumDescriptorInner) (got : Option Definition) → option_map (λ def. def.kind) got ≡ Some (definition.Enum n) → slice_get p.enums n ≡ Some e
    → option_and_then (λ d. enum_meant p d.kind) got ≡ Some e
enum-by p n e None means there = absurd cc
enum-by p n e (Some def) means there = let kind : def.kind ≡ definition.Enum n = cc in ap (enum_meant p) kind ∙ there

pub enum_meant_at : (p : Contents) → IsPool p → (n : ℕ) (e : EnumDescriptorInner) (name : List ℕ) → slice_get p.enums n ≡ Some e → bytes_eq e.id.full_name name ≡ true → enum_named p name ≡ Some e
unfolding enum_named
enum_meant_at p pool n e name there named =
    subst (λ t. option_and_then (λ (d : Definition). enum_meant p d.kind) (finite.get p.names t) ≡ Some e) ((bytes_eq-Decides e.id.full_name name).0 named)
    (enum-by p n e (finite.get p.names e.id.full_name)
    (subst (λ got. IfSome got (λ (x : EnumDescriptorInner). Means p x.id.full_name (definition.Enum n))) there ((full_names_mean p pool).enums n)) there)

-- so do those of each pool of a chain
pub all-look-up : (p : Contents) (qs : List Contents) → IsPool p → AllByRecursion IsPool qs → AllLookUp p qs
all-look-up p [] pool pools = (look_up p pool, names_mean p pool)
all-look-up p (q ∷ qs) pool pools = ((look_up p pool, names_mean p pool), all-look-up q qs pools.0 pools.1)
