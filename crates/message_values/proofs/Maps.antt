-- Maps are carried: entries that are the same, with keys that are the same.
use Rattle.std.proofs.Common.{◌≡◌, ◌||◌, ℕ, zero, suc, pos, Bool, true, false, cond, List, [], ◌∷◌, Some, refl, ap, sym, subst, subst₂, ◌∙◌}
use Rattle.std.proofs.lemmas.Bool.{false≢true}
use Rattle.std.specs.List.{AllByRecursion, list_any}
use Rattle.message_values.specs.Values.{Numbered}
use Rattle.message_values.specs.Schema.{Schema, Kind, Field, Cardinality, Optional, Required, Repeated}
use Rattle.message_values.specs.Numbers.{Form, form}
use Rattle.message_values.specs.Numbers as form
use Rattle.message_values.specs.Fields.{Item, Number, Bits, Text, Message, counted, is_repeated, items_from, number_item, value}
use Rattle.message_values.specs.Writing.{Besides, IsWritten}
use Rattle.message_values.specs.Kept.{Pairs, KeepsAll, KeepsForm}
use Rattle.message_values.specs.Carried.{AreCarried, Carries, OfBoth}
use Rattle.message_values.specs.Maps.{AreMaps, MapsAreCarried, first_or, key_of, last_of_each_key, map_read, missing_key, one_key}
use Rattle.message_values.proofs.Step.{law}

-- ---- the last entry of each key

any-same : (key other : Item → Item) (x : Item) (xs : List Item) → key x ≡ other x → AllByRecursion (λ y. key y ≡ other y) xs → list_any (λ y. one_key (key x) (key y)) xs ≡ list_any (λ y. one_key (other x) (other y)) xs
any-same key other x [] here all = refl
any-same key other x (y ∷ ys) here all = λ t. one_key (here t) (all.0 t) || any-same key other x ys here all.1 t

last-same : (key other : Item → Item) (xs : List Item) → AllByRecursion (λ y. key y ≡ other y) xs → last_of_each_key key xs ≡ last_of_each_key other xs
last-same key other [] all = refl
last-same key other (x ∷ xs) all = λ t. cond (any-same key other x xs all.0 all.1 t) (last-same key other xs all.1 t) (x ∷ last-same key other xs all.1 t)

-- ---- keys

-- of a key that may stand once one is read
single : (d : Item) (xs : List Item) → first_or d (counted Optional (counted Optional xs)) ≡ first_or d (counted Optional xs)
single d [] = refl
single d (x ∷ xs) = refl

value-counted : (s : Schema) (m n : ℕ) (f : Field) (vs : List Numbered) → value s m n f vs ≡ counted f.cardinality (items_from s m n f [] vs)
unfolding value
value-counted s m n f vs = refl

missing-same : (pairs : Pairs) (old new : Schema) (K L : Kind) (F G : Form) → KeepsForm pairs old K F new L G → missing_key F ≡ missing_key G
missing-same pairs old new K L (form.Number c) (form.Number d) h = ap (λ e. number_item e (pos 0)) h.0
missing-same pairs old new K L form.Text form.Text h = refl
missing-same pairs old new K L (form.Message m) (form.Message n) h = refl
missing-same pairs old new K L (form.Group m) (form.Group n) h = refl
missing-same pairs old new K L _ _ h = absurd h

carries-same : (old new : Schema) (levels m n : ℕ) (vs : List Numbered) → AreCarried old new levels m n vs → (i : ℕ) (f g : Field) → old.field m i ≡ Some f → new.field n i ≡ Some g → value old m i f vs ≡ counted f.cardinality (value new n i g vs)
unfolding AreCarried
carries-same old new zero m n vs c = c.same
carries-same old new (suc levels) m n vs c = c.same

carries-within : (old new : Schema) (levels m n : ℕ) (vs : List Numbered) → AreCarried old new (suc levels) m n vs → (i : ℕ) (f g : Field) → old.field m i ≡ Some f → new.field n i ≡ Some g
    → AllByRecursion (OfBoth (AreCarried old new levels) (form f.kind) (form g.kind)) (value old m i f vs)
unfolding AreCarried
carries-within old new levels m n vs c = c.within

all-kept : (cs : List Item) (c : Cardinality) → is_repeated c ≡ true → counted c cs ≡ cs
all-kept cs Repeated is = refl
all-kept cs Optional is = absurd (false≢true is)
all-kept cs Required is = absurd (false≢true is)

each-as : {A : Type 0} (P Q : A → Type 0) → ((x : A) → P x → Q x) → (xs : List A) → AllByRecursion P xs → AllByRecursion Q xs
each-as P Q step [] all = tt
each-as P Q step (x ∷ xs) all = (step x all.0, each-as P Q step xs all.1)

module _ (old new : Schema) (levels a b : ℕ) (k l : Field) (old_key : old.field a 1 ≡ Some k) (new_key : new.field b 1 ≡ Some l) (old_single : k.cardinality ≡ Optional) (new_single : l.cardinality ≡ Optional)
    (missing : missing_key (form k.kind) ≡ missing_key (form l.kind)) where
  key-within : (vs : List Numbered) → AreCarried old new levels a b vs → key_of old a k (Message vs) ≡ key_of new b l (Message vs)
  key-within vs carried =
      let d = missing_key (form k.kind) in
      let read : value new b 1 l vs ≡ counted Optional (items_from new b 1 l [] vs) = value-counted new b 1 l vs ∙ ap (λ c. counted c (items_from new b 1 l [] vs)) new_single in
      let same : value old a 1 k vs ≡ counted Optional (value new b 1 l vs) = carries-same old new levels a b vs carried 1 k l old_key new_key ∙ ap (λ c. counted c (value new b 1 l vs)) old_single in
      ap (first_or d) (same ∙ ap (counted Optional) read) ∙ single d (items_from new b 1 l [] vs) ∙ ap (first_or d) (sym read) ∙ ap (λ e. first_or e (value new b 1 l vs)) missing

  key-same : (x : Item) → OfBoth (AreCarried old new levels) (form.Message a) (form.Message b) x → key_of old a k x ≡ key_of new b l x
  key-same (Message vs) carried = key-within vs carried
  key-same (Number x) carried = refl
  key-same (Bits x) carried = refl
  key-same (Text bytes) carried = refl

pub maps-carried : MapsAreCarried
maps-carried old new pairs besides keeps levels m n pair i f g ef eg a b k l maps vs w =
    let carried = (law old new pairs besides keeps (suc levels) m n pair vs w).1 in
    let entries : value old m i f vs ≡ value new n i g vs = carries-same old new (suc levels) m n vs carried i f g ef eg ∙ all-kept (value new n i g vs) f.cardinality maps.repeated in
    let within = subst₂ (λ F G. AllByRecursion (OfBoth (AreCarried old new levels) F G) (value old m i f vs)) maps.old_entry maps.new_entry (carries-within old new levels m n vs carried i f g ef eg) in
    let inner : pairs a b ≡ true = subst₂ (λ F G. KeepsForm pairs old f.kind F new g.kind G) maps.old_entry maps.new_entry ((keeps m n pair).fields i f g ef eg).kind in
    let missing = missing-same pairs old new k.kind l.kind (form k.kind) (form l.kind) ((keeps a b inner).fields 1 k l maps.old_key maps.new_key).kind in
    let keys = each-as (OfBoth (AreCarried old new levels) (form.Message a) (form.Message b)) (λ x. key_of old a k x ≡ key_of new b l x)
    (λ x h. key-same old new levels a b k l maps.old_key maps.new_key maps.old_single maps.new_single missing x h) (value old m i f vs) within in
    last-same (key_of old a k) (key_of new b l) (value old m i f vs) keys ∙ ap (last_of_each_key (key_of new b l)) entries
