-- Messages by their names.
use Rattle.std.proofs.Common.{◌≡◌, ℕ, zero, suc, ◌+◌, ◌<◌, Bool, true, false, cond, List, [], ◌∷◌, ◌++◌, Some, length, take, get_or, map, slice_get, option_map, unwrap_or, bytes_eq, refl, ap, sym, subst, subst₂, ◌∙◌, arith, append_assoc, append-nil}
use Rattle.std.proofs.lemmas.Bool.{and_from}
use Rattle.std.proofs.lemmas.List.Elements.{filter-append}
use Rattle.std.proofs.lemmas.Slice.Eq.{bytes_eq-Decides}
use Rattle.std.specs.List.{filter}
use Rattle.pool_types.specs.Contents.{Contents}
use Rattle.pool_types.specs.declared.contents.message.MessageDescriptorInner.{MessageDescriptorInner}
use Rattle.pool_types.specs.declared.kinds.KindIndex.{KindIndex}
use Rattle.pool_types.specs.declared.kinds.KindIndex.TheVariants as index
use Rattle.message_values.specs.Fields.{value}
use Rattle.message_values.specs.Maps.{AreMaps, map_read}
use Rattle.message_values.specs.Schema.{Field}
use Rattle.message_values.specs.Values.{Numbered}
use Rattle.message_values.specs.Reading.{IsRead}
use Rattle.message_values.specs.Writing.{Besides, IsWritten}
use Rattle.message_values.specs.Kept.{KeepsAll}
use Rattle.message_values.specs.Carried.{AreCarried}
use Rattle.message_values.proofs.Maps.{maps-carried}
use Rattle.schema_changes.specs.declared.change.MessageChange.{MessageChange}
use Rattle.schema_changes.specs.declared.change.WireChange.{WireChange}
use Rattle.schema_changes.specs.Changes.{is_lossy, losses, message_changes}
use Rattle.schema_changes.specs.Pairs.{are_matched}
use Rattle.schema_changes.specs.Parts.{Parts, parts_of, one_name, are_named_alike}
use Rattle.schema_changes.specs.Entries.{schema_of}
use Rattle.schema_changes.specs.Unchanged.{LookUp, NothingIsLost, LeavesOut, IsReached, IsClosed}
use Rattle.schema_changes.specs.Pools.{message_named, of_message, changes_with, changes_from, wire_changes, wire_losses, NamesMean}
use Rattle.schema_changes.proofs.Forms.{named_alike}
use Rattle.schema_changes.proofs.Keeping.{left-none, right-none, keeps-all, unchanged}

-- ---- one more message

changes-more : (old new : Contents) (m i : ℕ) (xs : List MessageDescriptorInner) (d : MessageDescriptorInner) → i < length xs
    → changes_from old new m (take (suc i) xs) ≡ changes_from old new m (take i xs) ++ changes_with old new (m + i) (get_or xs i d) (message_named new (get_or xs i d).id.full_name)
changes-more old new m i [] d h = absurd (omega arith)
changes-more old new m zero (x ∷ xs) d h =
    let here : m + 0 ≡ m = omega arith in
    append-nil _ ∙ ap (λ k. changes_with old new k x (message_named new x.id.full_name)) (sym here)
changes-more old new m (suc i) (x ∷ xs) d h =
    let here = changes_with old new m x (message_named new x.id.full_name) in
    let on : suc m + i ≡ m + suc i = omega arith in
    ap (λ (r : List MessageChange). here ++ r) (changes-more old new (suc m) i xs d (omega arith) ∙ ap (λ k. changes_from old new (suc m) (take i xs) ++ changes_with old new k (get_or xs i d) (message_named new (get_or xs i d).id.full_name)) on)
    ∙ sym (append_assoc here (changes_from old new (suc m) (take i xs)) _)

pub changes-step : (old new : Contents) (i j : ℕ) (xs : List MessageDescriptorInner) (d : MessageDescriptorInner) (a b : List MessageChange) → j ≡ i + 1 → i < length xs → d ≡ get_or xs i d → a ≡ changes_from old new 0 (take i xs)
    → b ≡ a ++ changes_with old new i d (message_named new d.id.full_name) → b ≡ changes_from old new 0 (take j xs)
changes-step old new i j xs d a b one lt is ha hb =
    let more = changes-more old new 0 i xs d lt in
    let at : 0 + i ≡ i = omega arith in
    let next : suc i ≡ j = omega arith in
    hb ∙ ap (λ (r : List MessageChange). r ++ changes_with old new i d (message_named new d.id.full_name)) ha
    ∙ sym (subst₂ (λ (k : ℕ) (w : MessageDescriptorInner). changes_from old new 0 (take (suc i) xs) ≡ changes_from old new 0 (take i xs) ++ changes_with old new k w (message_named new w.id.full_name)) at (sym is) more)
    ∙ ap (λ k. changes_from old new 0 (take k xs)) next

-- ---- no loss

-- those of some changes that lose something, each with its message
abbrev lost_of : List MessageChange → List MessageChange
lost_of changes = filter (λ (c : MessageChange). is_lossy c.change.kind) changes

-- what loses nothing of a message loses nothing by itself
of-one : (m : ℕ) (ws : List WireChange) → lost_of (map (of_message m) ws) ≡ [] → losses ws ≡ []
of-one m [] h = refl
of-one m (w ∷ ws) h = by (is_lossy w.kind) (of-one m ws) h
  where
    by : (b : Bool) → (lost_of (map (of_message m) ws) ≡ [] → losses ws ≡ []) → cond b (of_message m w ∷ lost_of (map (of_message m) ws)) (lost_of (map (of_message m) ws)) ≡ [] → cond b (w ∷ losses ws) (losses ws) ≡ []
    by true more none = absurd cc
    by false more none = more none

from-none : (old new : Contents) (k i : ℕ) (xs : List MessageDescriptorInner) (x : MessageDescriptorInner) → lost_of (changes_from old new k xs) ≡ [] → slice_get xs i ≡ Some x
    → (j : ℕ) × (lost_of (changes_with old new j x (message_named new x.id.full_name)) ≡ [])
from-none old new k i [] x h e = absurd cc
from-none old new k zero (z ∷ xs) x h e =
    let same : z ≡ x = cc in
    let here = changes_with old new k z (message_named new z.id.full_name) in
    let more = changes_from old new (suc k) xs in
    (k, subst (λ w. lost_of (changes_with old new k w (message_named new w.id.full_name)) ≡ []) same (left-none (lost_of here) (lost_of more) (sym (filter-append (λ (c : MessageChange). is_lossy c.change.kind) here more) ∙ h)))
from-none old new k (suc i) (z ∷ xs) x h e =
    let here = changes_with old new k z (message_named new z.id.full_name) in
    let more = changes_from old new (suc k) xs in
    from-none old new (suc k) i xs x (right-none (lost_of here) (lost_of more) (sym (filter-append (λ (c : MessageChange). is_lossy c.change.kind) here more) ∙ h)) e

-- what has no changes of some messages has none of one of them
map-none : {A B : Type 0} (f : A → B) (xs : List A) → map f xs ≡ [] → xs ≡ []
map-none f [] h = refl
map-none f (x ∷ xs) h = absurd cc

from-empty : (old new : Contents) (k i : ℕ) (xs : List MessageDescriptorInner) (x : MessageDescriptorInner) → changes_from old new k xs ≡ [] → slice_get xs i ≡ Some x
    → (j : ℕ) × (changes_with old new j x (message_named new x.id.full_name) ≡ [])
from-empty old new k i [] x h e = absurd cc
from-empty old new k zero (z ∷ xs) x h e = let same : z ≡ x = cc in (k, subst (λ w. changes_with old new k w (message_named new w.id.full_name) ≡ []) same (left-none _ _ h))
from-empty old new k (suc i) (z ∷ xs) x h e = from-empty old new (suc k) i xs x (right-none _ _ h) e

pub same_bytes : (xs ys : List ℕ) → bytes_eq xs ys ≡ true → xs ≡ ys
same_bytes xs ys h = (bytes_eq-Decides xs ys).0 h

named-same : (old new : Contents) (m n : ℕ) (x y : MessageDescriptorInner) → one_name (parts_of old) m (parts_of new) n ≡ true → slice_get old.messages m ≡ Some x → slice_get new.messages n ≡ Some y → are_named_alike x y ≡ true
unfolding one_name
named-same old new m n x y h at-x at-y = subst₂ (λ o r. unwrap_or (option_map (λ v. unwrap_or (option_map (are_named_alike v) r) false) o) false ≡ true) at-x at-y h

nothing-lost : (old new : Contents) → NamesMean new → wire_losses old new ≡ [] → NothingIsLost (parts_of old) (parts_of new) (λ m. true)
nothing-lost old new mean none m n x y here same at-x at-y =
    let name : x.id.full_name ≡ y.id.full_name = same_bytes _ _ (named-same old new m n x y same at-x at-y) in
    let found : message_named new x.id.full_name ≡ Some y = ap (message_named new) name ∙ mean n y at-y in
    let at = from-none old new 0 m old.messages x none at-x in
    of-one at.0 (message_changes (record { old = parts_of old; before = x; new = parts_of new; after = y })) (subst (λ p. lost_of (changes_with old new at.0 x p) ≡ []) found at.1)

-- nothing changes of two messages with one name, where no message changes
pub nothing-changes : (old new : Contents) → NamesMean new → wire_changes old new ≡ [] → (m n : ℕ) (x y : MessageDescriptorInner) → one_name (parts_of old) m (parts_of new) n ≡ true
    → slice_get old.messages m ≡ Some x → slice_get new.messages n ≡ Some y → message_changes (record { old = parts_of old; before = x; new = parts_of new; after = y }) ≡ []
nothing-changes old new mean none m n x y same at-x at-y =
    let name : x.id.full_name ≡ y.id.full_name = same_bytes _ _ (named-same old new m n x y same at-x at-y) in
    let found : message_named new x.id.full_name ≡ Some y = ap (message_named new) name ∙ mean n y at-y in
    let at = from-empty old new 0 m old.messages x none at-x in
    map-none (of_message at.0) (message_changes (record { old = parts_of old; before = x; new = parts_of new; after = y })) (subst (λ p. changes_with old new at.0 x p ≡ []) found at.1)

all-closed : (p : Parts) → IsClosed p (λ m. true)
all-closed p m k f here e = by f.kind
  where
    by : (i : KindIndex) → IsReached (λ m. true) i
    by (index.Message a) = refl
    by (index.Group a) = refl
    by _ = tt

-- where nothing is lost, each message keeps the old one with its name
pub pool-kept : (old new : Contents) (besides : Besides) → LookUp (parts_of old) → LookUp (parts_of new) → NamesMean new → wire_losses old new ≡ [] → LeavesOut (parts_of old) (parts_of new) (λ m. true) besides
    → KeepsAll (named_alike (λ m. true) (parts_of old) (parts_of new)) besides (schema_of (parts_of old)) (schema_of (parts_of new))
pool-kept old new besides look-old look-new mean none free =
    keeps-all (parts_of old) (parts_of new) (λ m. true) besides look-old look-new (all-closed (parts_of old)) (nothing-lost old new mean none) free

-- so each map of a pair of messages is read as it was written
pub no-loss-maps : (old new : Contents) (besides : Besides) → LookUp (parts_of old) → LookUp (parts_of new) → NamesMean new → wire_losses old new ≡ [] → LeavesOut (parts_of old) (parts_of new) (λ m. true) besides
    → (levels m n : ℕ) → are_matched (parts_of old) m (parts_of new) n ≡ true → (i : ℕ) (f g : Field) → (schema_of (parts_of old)).field m i ≡ Some f → (schema_of (parts_of new)).field n i ≡ Some g
    → (a b : ℕ) (k l : Field) → AreMaps (schema_of (parts_of old)) (schema_of (parts_of new)) f g a b k l → (vs : List Numbered) → IsWritten (schema_of (parts_of old)) besides (suc levels) m vs
    → map_read (schema_of (parts_of old)) a k (value (schema_of (parts_of old)) m i f vs) ≡ map_read (schema_of (parts_of new)) b l (value (schema_of (parts_of new)) n i g vs)
no-loss-maps old new besides look-old look-new mean none free levels m n pair =
    maps-carried (schema_of (parts_of old)) (schema_of (parts_of new)) (named_alike (λ m. true) (parts_of old) (parts_of new)) besides (pool-kept old new besides look-old look-new mean none free) levels m n
    (and_from true (are_matched (parts_of old) m (parts_of new) n) refl pair)

pub no-loss : (old new : Contents) (besides : Besides) → LookUp (parts_of old) → LookUp (parts_of new) → NamesMean new → wire_losses old new ≡ [] → LeavesOut (parts_of old) (parts_of new) (λ m. true) besides
    → (levels m n : ℕ) → one_name (parts_of old) m (parts_of new) n ≡ true → (vs : List Numbered) → IsWritten (schema_of (parts_of old)) besides levels m vs
    → IsRead (schema_of (parts_of new)) levels n vs × AreCarried (schema_of (parts_of old)) (schema_of (parts_of new)) levels m n vs
no-loss old new besides look-old look-new mean none free levels m n same vs w =
    unchanged (parts_of old) (parts_of new) (λ m. true) besides look-old look-new (all-closed (parts_of old)) (nothing-lost old new mean none) free levels m n refl same vs w
