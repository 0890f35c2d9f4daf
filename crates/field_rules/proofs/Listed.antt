-- The fields of each oneof, one more field at a time.
use Rattle.std.proofs.Common.{◌≡◌, ◌≢◌, ℕ, zero, suc, ◌+◌, ◌<◌, ◌≤◌, ℤ, pos, negsuc, Bool, true, false, cond, List, [], ◌∷◌, ◌++◌, length, map, take, get_or, set, slice_get, None, Some, Option, refl, ap, sym, ◌∙◌, arith, append-nil}
use Rattle.std.specs.List.{cons_option, filter_map, enumerate_from}
use Rattle.std.specs.Option.{option_map, option_map_or, option_and_then}
use Rattle.std.specs.Ordering.{int_eq}
use Rattle.std.proofs.lemmas.Bool.{false_from_ne_true}
use Rattle.std.proofs.lemmas.Bool.Decides.{Decides-int_eq}
use Rattle.std.proofs.lemmas.List.Elements.{filter_map-append}
use Rattle.std.proofs.lemmas.Option.{slice_get_within}
use Rattle.proto_types.specs.declared.records.field.FieldDescriptorProto.{FieldDescriptorProto}
use Rattle.plain_data.specs.Lists.{at}
use Rattle.plain_data.specs.Each.{map_enumerated}
use Rattle.field_rules.specs.Maps.{item_number}
use Rattle.field_rules.specs.Oneofs.{oneof_of, members}
use Rattle.proto_types.specs.declared.message.OneofDescriptorProto.{OneofDescriptorProto}
use Rattle.plain_data.proofs.Enumerated.{entries-next}

abbrev none : List ℕ
none = []

-- lists without members
pub no-members : {X : Type 0} (n : ℕ) (xs : List X) → map (λ _. none) xs ≡ map_enumerated (λ _ _. none) n xs
no-members n [] = refl
no-members n (x ∷ xs) = ap (λ lists. none ∷ lists) (no-members (suc n) xs)

module _ {X Y : Type 0} (old new : ℕ → Y) where
  same-each : (n : ℕ) (xs : List X) → ((o : ℕ) → n ≤ o → o < n + length xs → old o ≡ new o) → map_enumerated (λ o _. old o) n xs ≡ map_enumerated (λ o _. new o) n xs
  same-each n [] same = refl
  same-each n (x ∷ xs) same =
      let rest = same-each (suc n) xs (λ o from below. same o (omega (arith, from)) (omega (arith, below))) in
      let here : old n ≡ new n = same n (omega arith) (omega arith) in
      λ i. here i ∷ rest i

  -- one of the entries is changed
  set-each : (n : ℕ) (xs : List X) (k : ℕ) (y : Y) → k < length xs → y ≡ new (n + k) → ((o : ℕ) → n ≤ o → o < n + length xs → o ≢ n + k → old o ≡ new o)
      → set (map_enumerated (λ o _. old o) n xs) k y ≡ map_enumerated (λ o _. new o) n xs
  set-each n [] k y below is same = absurd (omega (arith, below))
  set-each n (x ∷ xs) zero y below is same =
      let here : n + 0 ≡ n = omega arith in
      let rest = same-each (suc n) xs (λ o from under. same o (omega (arith, from)) (omega (arith, under)) (λ e. omega (arith, from, e))) in
      λ i. (is ∙ ap new here) i ∷ rest i
  set-each n (x ∷ xs) (suc k) y below is same =
      let there : n + suc k ≡ suc n + k = omega arith in
      let here : old n ≡ new n = same n (omega arith) (omega arith) (λ e. omega (arith, e)) in
      let rest = set-each (suc n) xs k y (omega (arith, below)) (is ∙ ap new there) (λ o from under other. same o (omega (arith, from)) (omega (arith, under)) (λ e. other (e ∙ there))) in
      λ i. here i ∷ rest i

get_or-each : {X Y : Type 0} (make : ℕ → Y) (n : ℕ) (xs : List X) (k : ℕ) (d : Y) → k < length xs → get_or (map_enumerated (λ o _. make o) n xs) k d ≡ make (n + k)
get_or-each make n [] k d below = absurd (omega (arith, below))
get_or-each make n (x ∷ xs) zero d below = let here : n ≡ n + 0 = omega arith in ap make here
get_or-each make n (x ∷ xs) (suc k) d below = let there : suc n + k ≡ n + suc k = omega arith in get_or-each make (suc n) xs k d (omega (arith, below)) ∙ ap make there

pub length-each : {X Y : Type 0} (make : ℕ → Y) (n : ℕ) (xs : List X) → length (map_enumerated (λ o _. make o) n xs) ≡ length xs
length-each make n [] = refl
length-each make n (x ∷ xs) = ap suc (length-each make (suc n) xs)

-- the oneof that an index names
abbrev named_by : List OneofDescriptorProto → Option ℤ → Option ℕ
named_by oneofs index = option_and_then (λ n. option_map (λ _. item_number n) (at oneofs n)) index

record Names (oneofs : List OneofDescriptorProto) (index : Option ℤ) (k : ℕ) : Type 0 where
  is : index ≡ Some (pos k)
  below : k < length oneofs

names-at : (oneofs : List OneofDescriptorProto) (m k : ℕ) (there : Option OneofDescriptorProto) → slice_get oneofs m ≡ there → option_map (λ _. m) there ≡ Some k → Names oneofs (Some (pos m)) k
names-at oneofs m k None absent named = absurd (cc)
names-at oneofs m k (Some x) present named =
    let same : m ≡ k = cc in
    let below = slice_get_within oneofs m x present in
    record { is = ap (λ n. Some (pos n)) same; below = omega (arith, below, same) }

names : (oneofs : List OneofDescriptorProto) (index : Option ℤ) (k : ℕ) → named_by oneofs index ≡ Some k → Names oneofs index k
names oneofs None k named = absurd (cc)
names oneofs (Some (pos m)) k named = names-at oneofs m k (slice_get oneofs m) refl named
names oneofs (Some (negsuc m)) k named = absurd (cc)

pub named-below : (oneofs : List OneofDescriptorProto) (f : FieldDescriptorProto) (k : ℕ) → oneof_of oneofs f ≡ Some k → k < length oneofs
named-below oneofs f k named = (names oneofs f.oneof_index k named).below

-- whether an index is that of the oneof with a position
abbrev names_it : ℕ → Option ℤ → Bool
names_it o index = option_map_or (int_eq (pos o)) index false

other-index : (o : ℕ) (n : ℤ) → pos o ≢ n → int_eq (pos o) n ≡ false
other-index o n other = false_from_ne_true (int_eq (pos o) n) (λ told. other ((Decides-int_eq (pos o) n).0 told))

own-index : (o : ℕ) → int_eq (pos o) (pos o) ≡ true
own-index o = (Decides-int_eq (pos o) (pos o)).1 refl

none-before : {X : Type 0} (m : ℕ) (found : Option X) → option_map (λ _. suc m) found ≡ None → option_map (λ _. m) found ≡ None
none-before m None none = refl
none-before m (Some x) none = absurd (cc)

no-position : {X : Type 0} (xs : List X) (m : ℕ) → option_map (λ _. m) (slice_get xs m) ≡ None → length xs ≤ m
no-position [] m none = omega arith
no-position (x ∷ xs) zero none = absurd (cc)
no-position (x ∷ xs) (suc m) none = let rest = no-position xs m (none-before m (slice_get xs m) none) in omega (arith, rest)

unnamed : (oneofs : List OneofDescriptorProto) (index : Option ℤ) → named_by oneofs index ≡ None → (o : ℕ) → o < length oneofs → names_it o index ≡ false
unnamed oneofs None none o below = refl
unnamed oneofs (Some (negsuc m)) none o below = other-index o (negsuc m) (λ e. absurd (cc))
unnamed oneofs (Some (pos m)) none o below =
    let past = no-position oneofs m none in
    other-index o (pos m) (λ e. let same : o ≡ m = cc in omega (arith, below, past, same))

-- one more field, and the oneofs that it may name
module _ (fields : List FieldDescriptorProto) (i : ℕ) (f : FieldDescriptorProto) (under : i < length fields) (is : f ≡ get_or fields i f) where
  abbrev member : ℕ → ℕ × FieldDescriptorProto → Option ℕ
  member o e = cond (names_it o e.1.oneof_index) (Some e.0) None

  members-next : (o : ℕ) → members (take (i + 1) fields) o ≡ members (take i fields) o ++ cons_option (cond (names_it o f.oneof_index) (Some i) None) []
  members-next o = ap (filter_map (member o)) (entries-next fields i f under is) ∙ filter_map-append (member o) (enumerate_from 0 (take i fields)) ((i, f) ∷ [])

  kept : (o : ℕ) → names_it o f.oneof_index ≡ false → members (take i fields) o ≡ members (take (i + 1) fields) o
  kept o other = sym (members-next o ∙ ap (λ b. members (take i fields) o ++ cons_option (cond b (Some i) None) []) other ∙ append-nil (members (take i fields) o))

  joined : (o : ℕ) → names_it o f.oneof_index ≡ true → members (take i fields) o ++ i ∷ [] ≡ members (take (i + 1) fields) o
  joined o named = sym (members-next o ∙ ap (λ b. members (take i fields) o ++ cons_option (cond b (Some i) None) []) named)

  module _ (oneofs : List OneofDescriptorProto) where
    -- a field that names no oneof
    pub members-unnamed : oneof_of oneofs f ≡ None → map_enumerated (λ o _. members (take i fields) o) 0 oneofs ≡ map_enumerated (λ o _. members (take (i + 1) fields) o) 0 oneofs
    members-unnamed none = same-each (members (take i fields)) (members (take (i + 1) fields)) 0 oneofs (λ o from below. kept o (unnamed oneofs f.oneof_index none o (omega (arith, below))))

    -- a field that names one
    pub members-named : (k : ℕ) → oneof_of oneofs f ≡ Some k → (d : List ℕ)
        → set (map_enumerated (λ o _. members (take i fields) o) 0 oneofs) k (get_or (map_enumerated (λ o _. members (take i fields) o) 0 oneofs) k d ++ i ∷ []) ≡ map_enumerated (λ o _. members (take (i + 1) fields) o) 0 oneofs
    members-named k named d =
        let told = names oneofs f.oneof_index k named in
        let below = told.below in
        let index = told.is in
        let whole : 0 + k ≡ k = omega arith in
        let own = joined k (ap (names_it k) index ∙ own-index k) in
        set-each (members (take i fields)) (members (take (i + 1) fields)) 0 oneofs k (get_or (map_enumerated (λ o _. members (take i fields) o) 0 oneofs) k d ++ i ∷ []) below
        (ap (λ list. list ++ i ∷ []) (get_or-each (members (take i fields)) 0 oneofs k d below ∙ ap (members (take i fields)) whole) ∙ own ∙ ap (members (take (i + 1) fields)) (sym whole))
        (λ o from under other. kept o (ap (names_it o) index ∙ other-index o (pos k) (λ e. let same : o ≡ k = cc in other (same ∙ sym whole))))
