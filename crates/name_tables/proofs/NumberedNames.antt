-- What names of numbers have.
use Rattle.std.proofs.Common.{◌≡◌, ◌≢◌, ◌<◌, ℕ, zero, suc, true, false, cond, List, ◌++◌, length, Option, Some, None, refl, sym, ap, ◌∙◌, subst, ltb, inl, inr, arith}
use Rattle.std.specs.Cmp.Lexicographic.{nat_list_cmp_total, texts_ties, bytes_decides}
use Rattle.std.specs.FinMap as map
use Rattle.std.specs.FinMap.{get-insert}
use Rattle.std.specs.Option.{option_map, option_or}
use Rattle.std.specs.Str.{bytes_eq}
use Rattle.std.proofs.lemmas.Option.{none-some}
use Rattle.std.proofs.lemmas.Bool.{both_ways, cases_eq}
use Rattle.std.proofs.lemmas.Map.Entries.{option_filter}
use Rattle.plain_data.specs.Lists.{listed}
use Rattle.name_tables.specs.Entered.{Enters, found_before, value_at}
use Rattle.name_tables.specs.Entries.{first_of}
use Rattle.name_tables.specs.NameTables.{kept_before}
use Rattle.name_tables.specs.NumberedNames.{IsNaming, named, names_by}
use Rattle.name_tables.proofs.Names.{same_names, get-lookup, get-kept_before}
use Rattle.name_tables.proofs.Values.{before-filter, before-left, value-inside}
use Rattle.name_tables.proofs.Entries.{first-append}

-- two values are one where each is there only if the other is
pub same-found : {X : Type 0} (a b : Option X) → ((x : X) → a ≡ Some x → b ≡ Some x) → ((x : X) → b ≡ Some x → a ≡ Some x) → a ≡ b
same-found None None there back = refl
same-found None (Some x) there back = back x refl
same-found (Some x) b there back = sym (there x refl)

-- where the first of two values is nothing, both are
or-none : {X : Type 0} (a b : Option X) → option_or a b ≡ None → (a ≡ None) × (b ≡ None)
or-none None b none = (refl, none)
or-none (Some x) b none = absurd (none-some x (sym none))

-- a number of that name has x
abbrev pub IsNamed : {X : Type 0} → (ℕ → List ℕ) → List (Option X) → List ℕ → X → Type 0
IsNamed name_at values name x = (k : ℕ) × (value_at values k ≡ Some x) × (name ≡ name_at k)

module _ {X : Type 0} (name_at : ℕ → List ℕ) (values : List (Option X)) (name : List ℕ) where
  -- the name of a number and its value
  abbrev entry : ℕ → Option X → List (List ℕ × X)
  entry k found = listed (option_map (λ x. (name_at k, x)) found)

  -- what is found among the first names is the value of a number of that name
  found-from : (n : ℕ) (x : X) → first_of (named name_at values n) name ≡ Some x → IsNamed name_at values name x
  found-from zero x found = absurd (none-some x found)
  found-from (suc n) x found =
      elim (value_at values n) as (λ has. value_at values n ≡ has → first_of (entry n has ++ named name_at values n) name ≡ Some x → IsNamed name_at values name x) [
        | None ↦ λ is here. found-from n x here
        | Some e ↦ λ is here.
            let same = bytes_decides name (name_at n) in
            elim (bytes_eq name (name_at n)) as (λ b. bytes_eq name (name_at n) ≡ b → cond b (Some e) (first_of (named name_at values n) name) ≡ Some x → IsNamed name_at values name x)
            [ true ↦ λ yes one. (n, is ∙ one, same.0 yes) | false ↦ λ no rest. found-from n x rest ] refl here
      ] refl found

  -- a number of that name that has a value is found by itself
  here-some : (k : ℕ) (x : X) → value_at values k ≡ Some x → name ≡ name_at k → first_of (entry k (value_at values k)) name ≡ Some x
  here-some k x has is =
      ap (λ o. first_of (entry k o) name) has ∙ ap (λ same. cond same (Some x) None) ((bytes_decides name (name_at k)).1 is)

  -- where a number of that name has a value, something is found
  found-some : (n k : ℕ) (x : X) → k < n → value_at values k ≡ Some x → name ≡ name_at k → first_of (named name_at values n) name ≢ None
  found-some zero k x inside has is none = omega arith
  found-some (suc n) k x inside has is none =
      let nowhere = or-none (first_of (entry n (value_at values n)) name) (first_of (named name_at values n) name) (sym (first-append (entry n (value_at values n)) (named name_at values n) name) ∙ none) in
      elim (cases_eq k n) [
        | inl last ↦ none-some x (sym nowhere.0 ∙ ap (λ j. first_of (entry j (value_at values j)) name) (sym last) ∙ here-some k x has is)
        | inr before ↦ found-some n k x (omega arith) has is nowhere.1
      ]

  -- what a name has is the value of a number of that name
  pub get-from : (x : X) → map.get (names_by name_at values) name ≡ Some x → IsNamed name_at values name x
  get-from x got = found-from (length values) x (sym (get-lookup (named name_at values (length values)) name) ∙ got)

  -- a name has the value of a number, where no other of that name has one
  pub get-only : (k : ℕ) → name ≡ name_at k → ((j : ℕ) (x : X) → value_at values j ≡ Some x → name ≡ name_at j → j ≡ k) → map.get (names_by name_at values) name ≡ value_at values k
  get-only k is only = same-found (map.get (names_by name_at values) name) (value_at values k)
      (λ x got. let from = get-from x got in subst (λ j. value_at values j ≡ Some x) (only from.0 x from.1 from.2) from.1)
      (λ x has. elim (map.get (names_by name_at values) name) as (λ o. map.get (names_by name_at values) name ≡ o → o ≡ Some x) [
        | None ↦ λ none. absurd (found-some (length values) k x (value-inside values k x has) has is (sym (get-lookup (named name_at values (length values)) name) ∙ none))
        | Some e ↦ λ got. let from = get-from e got in
            sym (subst (λ j. value_at values j ≡ Some e) (only from.0 e from.1 from.2) from.1) ∙ has
      ] refl)

  -- a name has nothing where no number of that name has a value
  pub get-none : ((k : ℕ) (x : X) → value_at values k ≡ Some x → name ≡ name_at k → ⊥) → map.get (names_by name_at values) name ≡ None
  get-none nowhere = elim (map.get (names_by name_at values) name) as (λ o. map.get (names_by name_at values) name ≡ o → o ≡ None) [
    | None ↦ λ none. refl
    | Some x ↦ λ got. let from = get-from x got in absurd (nowhere from.0 x from.1 from.2)
  ] refl

module _ {X : Type 0} (name_at : ℕ → List ℕ) (values : List (Option X)) (naming : IsNaming name_at values) where
  -- the name of a number has its value
  pub get-number : (name : List ℕ) (k : ℕ) (x : X) → value_at values k ≡ Some x → name ≡ name_at k → map.get (names_by name_at values) name ≡ Some x
  get-number name k x has is = get-only name_at values name k is (λ j y other named. naming j k y x other has (sym named ∙ is)) ∙ has

-- each number that has a value has one of the same name among others that has it
abbrev pub AreAmong : {X : Type 0} → (ℕ → List ℕ) → List (Option X) → (ℕ → List ℕ) → List (Option X) → Type 0
AreAmong {X} one xs other ys = (k : ℕ) (x : X) → value_at xs k ≡ Some x → (j : ℕ) × (value_at ys j ≡ Some x) × (one k ≡ other j)

module _ {X : Type 0} (one : ℕ → List ℕ) (xs : List (Option X)) (other : ℕ → List ℕ) (ys : List (Option X)) (naming : IsNaming other ys) where
  -- a name has among others what it has here
  pub get-among : AreAmong one xs other ys → (name : List ℕ) (x : X) → map.get (names_by one xs) name ≡ Some x → map.get (names_by other ys) name ≡ Some x
  get-among among name x got =
      let from = get-from one xs name x got in
      let there = among from.0 x from.1 in
      get-number other ys naming name there.0 x there.1 (from.2 ∙ there.2)

module _ {X : Type 0} (one : ℕ → List ℕ) (xs : List (Option X)) (naming : IsNaming one xs) (other : ℕ → List ℕ) (ys : List (Option X)) where
  -- where the names are the same, those of the numbers are among the others
  pub among-same : names_by one xs ≡ names_by other ys → AreAmong one xs other ys
  among-same same k x has =
      let from = get-from other ys (one k) x (ap (λ names. map.get names (one k)) (sym same) ∙ get-number one xs naming (one k) k x has refl) in
      (from.0, from.1, from.2)

-- names that have the same among each other are the same
pub names-among : {X : Type 0} (one : ℕ → List ℕ) (xs : List (Option X)) (other : ℕ → List ℕ) (ys : List (Option X)) → IsNaming one xs → IsNaming other ys
    → AreAmong one xs other ys → AreAmong other ys one xs → names_by one xs ≡ names_by other ys
names-among one xs other ys here there among back = same_names (names_by one xs) (names_by other ys) (λ name.
    same-found (map.get (names_by one xs) name) (map.get (names_by other ys) name) (get-among one xs other ys there among name) (get-among other ys one xs here back name))

module _ {X : Type 0} (name_at : ℕ → List ℕ) (old new : List (Option X)) where
  module _ (file_of : X → ℕ) (n : ℕ) (left : (k : ℕ) → value_at new k ≡ found_before file_of n (value_at old k)) (naming : IsNaming name_at old) where
    -- no two numbers have the same name where some have lost their values
    pub naming-removed : IsNaming name_at new
    naming-removed j k x y has also = naming j k x y (before-left file_of n (value_at old j) x (sym (left j) ∙ has)) (before-left file_of n (value_at old k) y (sym (left k) ∙ also))

    -- where each number keeps what lies in an earlier file, so do the names
    pub names-removed : names_by name_at new ≡ kept_before file_of n (names_by name_at old)
    names-removed = same_names (names_by name_at new) (kept_before file_of n (names_by name_at old)) (λ name.
        same-found (map.get (names_by name_at new) name) (map.get (kept_before file_of n (names_by name_at old)) name)
        (λ x got.
        let from = get-from name_at new name x got in
        let was : value_at old from.0 ≡ Some x = before-left file_of n (value_at old from.0) x (sym (left from.0) ∙ from.1) in
        get-kept_before file_of n (names_by name_at old) name
        ∙ ap (option_filter (λ x. ltb (file_of x) n)) (get-number name_at old naming name from.0 x was from.2 ∙ sym was)
        ∙ sym (before-filter file_of n (value_at old from.0)) ∙ sym (left from.0) ∙ from.1)
        (λ x got.
        let filtered : option_filter (λ x. ltb (file_of x) n) (map.get (names_by name_at old) name) ≡ Some x = sym (get-kept_before file_of n (names_by name_at old) name) ∙ got in
        let was : map.get (names_by name_at old) name ≡ Some x = before-left file_of n (map.get (names_by name_at old) name) x (before-filter file_of n (map.get (names_by name_at old) name) ∙ filtered) in
        let from = get-from name_at old name x was in
        get-number name_at new naming-removed name from.0 x
        (left from.0 ∙ ap (found_before file_of n) (from.1 ∙ sym was) ∙ before-filter file_of n (map.get (names_by name_at old) name) ∙ filtered) from.2))

  module _ (at : ℕ) (x : X) (enters : Enters old new at x) (before : IsNaming name_at old) (after : IsNaming name_at new) where
    -- where a number gets a value, its name has that
    pub names-entered : value_at old at ≡ None → (name : List ℕ) → name ≡ name_at at → names_by name_at new ≡ map.insert (names_by name_at old) name x
    names-entered none name is = same_names (names_by name_at new) (map.insert (names_by name_at old) name x) (λ other.
        (elim (bytes_eq other name) as (λ b. bytes_eq other name ≡ b → map.get (names_by name_at new) other ≡ cond b (Some x) (map.get (names_by name_at old) other)) [
          | true ↦ λ same. get-number name_at new after other at x enters.here ((bytes_decides other name).0 same ∙ is)
          | false ↦ λ differs.
              let differ : other ≢ name = λ same. both_ways (bytes_eq other name) differs ((bytes_decides other name).1 same) in
              same-found (map.get (names_by name_at new) other) (map.get (names_by name_at old) other)
              (λ y got.
              let from = get-from name_at new other y got in
              let apart : from.0 ≢ at = λ same. differ (from.2 ∙ ap name_at same ∙ sym is) in
              get-number name_at old before other from.0 y (sym (enters.others from.0 apart) ∙ from.1) from.2)
              (λ y got.
              let from = get-from name_at old other y got in
              let apart : from.0 ≢ at = λ same. none-some y (sym none ∙ ap (value_at old) (sym same) ∙ from.1) in
              get-number name_at new after other from.0 y (enters.others from.0 apart ∙ from.1) from.2)
        ] refl)
        ∙ ap (λ b. cond b (Some x) (map.get (names_by name_at old) other)) (texts_ties other name)
        ∙ sym (get-insert nat_list_cmp_total (names_by name_at old) name x other))

  -- the same values by number have the same names
  pub names-alike : ((k : ℕ) → value_at new k ≡ value_at old k) → IsNaming name_at old → names_by name_at new ≡ names_by name_at old
  names-alike same naming = names-among name_at new name_at old (λ j k x y has also. naming j k x y (sym (same j) ∙ has) (sym (same k) ∙ also)) naming
      (λ k x has. (k, sym (same k) ∙ has, refl)) (λ k x has. (k, same k ∙ has, refl))
