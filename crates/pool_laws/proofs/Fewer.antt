-- What is found among names is found among some of them, where these have all that is seen.
use Rattle.std.proofs.Common.{◌≡◌, ◌⊎◌, inl, inr, ℕ, suc, arith, Bool, true, false, not, cond, ◌||◌, ◌+◌, take, if◌then◌else◌, IsSome, Option, None, Some, unwrap_or, List, [], ◌∷◌, ◌++◌, map, refl, ap, subst, sym, ◌∙◌}
use Rattle.std.proofs.lemmas.List.Elements.{recursion_from_All}
use Rattle.std.specs.FinMap as finite
use Rattle.std.specs.List.{AllByRecursion, find, position_or_len}
use Rattle.std.specs.Option.{option_map_or}
use Rattle.proto_types.specs.Names.{first_part, fronts, is_dot, join}
use Rattle.pool_types.specs.Contents.{ByText}
use Rattle.pool_types.specs.Definition.{is_parent}
use Rattle.pool_types.specs.declared.contents.definition.Definition.{Definition}
use Rattle.name_resolution.specs.declared.filter.ResolveNameFilter.{ResolveNameFilter}
use Rattle.name_resolution.specs.Filter.{is_match}
use Rattle.name_resolution.specs.Parents.{outer}
use Rattle.name_resolution.specs.Resolution.{Resolution, found, invalid_type, not_imported, not_found, is_found, is_not_found, or_shadowed, has_dot, look, simple, holds_first, dotted, relative, resolution}
use Rattle.name_resolution.proofs.Outward.{answers}
use Rattle.pool_laws.specs.Laws.{SeenAmong}
use Rattle.pool_laws.proofs.Looked.{answer, look-again, looked-named}
use Rattle.pool_laws.proofs.AllOf.{all-mapped}

-- what holds of the texts before the dots of a text holds of those that end in its second part
ends-hold : (P : List ℕ → Type 0) (xs ys : List ℕ) → AllByRecursion P (fronts (xs ++ ys)) → AllByRecursion (λ front. P (xs ++ front)) (fronts ys)
ends-hold P [] ys all = all
ends-hold P (x ∷ xs) ys all =
    let longer : List ℕ → List ℕ = λ front. x ∷ front in
    let deeper = fronts (xs ++ ys) in
    elim (is_dot x) as (λ b. AllByRecursion P (if b then [] ∷ map longer deeper else map longer deeper) → AllByRecursion (λ front. P (x ∷ (xs ++ front))) (fronts ys)) [
      | true ↦ λ given. ends-hold (λ front. P (x ∷ front)) xs ys (all-mapped P longer deeper given.1)
      | false ↦ λ given. ends-hold (λ front. P (x ∷ front)) xs ys (all-mapped P longer deeper given)
    ] all

-- and of the first part of one that has a dot
first-holds : (P : List ℕ → Type 0) (name : List ℕ) → has_dot name ≡ true → AllByRecursion P (fronts name) → P (first_part name)
first-holds P [] dot all = absurd (cc)
first-holds P (c ∷ cs) dot all =
    let longer : List ℕ → List ℕ = λ front. c ∷ front in
    let deeper = fronts cs in
    elim (is_dot c) as (λ b. (b || has_dot cs) ≡ true → AllByRecursion P (if b then [] ∷ map longer deeper else map longer deeper) → P (take (cond (not b) (1 + position_or_len is_dot cs) 0) (c ∷ cs))) [
      | true ↦ λ _ given. given.0
      | false ↦ λ has given.
          let many = position_or_len is_dot cs in
          let one : 1 + many ≡ suc many = omega arith in
          subst P (sym (ap (λ n. take n (c ∷ cs)) one)) (first-holds (λ front. P (c ∷ front)) cs has (all-mapped P longer deeper given))
    ] dot all

first-inside : (P : List ℕ → Type 0) (scope name : List ℕ) → has_dot name ≡ true → AllByRecursion P (fronts (join scope name)) → P (join scope (first_part name))
first-inside P [] name dot all = first-holds P name dot all
first-inside P (c ∷ cs) name dot all =
    let behind = ends-hold P (c ∷ cs) (46 ∷ name) all in
    first-holds (λ front. P ((c ∷ cs) ++ 46 ∷ front)) name dot (all-mapped (λ front. P ((c ∷ cs) ++ front)) (λ front. 46 ∷ front) (fronts name) behind.1)

-- it found nothing, or something
pub decided : (r : Resolution) → (is_found r ≡ false) ⊎ ((name : List ℕ) × (def : Definition) × (r ≡ found name def))
decided (found name def) = inr (name, def, refl)
decided _ = inl refl

-- where no answer found something, neither did the first that isn't nothing
pub none-later : (rs : List Resolution) → find is_found rs ≡ None → is_found (unwrap_or (find (λ r. not (is_not_found r)) rs) not_found) ≡ false
none-later [] none = refl
none-later (r ∷ rs) none = elim (decided r) [
  | inl missed ↦
      let rest : find is_found rs ≡ None = sym (ap (λ b. cond b (Some r) (find is_found rs)) missed) ∙ none in
      elim (is_not_found r) as (λ b. is_found (unwrap_or (cond (not b) (Some r) (find (λ r. not (is_not_found r)) rs)) not_found) ≡ false) [
        | true ↦ none-later rs rest
        | false ↦ missed
      ]
  | inr (name, def, is) ↦ absurd (cc)
]

best-found : (rs : List Resolution) (name : List ℕ) (def : Definition)
    → unwrap_or (find is_found rs) (unwrap_or (find (λ r. not (is_not_found r)) rs) not_found) ≡ found name def → find is_found rs ≡ Some (found name def)
best-found rs name def =
    let other = unwrap_or (find (λ r. not (is_not_found r)) rs) not_found in
    elim (find is_found rs) as (λ o. find is_found rs ≡ o → unwrap_or o other ≡ found name def → o ≡ Some (found name def)) [
      | None ↦ λ none is. let missed = none-later rs none in absurd (cc)
      | Some r ↦ λ some is. ap Some is
    ] refl

unshadowed : (written full : List ℕ) (r : Resolution) (name : List ℕ) (def : Definition) → or_shadowed written full r ≡ found name def → r ≡ found name def
unshadowed written full (found x d) name def is = is
unshadowed written full _ name def is = absurd (cc)

module _ (names more : ByText Definition) (seen : ℕ → Bool) (among : SeenAmong names more seen) (filter : ResolveNameFilter) where
  -- what is found is seen
  found-seen : (x name : List ℕ) (def : Definition) → look more seen filter x ≡ found name def → (finite.get more x ≡ Some def) × (seen def.file ≡ true)
  found-seen x name def is =
      let got = looked-named more seen filter x name def is in
      (got, sees-it def (ap (answer more seen filter x) (sym got) ∙ is))
    where
      sees-it : (d : Definition) → answer more seen filter x (Some d) ≡ found name def → seen d.file ≡ true
      sees-it d =
          elim (seen d.file) as (λ b. (if not b then not_imported x d.file else (if not (is_match filter d.kind) then invalid_type x d filter else found x d)) ≡ found name def → b ≡ true)
          [ true ↦ λ _. refl | false ↦ λ is. absurd (cc) ]

  look-fewer : (x name : List ℕ) (def : Definition) → look more seen filter x ≡ found name def → look names seen filter x ≡ found name def
  look-fewer x name def is =
      let held = found-seen x name def is in
      ap (answer names seen filter x) (among.sees x def held.0 held.1) ∙ sym (ap (answer more seen filter x) held.0) ∙ is

  not-found-fewer : (x : List ℕ) → is_found (look more seen filter x) ≡ false → is_found (look names seen filter x) ≡ false
  not-found-fewer x missed = elim (decided (look names seen filter x)) [
    | inl none ↦ none
    | inr (name, def, is) ↦ let again = look-again names seen filter more among.stay x name def is in absurd (cc)
  ]

  first-found : (name : List ℕ) (scopes : List (List ℕ)) (x : List ℕ) (def : Definition)
      → find is_found (answers more seen filter name scopes) ≡ Some (found x def) → find is_found (answers names seen filter name scopes) ≡ Some (found x def)
  first-found name [] x def is = absurd (cc)
  first-found name (scope ∷ scopes) x def is =
      let full = join scope name in
      let old = look more seen filter full in
      let new = look names seen filter full in
      let rest = find is_found (answers more seen filter name scopes) in
      let left = find is_found (answers names seen filter name scopes) in
      elim (decided old) [
        | inl missed ↦
            let later : rest ≡ Some (found x def) = sym (ap (λ b. cond b (Some old) rest) missed) ∙ is in
            ap (λ b. cond b (Some new) left) (not-found-fewer full missed) ∙ first-found name scopes x def later
        | inr (y, d, here) ↦
            let now = look-fewer full y d here in
            (λ i. cond (is_found (now i)) (Some (now i)) left) ∙ sym (λ i. cond (is_found (here i)) (Some (here i)) rest) ∙ is
      ]

  simple-fewer : (scopes : List (List ℕ)) (name x : List ℕ) (def : Definition) → simple more seen filter scopes name ≡ found x def → simple names seen filter scopes name ≡ found x def
  simple-fewer scopes name x def is =
      let rs = answers more seen filter name scopes in
      let left = answers names seen filter name scopes in
      ap (λ o. unwrap_or o (unwrap_or (find (λ r. not (is_not_found r)) left) not_found)) (first-found name scopes x def (best-found rs x def is))

  -- a scope that doesn't hold the first part doesn't hold it among fewer names
  holds-not : (name scope : List ℕ) → holds_first more seen filter name scope ≡ false → holds_first names seen filter name scope ≡ false
  holds-not name scope missed =
      let x = join scope (first_part name) in
      elim (finite.get names x) as (λ o. finite.get names x ≡ o → option_map_or (λ (def : Definition). is_parent def.kind) o false ≡ false) [
        | None ↦ λ _. refl
        | Some def ↦ λ got. sym (ap (λ o. option_map_or (λ (def : Definition). is_parent def.kind) o false) (among.stay x def got)) ∙ missed
      ] refl

  -- one that holds it, and in which the whole is found, holds it
  holds-still : (name scope x : List ℕ) (def : Definition) → has_dot name ≡ true → look more seen filter (join scope name) ≡ found x def
      → holds_first more seen filter name scope ≡ true → holds_first names seen filter name scope ≡ true
  holds-still name scope x def dot is holds =
      let held = found-seen (join scope name) x def is in
      let fronts_are = recursion_from_All (λ front. IsSome (finite.get names front)) (fronts (join scope name)) (among.prefixes (join scope name) def held.0 held.1) in
      let first = join scope (first_part name) in
      let known = first-inside (λ front. IsSome (finite.get names front)) scope name dot fronts_are in
      elim (finite.get names first) as (λ o. finite.get names first ≡ o → IsSome o → option_map_or (λ (def : Definition). is_parent def.kind) o false ≡ true) [
        | None ↦ λ _ some. absurd (cc)
        | Some d ↦ λ got _. sym (ap (λ o. option_map_or (λ (def : Definition). is_parent def.kind) o false) (among.stay first d got)) ∙ holds
      ] refl known

  abbrev settled : ByText Definition → List ℕ → Option (List ℕ) → Resolution
  settled known name scope = option_map_or (λ scope. or_shadowed name (join scope name) (look known seen filter (join scope name))) scope not_found

  dotted-fewer : (scopes : List (List ℕ)) (name x : List ℕ) (def : Definition) → has_dot name ≡ true → dotted more seen filter scopes name ≡ found x def
      → dotted names seen filter scopes name ≡ found x def
  dotted-fewer [] name x def dot is = absurd (cc)
  dotted-fewer (scope ∷ scopes) name x def dot is =
      let full = join scope name in
      let rest = find (holds_first more seen filter name) scopes in
      let left = find (holds_first names seen filter name) scopes in
      elim (holds_first more seen filter name scope) as (λ b. holds_first more seen filter name scope ≡ b → settled more name (cond b (Some scope) rest) ≡ found x def
      → settled names name (cond (holds_first names seen filter name scope) (Some scope) left) ≡ found x def) [
        | true ↦ λ holds here.
            let looked = unshadowed name full (look more seen filter full) x def here in
            ap (λ b. settled names name (cond b (Some scope) left)) (holds-still name scope x def dot looked holds)
            ∙ ap (or_shadowed name full) (look-fewer full x def looked)
        | false ↦ λ missed there.
            ap (λ b. settled names name (cond b (Some scope) left)) (holds-not name scope missed) ∙ dotted-fewer scopes name x def dot there
      ] refl is

  relative-fewer : (scope name x : List ℕ) (def : Definition) → relative more seen filter scope name ≡ found x def → relative names seen filter scope name ≡ found x def
  relative-fewer [] name x def = look-fewer name x def
  relative-fewer (c ∷ cs) name x def =
      let scopes = outer (c ∷ cs) in
      elim (has_dot name) as (λ b. has_dot name ≡ b → (if b then dotted more seen filter scopes name else simple more seen filter scopes name) ≡ found x def
      → (if b then dotted names seen filter scopes name else simple names seen filter scopes name) ≡ found x def) [
        | true ↦ λ dot is. dotted-fewer scopes name x def dot is
        | false ↦ λ _ is. simple-fewer scopes name x def is
      ] refl

  pub found-fewer : (scope written x : List ℕ) (def : Definition) → resolution more seen filter scope written ≡ found x def → resolution names seen filter scope written ≡ found x def
  found-fewer scope [] x def = relative-fewer scope [] x def
  found-fewer scope (c ∷ cs) x def =
      elim (is_dot c) as (λ b. (if b then look more seen filter cs else relative more seen filter scope (c ∷ cs)) ≡ found x def
      → (if b then look names seen filter cs else relative names seen filter scope (c ∷ cs)) ≡ found x def) [
        | true ↦ λ is. look-fewer cs x def is
        | false ↦ λ is. relative-fewer scope (c ∷ cs) x def is
      ]
