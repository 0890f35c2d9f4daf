-- Chains of public imports, and the test that follows them.
use Rattle.std.proofs.Common.{◌≡◌, ◌<◌, ◌≤◌, ◌⊎◌, ℕ, zero, suc, pos, negsuc, ℤ, true, false, cond, List, [], ◌∷◌, ◌++◌, ◌||◌, Option, Some, refl, ap, sym, ◌∙◌, subst, inl, inr, length, eqb, arith}
use Rattle.std.specs.List.{list_any, filter_map, Contains}
use Rattle.std.proofs.lemmas.Bool.{eqb-true, eq-eqb, or_cases, or_left, or_right, or_from, or_parts, cases_eq, ne_eqb, true≢false}
use Rattle.std.proofs.lemmas.List.Folds.{Any-from_list_any, list_any-from_Any}
use Rattle.std.proofs.lemmas.Option.{slice_get_within, get_or_from_slice_get}
use Rattle.proto_types.specs.declared.file.FileDescriptorProto.{FileDescriptorProto}
use Rattle.plain_data.specs.Lists.{at}
use Rattle.name_resolution.specs.Visibility.{imports_of, public_imports_of, Imports, ImportsPublicly, PublicChain, Sees, leads_publicly, sees, SeesIsTested}
use Rattle.proto_types.specs.File.{file_at}
use Rattle.name_resolution.proofs.Members.{has, Contains-filter_map, filter_map-Contains}

-- how many indexes below n a list lacks
abbrev pub lacking : ℕ → List ℕ → ℕ
lacking zero xs = 0
lacking (suc n) xs = cond (has xs n) (lacking n xs) (suc (lacking n xs))

lacking-le : (n a : ℕ) (xs : List ℕ) → lacking n (a ∷ xs) ≤ lacking n xs
lacking-le zero a xs = omega arith
lacking-le (suc n) a xs =
    let less : lacking n (a ∷ xs) ≤ lacking n xs = lacking-le n a xs in
    elim (eqb n a) as (λ b. cond (b || has xs n) (lacking n (a ∷ xs)) (suc (lacking n (a ∷ xs))) ≤ cond (has xs n) (lacking n xs) (suc (lacking n xs))) [
      | true ↦ elim (has xs n) as (λ c. lacking n (a ∷ xs) ≤ cond c (lacking n xs) (suc (lacking n xs))) [ true ↦ less | false ↦ omega arith ]
      | false ↦ elim (has xs n) as (λ c. cond c (lacking n (a ∷ xs)) (suc (lacking n (a ∷ xs))) ≤ cond c (lacking n xs) (suc (lacking n xs))) [ true ↦ less | false ↦ omega arith ]
    ]

-- one more index that was lacking
lacking-less : (n a : ℕ) (xs : List ℕ) → a < n → has xs a ≡ false → lacking n (a ∷ xs) < lacking n xs
lacking-less zero a xs below absent = absurd (omega arith)
lacking-less (suc n) a xs below absent = elim (cases_eq n a) [
  | inl same ↦
      let less : lacking n (a ∷ xs) ≤ lacking n xs = lacking-le n a xs in
      let gone : has xs n ≡ false = ap (has xs) same ∙ absent in
      let now : lacking (suc n) (a ∷ xs) ≡ lacking n (a ∷ xs) = ap (λ b. cond b (lacking n (a ∷ xs)) (suc (lacking n (a ∷ xs)))) (or_left (eqb n a) (has xs n) (eq-eqb n a same)) in
      let was : lacking (suc n) xs ≡ suc (lacking n xs) = ap (λ b. cond b (lacking n xs) (suc (lacking n xs))) gone in
      omega arith
  | inr other ↦
      let less : lacking n (a ∷ xs) < lacking n xs = lacking-less n a xs (omega arith) absent in
      rw (ne_eqb n a other) (elim (has xs n) as (λ c. cond c (lacking n (a ∷ xs)) (suc (lacking n (a ∷ xs))) < cond c (lacking n xs) (suc (lacking n xs))) [ true ↦ less | false ↦ omega arith ])
]

-- no index of a list is in another
abbrev Avoids : List ℕ → List ℕ → Type 0
Avoids xs [] = Unit {0}
Avoids xs (c ∷ cs) = (has xs c ≡ false) × Avoids xs cs

avoids-none : (cs : List ℕ) → Avoids [] cs
avoids-none [] = tt
avoids-none (c ∷ cs) = (refl, avoids-none cs)

lacking-few : (n : ℕ) (xs : List ℕ) → lacking n xs ≤ n
lacking-few zero xs = omega arith
lacking-few (suc n) xs =
    let few : lacking n xs ≤ n = lacking-few n xs in
    elim (has xs n) as (λ b. cond b (lacking n xs) (suc (lacking n xs)) ≤ suc n) [ true ↦ omega arith | false ↦ omega arith ]

module _ (files : List FileDescriptorProto) (numbers : List ℕ → Option ℕ) where
  abbrev publics : ℕ → List ℕ
  publics a = public_imports_of numbers (file_at files a)

  abbrev Chain : ℕ → List ℕ → ℕ → Type 0
  Chain = PublicChain files numbers

  -- the test finds a chain
  chain-from_leads : (k a b : ℕ) → leads_publicly files numbers k a b ≡ true → (cs : List ℕ) × Chain a cs b
  chain-from_leads zero a b is = ([], eqb-true a b is)
  chain-from_leads (suc k) a b is = elim (or_cases (eqb a b) (list_any (λ c. leads_publicly files numbers k c b) (publics a)) is) [
    | inl same ↦ ([], eqb-true a b same)
    | inr one ↦
        let found = Any-from_list_any (λ c. leads_publicly files numbers k c b) (publics a) one in
        let more = chain-from_leads k found.1 b found.4 in
        (found.1 ∷ more.0, ((found.0, found.2, found.3), more.1))
  ]

  -- a public import is an import
  pub Imports-from_public : (a c : ℕ) → ImportsPublicly files numbers a c → Imports files numbers a c
  Imports-from_public a c found =
      let name = Contains-filter_map numbers (filter_map (at (file_at files a).dependency) (file_at files a).public_dependency) c found in
      let place = Contains-filter_map (at (file_at files a).dependency) (file_at files a).public_dependency name.0 name.1 in
      filter_map-Contains numbers (file_at files a).dependency name.0 c (stands (file_at files a).dependency place.0 name.0 place.2) name.2
    where
      stands : (names : List (List ℕ)) (place : ℤ) (name : List ℕ) → at names place ≡ Some name → Contains names name
      stands names (pos n) name is = (n, slice_get_within names n name is, get_or_from_slice_get names n name name is)
      stands names (negsuc n) name is = cc

  -- a chain goes on
  pub chain-push : (a b c : ℕ) (cs : List ℕ) → Chain a cs b → ImportsPublicly files numbers b c → Chain a (cs ++ c ∷ []) c
  chain-push a b c [] chain more = (subst (λ x. ImportsPublicly files numbers x c) (sym chain) more, refl)
  chain-push a b c (d ∷ cs) chain more = (chain.0, chain-push d b c cs chain.1 more)

  -- a sees itself
  pub Sees-itself : (a : ℕ) → Sees files numbers a a
  Sees-itself a = inl refl

  -- a sees its imports
  pub Sees-import : (a c : ℕ) → Imports files numbers a c → Sees files numbers a c
  Sees-import a c found = inr (c, [], found, refl)

  -- a sees what a file that it sees imports publicly
  pub Sees-public : (a b c : ℕ) → Sees files numbers a b → ImportsPublicly files numbers b c → Sees files numbers a c
  Sees-public a b c (inl same) found = Sees-import a c (Imports-from_public a c (subst (λ x. ImportsPublicly files numbers x c) same found))
  Sees-public a b c (inr chain) found = inr (chain.0, chain.1 ++ c ∷ [], chain.2, chain-push chain.0 b c chain.1 chain.3 found)

  -- a set with a and its imports, and with the public imports of each in it, has all that a sees
  pub Sees-least : (a : ℕ) (P : ℕ → Type 0) → P a → ((c : ℕ) → Imports files numbers a c → P c) → ((b : ℕ) → P b → (c : ℕ) → ImportsPublicly files numbers b c → P c)
      → (b : ℕ) → Sees files numbers a b → P b
  Sees-least a P here imports closed b (inl same) = subst P (sym same) here
  Sees-least a P here imports closed b (inr chain) = along chain.0 chain.1 (imports chain.0 chain.2) chain.3
    where
      along : (c : ℕ) (cs : List ℕ) → P c → Chain c cs b → P b
      along c [] at_c is = subst P is at_c
      along c (d ∷ cs) at_c chain = along d cs (closed c at_c d chain.0) chain.1

  -- behind the last time that a chain passes a it begins anew from there
  abbrev Anew : ℕ → List ℕ → ℕ → Type 0
  Anew a xs b = (b ≡ a) ⊎ ((c : ℕ) × (cs : List ℕ) × ImportsPublicly files numbers a c × Chain c cs b × Avoids (a ∷ xs) (c ∷ cs))

  anew : (a x b : ℕ) (xs cs : List ℕ) → Avoids xs (x ∷ cs) → Chain x cs b → Avoids (a ∷ xs) (x ∷ cs) ⊎ Anew a xs b
  anew a x b xs [] avoid chain = elim (cases_eq x a) [
    | inl same ↦ inr (inl (sym chain ∙ same))
    | inr other ↦ inl (or_from (eqb x a) (has xs x) (ne_eqb x a other) avoid.0, tt)
  ]
  anew a x b xs (c ∷ cs) avoid chain = elim (anew a c b xs cs avoid.1 chain.1) [
    | inl rest ↦ elim (cases_eq x a) [
      | inl same ↦ inr (inr (c, cs, subst (λ y. ImportsPublicly files numbers y c) same chain.0, chain.1, rest))
      | inr other ↦ inl (or_from (eqb x a) (has xs x) (ne_eqb x a other) avoid.0, rest)
    ]
    | inr again ↦ inr again
  ]

  -- each name means a file that is there
  module _ (within : (name : List ℕ) (n : ℕ) → numbers name ≡ Some n → n < length files) where
    pub import-within : (names : List (List ℕ)) (c : ℕ) → Contains (filter_map numbers names) c → c < length files
    import-within names c found = let name = Contains-filter_map numbers names c found in within name.0 c name.2

    -- a chain is found in as many steps as there are files that it does not avoid
    leads-within : (k a b : ℕ) (xs cs : List ℕ) → lacking (length files) xs ≤ k → a < length files → Avoids xs (a ∷ cs) → Chain a cs b → leads_publicly files numbers k a b ≡ true
    leads-within zero a b xs cs enough below avoid chain = let less = lacking-less (length files) a xs below avoid.0 in absurd (omega arith)
    leads-within (suc k) a b xs cs enough below avoid chain = elim (anew a a b xs cs avoid chain) [
      | inl none ↦ absurd (true≢false (sym (eq-eqb a a refl) ∙ (or_parts (eqb a a) (has xs a) none.0).0))
      | inr (inl same) ↦ or_left (eqb a b) _ (eq-eqb a b (sym same))
      | inr (inr again) ↦
          let less : lacking (length files) (a ∷ xs) < lacking (length files) xs = lacking-less (length files) a xs below avoid.0 in
          let more : leads_publicly files numbers k again.0 b ≡ true = leads-within k again.0 b (a ∷ xs) again.1 (omega arith) (import-within _ again.0 again.2) again.4 again.3 in
          or_right (eqb a b) _ (list_any-from_Any (λ c. leads_publicly files numbers k c b) (publics a) (again.2.0, again.0, again.2.1, again.2.2, more))
    ]

    -- what a sees is a file that is there
    pub Sees-within : (a b : ℕ) → a < length files → Sees files numbers a b → b < length files
    Sees-within a b below seen = Sees-least a (λ c. c < length files) below (λ c found. import-within _ c found) (λ b at_b c found. import-within _ c found) b seen

    pub Sees-tested : (a b : ℕ) → Sees files numbers a b → sees files numbers a b ≡ true
    Sees-tested a b (inl same) = or_left (eqb a b) _ (eq-eqb a b (sym same))
    Sees-tested a b (inr chain) =
        let leads = leads-within (length files) chain.0 b [] chain.1 (lacking-few (length files) []) (import-within _ chain.0 chain.2) (avoids-none (chain.0 ∷ chain.1)) chain.3 in
        or_right (eqb a b) _ (list_any-from_Any (λ c. leads_publicly files numbers (length files) c b) (imports_of numbers (file_at files a)) (chain.2.0, chain.0, chain.2.1, chain.2.2, leads))

  pub Sees-from_test : (a b : ℕ) → sees files numbers a b ≡ true → Sees files numbers a b
  Sees-from_test a b is = elim (or_cases (eqb a b) (list_any (λ c. leads_publicly files numbers (length files) c b) (imports_of numbers (file_at files a))) is) [
    | inl same ↦ inl (sym (eqb-true a b same))
    | inr one ↦
        let found = Any-from_list_any (λ c. leads_publicly files numbers (length files) c b) (imports_of numbers (file_at files a)) one in
        let more = chain-from_leads (length files) found.1 b found.4 in
        inr (found.1, more.0, (found.0, found.2, found.3), more.1)
  ]

pub sees-is_tested : SeesIsTested
sees-is_tested files numbers within a b below = (Sees-from_test files numbers a b, Sees-tested files numbers within a b)
