-- Which files a file sees does not depend on how the files are numbered.
use Rattle.std.proofs.Common.{◌⊎◌, Equal, Greater, Less, ◌≡◌, ◌≤◌, ◌<◌, ◌+◌, ◌==◌, ◌||◌, inl, inr, ℕ, zero, suc, Bool, true, false, cond, Option, None, Some, List, [], ◌∷◌, length, map, slice_get, unwrap_or, refl, ap, sym, ◌∙◌, arith}
use Rattle.std.proofs.lemmas.Bool.{cases_eq}
use Rattle.std.proofs.lemmas.Bool.Decides.{nat_tests}
use Rattle.std.specs.BTreeMap.{is_at}
use Rattle.std.specs.BTreeSet.{contains_by}
use Rattle.std.specs.Cmp.{nat_cmp_is}
use Rattle.std.specs.List.{Contains, cons_option, filter, filter_map, list_any, range_with_len}
use Rattle.std.specs.Option.{option_map}
use Rattle.std.specs.Ordering.{is_eq, nat_cmp}
use Rattle.proto_types.specs.File.{no_file, file_at}
use Rattle.proto_types.specs.declared.file.FileDescriptorProto.{FileDescriptorProto}
use Rattle.plain_data.specs.Lists.{at}
use Rattle.name_resolution.specs.Visibility.{imports_of, public_imports_of, leads_publicly, sees, seen_from}
use Rattle.name_resolution.proofs.Chains.{import-within}
use Rattle.pool_laws.proofs.Settings.{NamesFiles}

-- among the indexes from one on that pass a test, none before or behind them is found
pub none-apart : (test : ℕ → Bool) (i k n : ℕ) → (n < i) ⊎ (i + k ≤ n) → list_any (is_at (nat_cmp n)) (filter test (range_with_len i k)) ≡ false
none-apart test i zero n apart = refl
none-apart test i (suc k) n apart =
    let rest = filter test (range_with_len (i + 1) k) in
    let deeper : list_any (is_at (nat_cmp n)) rest ≡ false =
    none-apart test (i + 1) k n (elim apart [ inl before ↦ inl (omega (arith, before)) | inr past ↦ inr (omega (arith, past)) ]) in
    elim (test i) as (λ b. list_any (is_at (nat_cmp n)) (cond b (i ∷ rest) rest) ≡ false) [ true ↦ λ j. other apart j || deeper j | false ↦ deeper ]
  where
    other : (n < i) ⊎ (i + suc k ≤ n) → is_eq (nat_cmp n i) ≡ false
    other (inl before) = ap is_eq (sym (nat_cmp_is n i Less before))
    other (inr past) = let past : i < n = omega (arith, past) in ap is_eq (sym (nat_cmp_is n i Greater past))

-- an index is found among those that pass a test where it passes it
pub found-among : (test : ℕ → Bool) (i k n : ℕ) → i ≤ n → n < i + k → list_any (is_at (nat_cmp n)) (filter test (range_with_len i k)) ≡ test n
found-among test i zero n from below = absurd (omega (arith, from, below))
found-among test i (suc k) n from below =
    let rest = filter test (range_with_len (i + 1) k) in
    elim (cases_eq n i) [
      | inl same ↦
          let found : is_eq (nat_cmp n i) ≡ true = ap is_eq (sym (nat_cmp_is n i Equal same)) in
          let none : list_any (is_at (nat_cmp n)) rest ≡ false = none-apart test (i + 1) k n (inl (omega (arith, same))) in
          here (test i) found none ∙ ap test (sym same)
      | inr apart ↦
          let past : i < n = omega (arith, from, apart) in
          let other : is_eq (nat_cmp n i) ≡ false = ap is_eq (sym (nat_cmp_is n i Greater past)) in
          later (test i) other ∙ found-among test (i + 1) k n (omega (arith, past)) (omega (arith, below))
    ]
  where
    here : (b : Bool) → is_eq (nat_cmp n i) ≡ true → list_any (is_at (nat_cmp n)) (filter test (range_with_len (i + 1) k)) ≡ false → list_any (is_at (nat_cmp n)) (cond b (i ∷ filter test (range_with_len (i + 1) k)) (filter test (range_with_len (i + 1) k))) ≡ b
    here true found none = λ j. found j || list_any (is_at (nat_cmp n)) (filter test (range_with_len (i + 1) k))
    here false found none = none

    later : (b : Bool) → is_eq (nat_cmp n i) ≡ false → list_any (is_at (nat_cmp n)) (cond b (i ∷ filter test (range_with_len (i + 1) k)) (filter test (range_with_len (i + 1) k))) ≡ list_any (is_at (nat_cmp n)) (filter test (range_with_len (i + 1) k))
    later true other = λ j. other j || list_any (is_at (nat_cmp n)) (filter test (range_with_len (i + 1) k))
    later false other = refl

cons-moved : (number : ℕ → ℕ) (found : Option ℕ) (ns : List ℕ) → cons_option (option_map number found) (map number ns) ≡ map number (cons_option found ns)
cons-moved number None ns = refl
cons-moved number (Some n) ns = refl

-- a test of some of the numbers that numbers are moved to
any-moved : (number : ℕ → ℕ) (p q : ℕ → Bool) (ns : List ℕ) → ((n : ℕ) → Contains ns n → q (number n) ≡ p n) → list_any q (map number ns) ≡ list_any p ns
any-moved number p q [] same = refl
any-moved number p q (n ∷ ns) same =
    λ i. same n (0, omega arith, refl) i || any-moved number p q ns (λ m found. same m (suc found.0, omega (arith, found.1), found.2)) i

-- files that stand at other numbers, where names mean them
module _ (fs gs : List FileDescriptorProto) (before after : List ℕ → Option ℕ) (number : ℕ → ℕ)
    (many : length gs ≡ length fs)
    (files : (n : ℕ) → n < length fs → slice_get gs (number n) ≡ slice_get fs n)
    (within : (n : ℕ) → n < length fs → number n < length fs)
    (one : (m n : ℕ) → m < length fs → n < length fs → number m ≡ number n → m ≡ n)
    (mean : (name : List ℕ) → after name ≡ option_map number (before name))
    (lie : NamesFiles fs before) where
  same-number : (a b : ℕ) → a < length fs → b < length fs → (number a == number b) ≡ (a == b)
  same-number a b below_a below_b = elim (cases_eq a b) [
    | inl same ↦ let moved = ap number same in grind (arith, nat_tests)
    | inr apart ↦ let apart_too : number a ≡ number b → ⊥ = λ e. apart (one a b below_a below_b e) in grind (arith, nat_tests)
  ]

  same-file : (n : ℕ) → n < length fs → file_at gs (number n) ≡ file_at fs n
  same-file n below = ap (λ o. unwrap_or o no_file) (files n below)

  names-moved : (names : List (List ℕ)) → filter_map after names ≡ map number (filter_map before names)
  names-moved [] = refl
  names-moved (name ∷ names) = (λ i. cons_option (mean name i) (names-moved names i)) ∙ cons-moved number (before name) (filter_map before names)

  -- the imports of a file are where they moved to
  pub imports-moved : (n : ℕ) → n < length fs → imports_of after (file_at gs (number n)) ≡ map number (imports_of before (file_at fs n))
  imports-moved n below = ap (imports_of after) (same-file n below) ∙ names-moved (file_at fs n).dependency

  -- and so are its public imports
  pub publics-moved : (n : ℕ) → n < length fs → public_imports_of after (file_at gs (number n)) ≡ map number (public_imports_of before (file_at fs n))
  publics-moved n below =
      let f = file_at fs n in
      ap (public_imports_of after) (same-file n below) ∙ names-moved (filter_map (at f.dependency) f.public_dependency)

  chains-moved : (more a b : ℕ) → a < length fs → b < length fs → leads_publicly gs after more (number a) (number b) ≡ leads_publicly fs before more a b
  chains-moved zero a b below_a below_b = same-number a b below_a below_b
  chains-moved (suc more) a b below_a below_b =
      let f = file_at fs a in
      let names = filter_map (at f.dependency) f.public_dependency in
      let next : list_any (λ c. leads_publicly gs after more c (number b)) (public_imports_of after (file_at gs (number a))) ≡ list_any (λ c. leads_publicly fs before more c b) (public_imports_of before f) =
      ap (list_any (λ c. leads_publicly gs after more c (number b))) (publics-moved a below_a)
      ∙ any-moved number (λ c. leads_publicly fs before more c b) (λ c. leads_publicly gs after more c (number b)) (public_imports_of before f)
      (λ c found. chains-moved more c b (import-within fs before lie names c found) below_b) in
      λ i. same-number a b below_a below_b i || next i

  -- whether a file sees another
  pub sees-moved : (a b : ℕ) → a < length fs → b < length fs → sees gs after (number a) (number b) ≡ sees fs before a b
  sees-moved a b below_a below_b =
      let f = file_at fs a in
      let next : list_any (λ c. leads_publicly gs after (length gs) c (number b)) (imports_of after (file_at gs (number a))) ≡ list_any (λ c. leads_publicly fs before (length fs) c b) (imports_of before f) =
      ap (list_any (λ c. leads_publicly gs after (length gs) c (number b))) (imports-moved a below_a)
      ∙ ap (λ more. list_any (λ c. leads_publicly gs after more c (number b)) (map number (imports_of before f))) many
      ∙ any-moved number (λ c. leads_publicly fs before (length fs) c b) (λ c. leads_publicly gs after (length fs) c (number b)) (imports_of before f)
      (λ c found. chains-moved (length fs) c b (import-within fs before lie f.dependency c found) below_b) in
      λ i. same-number a b below_a below_b i || next i

  -- whether another is among the files that a file sees
  pub seen-moved : (a b : ℕ) → a < length fs → b < length fs
      → contains_by (nat_cmp (number b)) (record { keys = seen_from gs after (number a) }) ≡ contains_by (nat_cmp b) (record { keys = seen_from fs before a })
  seen-moved a b below_a below_b =
      let there = within b below_b in
      found-among (sees gs after (number a)) 0 (length gs) (number b) (omega arith) (omega (arith, many, there))
      ∙ sees-moved a b below_a below_b
      ∙ sym (found-among (sees fs before a) 0 (length fs) b (omega arith) (omega (arith, below_b)))
