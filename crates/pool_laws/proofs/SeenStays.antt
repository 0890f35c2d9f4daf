-- What a file sees stays where files come behind, as long as each of its imports, and of theirs, was there.
use Rattle.std.proofs.Common.{◌≡◌, ◌≤◌, ◌<◌, ◌+◌, ℕ, ℤ, zero, suc, pos, negsuc, Bool, true, false, Option, None, Some, List, [], ◌∷◌, ◌++◌, length, cond, refl, ap, subst, sym, ◌∙◌, arith}
use Rattle.std.proofs.lemmas.List.{get_or_append_left, length-append}
use Rattle.std.proofs.lemmas.Option.{slice_get_within, get_or_from_slice_get, unwrap_or-slice_get}
use Rattle.std.specs.List.{filter, filter_map, range_with_len, Contains, cons_option}
use Rattle.proto_types.specs.File.{no_file, file_at}
use Rattle.proto_types.specs.declared.file.FileDescriptorProto.{FileDescriptorProto}
use Rattle.plain_data.specs.Lists.{at}
use Rattle.name_resolution.specs.Visibility.{imports_of, public_imports_of, Sees, sees, seen_from}
use Rattle.pool_laws.proofs.Settings.{ImportsStay, NamesFiles}
use Rattle.name_resolution.proofs.Chains.{Sees-itself, Sees-import, Sees-public, Sees-least, Sees-from_test, Sees-tested, import-within}

-- namings under which each of some names means the same
same-named : (f g : List ℕ → Option ℕ) (names : List (List ℕ)) → ((name : List ℕ) → Contains names name → g name ≡ f name) → filter_map g names ≡ filter_map f names
same-named f g [] same = refl
same-named f g (name ∷ names) same =
    λ i. cons_option (same name (0, omega arith, refl) i) (same-named f g names (λ other found. same other (suc found.0, omega (arith, found.1), found.2)) i)

-- an import by its place is one of the imports
place-stands : (names : List (List ℕ)) (place : ℤ) (name : List ℕ) → at names place ≡ Some name → Contains names name
place-stands names (pos n) name is = (n, slice_get_within names n name is, get_or_from_slice_get names n name name is)
place-stands names (negsuc n) name is = cc

abbrev Placed : List (List ℕ) → List (List ℕ) → Type 0
Placed names picked = (name : List ℕ) → Contains picked name → Contains names name

first-placed : (names : List (List ℕ)) (place : ℤ) (got : Option (List ℕ)) (picked : List (List ℕ)) → at names place ≡ got → Placed names picked → Placed names (cons_option got picked)
first-placed names place None picked is rest name found = rest name found
first-placed names place (Some here) picked is rest name (zero, below, same) = subst (Contains names) same (place-stands names place here is)
first-placed names place (Some here) picked is rest name (suc k, below, same) = rest name (k, omega (arith, below), same)

placed : (names : List (List ℕ)) (places : List ℤ) → Placed names (filter_map (at names) places)
placed names [] name found = absurd (omega (arith, found.1))
placed names (place ∷ places) name found = first-placed names place (at names place) (filter_map (at names) places) refl (placed names places) name found

-- indexes of which those past a first few fail a test
none-past : (test : ℕ → Bool) (from many : ℕ) → ((b : ℕ) → from ≤ b → test b ≡ false) → filter test (range_with_len from many) ≡ []
none-past test from zero fails = refl
none-past test from (suc many) fails =
    ap (λ b. cond b (from ∷ filter test (range_with_len (from + 1) many)) (filter test (range_with_len (from + 1) many))) (fails from (omega arith))
    ∙ none-past test (from + 1) many (λ b later. fails b (omega (arith, later)))

same-indexes : (p q : ℕ → Bool) (from few many : ℕ) → ((b : ℕ) → b < from + few → q b ≡ p b) → ((b : ℕ) → from + few ≤ b → q b ≡ false)
    → filter q (range_with_len from (few + many)) ≡ filter p (range_with_len from few)
same-indexes p q from zero many same fails =
    let none : 0 + many ≡ many = omega arith in
    ap (λ n. filter q (range_with_len from n)) none ∙ none-past q from many (λ b later. fails b (omega (arith, later)))
same-indexes p q from (suc few) many same fails =
    let rest = same-indexes p q (from + 1) few many (λ b below. same b (omega (arith, below))) (λ b later. fails b (omega (arith, later))) in
    let next : suc few + many ≡ suc (few + many) = omega arith in
    ap (λ n. filter q (range_with_len from n)) next ∙ (λ i. cond (same from (omega arith) i) (from ∷ rest i) (rest i))

from-tests : (a b : Bool) → (a ≡ true → b ≡ true) → (b ≡ true → a ≡ true) → b ≡ a
from-tests true b there back = there refl
from-tests false true there back = sym (back refl)
from-tests false false there back = refl

-- a name of the first files means the same among all, and it means one of them
module _ (files more : List FileDescriptorProto) (before after : List ℕ → Option ℕ)
    (within : NamesFiles files before) (within_all : NamesFiles (files ++ more) after) (stays : ImportsStay files before after) where
  abbrev all : List FileDescriptorProto
  all = files ++ more

  same-file : (n : ℕ) → n < length files → file_at all n ≡ file_at files n
  same-file n below = unwrap_or-slice_get all n no_file ∙ get_or_append_left files more no_file n below ∙ sym (unwrap_or-slice_get files n no_file)

  same-imports : (n : ℕ) → n < length files → imports_of after (file_at all n) ≡ imports_of before (file_at files n)
  same-imports n below =
      ap (imports_of after) (same-file n below)
      ∙ same-named before after (file_at files n).dependency (stays n below)

  same-public : (n : ℕ) → n < length files → public_imports_of after (file_at all n) ≡ public_imports_of before (file_at files n)
  same-public n below =
      let f = file_at files n in
      ap (public_imports_of after) (same-file n below)
      ∙ same-named before after (filter_map (at f.dependency) f.public_dependency) (λ name found. stays n below name (placed f.dependency f.public_dependency name found))

  module _ (a : ℕ) (here : a < length files) where
    there : (b : ℕ) → Sees files before a b → (b < length files) × Sees all after a b
    there b seen =
        Sees-least files before a (λ c. (c < length files) × Sees all after a c) (here, Sees-itself all after a)
        (λ c found. (import-within files before within (file_at files a).dependency c found, Sees-import all after a c (subst (λ xs. Contains xs c) (sym (same-imports a here)) found)))
        (λ b at_b c found. (import-within files before within _ c found, Sees-public all after a b c at_b.1 (subst (λ xs. Contains xs c) (sym (same-public b at_b.0)) found)))
        b seen

    back : (b : ℕ) → Sees all after a b → (b < length files) × Sees files before a b
    back b seen =
        Sees-least all after a (λ c. (c < length files) × Sees files before a c) (here, Sees-itself files before a)
        (λ c found. let is = subst (λ xs. Contains xs c) (same-imports a here) found in (import-within files before within (file_at files a).dependency c is, Sees-import files before a c is))
        (λ b at_b c found. let is = subst (λ xs. Contains xs c) (same-public b at_b.0) found in (import-within files before within _ c is, Sees-public files before a b c at_b.1 is))
        b seen

    same-test : (b : ℕ) → sees all after a b ≡ sees files before a b
    same-test b =
        from-tests (sees files before a b) (sees all after a b)
        (λ is. Sees-tested all after within_all a b (there b (Sees-from_test files before a b is)).1)
        (λ is. Sees-tested files before within a b (back b (Sees-from_test all after a b is)).1)

    none-later : (b : ℕ) → length files ≤ b → sees all after a b ≡ false
    none-later b later = elim (sees all after a b) as (λ t. sees all after a b ≡ t → t ≡ false) [
      | true ↦ λ is. let before_end = (back b (Sees-from_test all after a b is)).0 in absurd (omega (arith, later, before_end))
      | false ↦ λ is. refl
    ] refl

    pub seen-stays : seen_from all after a ≡ seen_from files before a
    seen-stays =
        ap (λ n. filter (sees all after a) (range_with_len 0 n)) (length-append files more)
        ∙ same-indexes (sees files before a) (sees all after a) 0 (length files) (length more)
        (λ b _. same-test b) (λ b later. none-later b (omega (arith, later)))
