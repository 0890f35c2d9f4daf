-- Entries behind known names.
use Rattle.std.proofs.Common.{◌≡◌, ℕ, Bool, true, false, cond, List, [], ◌∷◌, ◌++◌, Option, None, Some, refl, ap, sym, ◌∙◌}
use Rattle.std.specs.Cmp.Lexicographic.{nat_list_cmp_total, texts_ties, bytes_decides}
use Rattle.std.specs.FinMap as map
use Rattle.std.specs.FinMap.{get-entries, get-insert}
use Rattle.std.specs.Option.{option_or}
use Rattle.std.specs.Str.{bytes_eq}
use Rattle.pool_types.specs.Contents.{ByText}
use Rattle.name_tables.specs.Entries.{first_of, names, names_with, NamesAreFirst}
use Rattle.name_tables.proofs.Names.{same_names, get-lookup, find-lookup}

pub names_first : NamesAreFirst
names_first entries name = get-lookup entries name

module _ {X : Type 0} where
  pub first-append : (xs ys : List (List ℕ × X)) (name : List ℕ) → first_of (xs ++ ys) name ≡ option_or (first_of xs name) (first_of ys name)
  first-append [] ys name = refl
  first-append (x ∷ xs) ys name =
      elim (bytes_eq name x.0) as (λ b. cond b (Some x.1) (first_of (xs ++ ys) name) ≡ option_or (cond b (Some x.1) (first_of xs name)) (first_of ys name))
      [ true ↦ refl | false ↦ first-append xs ys name ]

  -- what a name means behind known names: what is known, else what the first entry says
  pub get-with : (known : ByText X) (es : List (List ℕ × X)) (name : List ℕ) → map.get (names_with known es) name ≡ option_or (map.get known name) (first_of es name)
  get-with known es name =
      get-lookup (map.entries known ++ es) name ∙ first-append (map.entries known) es name
      ∙ ap (λ found. option_or found (first_of es name)) (sym (get-entries known name ∙ find-lookup (map.entries known) name))

  or-none : (found : Option X) → option_or found None ≡ found
  or-none None = refl
  or-none (Some x) = refl

  pub with-nothing : (known : ByText X) → names_with known [] ≡ known
  with-nothing known = same_names (names_with known []) known (λ name. get-with known [] name ∙ or-none (map.get known name))

  or-assoc : (a b c : Option X) → option_or (option_or a b) c ≡ option_or a (option_or b c)
  or-assoc None b c = refl
  or-assoc (Some x) b c = refl

  -- entries behind entries
  pub with-more : (known : ByText X) (xs ys : List (List ℕ × X)) → names_with (names_with known xs) ys ≡ names_with known (xs ++ ys)
  with-more known xs ys = same_names (names_with (names_with known xs) ys) (names_with known (xs ++ ys)) (λ name.
      get-with (names_with known xs) ys name
      ∙ ap (λ found. option_or found (first_of ys name)) (get-with known xs name)
      ∙ or-assoc (map.get known name) (first_of xs name) (first_of ys name)
      ∙ ap (option_or (map.get known name)) (sym (first-append xs ys name))
      ∙ sym (get-with known (xs ++ ys) name))

  -- entries behind the names of entries
  pub with-names : (xs ys : List (List ℕ × X)) → names_with (names xs) ys ≡ names (xs ++ ys)
  with-names xs ys = same_names (names_with (names xs) ys) (names (xs ++ ys)) (λ name.
      get-with (names xs) ys name
      ∙ ap (λ found. option_or found (first_of ys name)) (get-lookup xs name)
      ∙ sym (first-append xs ys name) ∙ sym (get-lookup (xs ++ ys) name))

  one-absent : (x : X) (b : Bool) (was : Option X) → (b ≡ true → was ≡ None) → option_or was (cond b (Some x) None) ≡ cond b (Some x) was
  one-absent x true was absent = ap (λ found. option_or found (Some x)) (absent refl)
  one-absent x false was absent = or-none was

  -- one entry behind names that lack it
  pub with-absent : (known : ByText X) (name : List ℕ) (x : X) → map.get known name ≡ None → names_with known ((name, x) ∷ []) ≡ map.insert known name x
  with-absent known name x absent = same_names (names_with known ((name, x) ∷ [])) (map.insert known name x) (λ other.
      get-with known ((name, x) ∷ []) other
      ∙ one-absent x (bytes_eq other name) (map.get known other) (λ same. ap (map.get known) ((bytes_decides other name).0 same) ∙ absent)
      ∙ ap (λ b. cond b (Some x) (map.get known other)) (texts_ties other name)
      ∙ sym (get-insert nat_list_cmp_total known name x other))

  one-present : (x y : X) (b : Bool) (was : Option X) → (b ≡ true → was ≡ Some y) → option_or was (cond b (Some x) None) ≡ was
  one-present x y true was present = ap (λ found. option_or found (Some x)) (present refl) ∙ sym (present refl)
  one-present x y false was present = or-none was

  -- one entry behind names that have it
  pub with-present : (known : ByText X) (name : List ℕ) (x y : X) → map.get known name ≡ Some y → names_with known ((name, x) ∷ []) ≡ known
  with-present known name x y present = same_names (names_with known ((name, x) ∷ [])) known (λ other.
      get-with known ((name, x) ∷ []) other
      ∙ one-present x y (bytes_eq other name) (map.get known other) (λ same. ap (map.get known) ((bytes_decides other name).0 same) ∙ present))
