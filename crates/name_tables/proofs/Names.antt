-- What finite maps of names have at a name, and that those which have the same are one.
use Rattle.std.proofs.Common.{◌≡◌, ℕ, Bool, false, cond, List, [], ◌∷◌, Option, None, Some, refl, ap, sym, ◌∙◌, ltb}
use Rattle.std.specs.Cmp.Lexicographic.{nat_list_cmp_total, slice_cmp, texts_ties}
use Rattle.std.specs.FinMap as map
use Rattle.std.specs.FinMap.{find, get-from_entries, get-retain_keys, same_map, slice_cmp-IsAntisymmetric, nat_cmp-IsAntisymmetric}
use Rattle.std.specs.Map.{lookup}
use Rattle.std.specs.Option.{option_map_or}
use Rattle.std.specs.Ordering.{nat_cmp}
use Rattle.std.specs.Str.{bytes_eq}
use Rattle.std.proofs.lemmas.Map.Entries.{option_filter}
use Rattle.pool_types.specs.Contents.{ByText}
use Rattle.name_tables.specs.NameTables.{kept_before}

pub same_names : {X : Type 0} (m n : ByText X) → ((name : List ℕ) → map.get m name ≡ map.get n name) → m ≡ n
same_names = same_map nat_list_cmp_total (slice_cmp-IsAntisymmetric nat_cmp-IsAntisymmetric)

module _ {X : Type 0} where
  pub find-lookup : (es : List (List ℕ × X)) (name : List ℕ) → find (slice_cmp nat_cmp) name es ≡ lookup (bytes_eq name) es
  find-lookup [] name = refl
  find-lookup (e ∷ es) name = λ i. cond (sym (texts_ties name e.0) i) (Some e.1) (find-lookup es name i)

  -- a finite map that is made of entries has what the first entry of a name says
  pub get-lookup : (es : List (List ℕ × X)) (name : List ℕ) → map.get (map.from_entries {R = slice_cmp nat_cmp} es) name ≡ lookup (bytes_eq name) es
  get-lookup es name = get-from_entries nat_list_cmp_total es name ∙ find-lookup es name

  kept : (p : X → Bool) (found : Option X) → cond (option_map_or p found false) found None ≡ option_filter p found
  kept p None = refl
  kept p (Some d) = refl

  -- without later files a map has what it had, where that lies in an earlier file
  pub get-kept_before : (file_of : X → ℕ) (n : ℕ) (m : ByText X) (name : List ℕ) → map.get (kept_before file_of n m) name ≡ option_filter (λ x. ltb (file_of x) n) (map.get m name)
  get-kept_before file_of n m name =
      let before : List ℕ → Bool = λ q. option_map_or (λ x. ltb (file_of x) n) (map.get m q) false in
      get-retain_keys m before name (λ q tied. ap before (sym (slice_cmp-IsAntisymmetric nat_cmp-IsAntisymmetric name q tied)))
      ∙ kept (λ x. ltb (file_of x) n) (map.get m name)
