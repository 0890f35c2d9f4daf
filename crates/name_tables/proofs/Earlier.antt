-- What is left of names where later files are taken away.
use Rattle.std.proofs.Common.{◌≡◌, ◌<◌, ◌≤◌, ℕ, Bool, true, false, cond, List, Option, None, Some, refl, ap, sym, ◌∙◌, ltb}
use Rattle.std.specs.Cmp.Lexicographic.{nat_list_cmp_total, texts_ties, bytes_decides}
use Rattle.std.specs.FinMap.{get-insert}
use Rattle.std.specs.FinMap as map
use Rattle.std.specs.Option.{IfSome}
use Rattle.std.specs.Str.{bytes_eq}
use Rattle.std.proofs.lemmas.Bool.{lt-ltb, le-ltb}
use Rattle.std.proofs.lemmas.Map.Entries.{option_filter}
use Rattle.pool_types.specs.Contents.{ByText}
use Rattle.name_tables.specs.NameTables.{kept_before, EarlierNamesStay, LaterNameGoes}
use Rattle.name_tables.proofs.Names.{same_names, get-kept_before}

module _ {X : Type 0} (file_of : X → ℕ) (n : ℕ) where
  stays : (was : Option X) → IfSome was (λ x. file_of x < n) → option_filter (λ x. ltb (file_of x) n) was ≡ was
  stays None before = refl
  stays (Some x) before = ap (λ b. cond b (Some x) None) (lt-ltb (file_of x) n before)

  pub earlier-stay : (names : ByText X) → ((name : List ℕ) → IfSome (map.get names name) (λ x. file_of x < n)) → kept_before file_of n names ≡ names
  earlier-stay names before = same_names _ names (λ name. get-kept_before file_of n names name ∙ stays (map.get names name) (before name))

  -- what a name has that is entered with a later file, and what it had
  gone : (x : X) (b : Bool) (was : Option X) → (b ≡ true → was ≡ None) → n ≤ file_of x
      → option_filter (λ x. ltb (file_of x) n) (cond b (Some x) was) ≡ option_filter (λ x. ltb (file_of x) n) was
  gone x true was absent later = ap (λ b. cond b (Some x) None) (le-ltb (file_of x) n later) ∙ ap (option_filter (λ x. ltb (file_of x) n)) (sym (absent refl))
  gone x false was absent later = refl

  pub later-goes : (names : ByText X) (name : List ℕ) (x : X) → map.get names name ≡ None → n ≤ file_of x
      → kept_before file_of n (map.insert names name x) ≡ kept_before file_of n names
  later-goes names name x absent later = same_names _ (kept_before file_of n names) (λ other.
      get-kept_before file_of n (map.insert names name x) other
      ∙ ap (option_filter (λ x. ltb (file_of x) n)) (get-insert nat_list_cmp_total names name x other)
      ∙ ap (λ b. option_filter (λ x. ltb (file_of x) n) (cond b (Some x) (map.get names other))) (sym (texts_ties other name))
      ∙ gone x (bytes_eq other name) (map.get names other) (λ same. ap (map.get names) ((bytes_decides other name).0 same) ∙ absent) later
      ∙ sym (get-kept_before file_of n names other))

pub earlier-names : EarlierNamesStay
earlier-names n names before = earlier-stay (λ d. d.file) n names before

pub later-name : LaterNameGoes
later-name n names name d absent later = later-goes (λ d. d.file) n names name d absent later
