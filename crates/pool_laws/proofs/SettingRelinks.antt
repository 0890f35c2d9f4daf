-- Fields that are changed, and keep their numbers and their JSON names: no two have one where no two had.
use Rattle.std.proofs.Common.{◌≡◌, ℕ, ◌+◌, ℤ, Bool, true, false, cond, ◌||◌, is_some, Option, None, Some, List, [], ◌∷◌, ◌++◌, map, reverse, find, refl, ap, sym, ◌∙◌}
use Rattle.std.specs.List.{enumerate_from}
use Rattle.std.specs.Option.{option_map, option_map_or, option_or}
use Rattle.std.specs.Ordering.{int_eq}
use Rattle.std.specs.Str.{bytes_eq}
use Rattle.std.proofs.lemmas.List.{reverse-append}
use Rattle.std.proofs.lemmas.List.Folds.{find-append}
use Rattle.proto_types.specs.declared.records.field.FieldDescriptorProto.{FieldDescriptorProto}
use Rattle.plain_data.specs.Lists.{listed}
use Rattle.proto_types.specs.Readers.{number_of}
use Rattle.proto_types.specs.declared.file.FileDescriptorProto.{FileDescriptorProto}
use Rattle.pool_faults.specs.declared.fault.DescriptorErrorKind.TheVariants as fault
use Rattle.field_rules.specs.Duplicates.{duplicate_faults, json_name_duplicate, latest, name_label, number_duplicate}
use Rattle.reference_pass.proofs.Unbroken.{both-empty}
use Rattle.pool_laws.proofs.Told.{lists-nothing, nothing-of}

or-some : {X : Type 0} (a : Option X) (b : Bool) (e : X) → is_some (option_or a (cond b (Some e) None)) ≡ (is_some a || b)
or-some None true e = refl
or-some None false e = refl
or-some (Some x) b e = refl

-- the last entry that meets a test
abbrev last_that : {X : Type 0} → (X → Bool) → ℕ → List X → Option (ℕ × X)
last_that test n xs = find (λ e. test e.1) (reverse (enumerate_from n xs))

last-more : {X : Type 0} (test : X → Bool) (n : ℕ) (x : X) (xs : List X) → is_some (last_that test n (x ∷ xs)) ≡ (is_some (last_that test (n + 1) xs) || test x)
last-more {X} test n x xs =
    let e : ℕ × X = (n, x) in
    let es = enumerate_from (n + 1) xs in
    ap is_some (ap (find (λ e. test e.1)) (reverse-append (e ∷ []) es) ∙ find-append (λ e. test e.1) (reverse es) (e ∷ []))
    ∙ or-some (find (λ e. test e.1) (reverse es)) (test x) e

-- is there among changed ones exactly where there was one
last-changed : {X : Type 0} (change : X → X) (test other : X → Bool) → ((x : X) → other (change x) ≡ test x) → (n : ℕ) (xs : List X)
    → is_some (last_that other n (map change xs)) ≡ is_some (last_that test n xs)
last-changed change test other same n [] = refl
last-changed change test other same n (x ∷ xs) =
    last-more other n (change x) (map change xs)
    ∙ (λ i. last-changed change test other same (n + 1) xs i || same x i)
    ∙ sym (last-more test n x xs)

module _ (fs gs : List FileDescriptorProto) (file other : ℕ) (path : List ℤ) (change : FieldDescriptorProto → FieldDescriptorProto)
    (numbers : (x : FieldDescriptorProto) → (change x).number ≡ x.number) (names : (x : FieldDescriptorProto) → (change x).json_name ≡ x.json_name)
    (earlier : List FieldDescriptorProto) (position : ℕ) (f : FieldDescriptorProto) where
  number-still : number_duplicate fs file path earlier position f ≡ [] → number_duplicate gs other path (map change earlier) position (change f) ≡ []
  number-still none =
      let test : FieldDescriptorProto → Bool = λ g. int_eq (number_of g.number) (number_of f.number) in
      let other : FieldDescriptorProto → Bool = λ g. int_eq (number_of g.number) (number_of (change f).number) in
      lists-nothing (latest other (map change earlier)) _
      (last-changed change test other (λ x i. int_eq (number_of (numbers x i)) (number_of (numbers f i))) 0 earlier ∙ nothing-of (latest test earlier) _ none)

  name-still : (given : Option (List ℕ))
      → option_map_or (λ name. listed (option_map (λ e. fault.DuplicateFieldJsonName name (name_label fs file path e.0) (name_label fs file path position))
      (latest (λ g. option_map_or (bytes_eq name) g.json_name false) earlier))) given [] ≡ []
      → option_map_or (λ name. listed (option_map (λ e. fault.DuplicateFieldJsonName name (name_label gs other path e.0) (name_label gs other path position))
      (latest (λ g. option_map_or (bytes_eq name) g.json_name false) (map change earlier)))) given [] ≡ []
  name-still None none = refl
  name-still (Some name) none =
      let test : FieldDescriptorProto → Bool = λ g. option_map_or (bytes_eq name) g.json_name false in
      lists-nothing (latest test (map change earlier)) _
      (last-changed change test test (λ x i. option_map_or (bytes_eq name) (names x i) false) 0 earlier ∙ nothing-of (latest test earlier) _ none)

  pub again-still : duplicate_faults fs file path earlier position f ≡ [] → duplicate_faults gs other path (map change earlier) position (change f) ≡ []
  again-still none =
      let parts = both-empty (number_duplicate fs file path earlier position f) (json_name_duplicate fs file path earlier position f) none in
      let named : json_name_duplicate gs other path (map change earlier) position (change f) ≡ [] =
      (λ i. option_map_or (λ name. listed (option_map (λ e. fault.DuplicateFieldJsonName name (name_label gs other path e.0) (name_label gs other path position))
      (latest (λ g. option_map_or (bytes_eq name) g.json_name false) (map change earlier)))) (names f i) []) ∙ name-still f.json_name parts.1 in
      λ i. number-still parts.0 i ++ named i
