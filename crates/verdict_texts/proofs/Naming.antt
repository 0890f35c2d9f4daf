-- Files by their names, and one more.
use Rattle.std.proofs.Common.{◌≡◌, ℕ, ◌+◌, ◌<◌, Bor, map as map-each, take, get_or, Bool, true, false, cond, is_some, List, [], ◌∷◌, ◌++◌, length, Option, None, Some, slice_get, refl, sym, ap, ◌∙◌, append-nil, arith}
use Rattle.std.specs.FinMap as map
use Rattle.std.specs.Cmp.Lexicographic.{slice_cmp}
use Rattle.std.specs.List.{filter, find, position_from}
use Rattle.std.specs.Option.{option_and_then, option_or}
use Rattle.std.specs.Ordering.{nat_cmp}
use Rattle.std.proofs.lemmas.Grind.{flat_map-append}
use Rattle.std.proofs.lemmas.List.{length-map, length-take-le, map-append, take_more}
use Rattle.std.proofs.lemmas.List.Elements.{filter-append}
use Rattle.std.proofs.lemmas.Slice.Eq.{bytes_eq-Decides}
use Rattle.plain_data.proofs.Positions.{find-position, position-append}
use Rattle.pool_types.specs.Contents.{ByText}
use Rattle.proto_types.specs.Readers.{text_of}
use Rattle.proto_types.specs.declared.file.FileDescriptorProto.{FileDescriptorProto}
use Rattle.record_walk.specs.Counts.{no_counts}
use Rattle.record_walk.specs.Declarations.{declarations}
use Rattle.verdict_texts.specs.Known.{declares, declaring_file, file_named, has_name, only, only_one, type_names}
use Rattle.verdict_texts.specs.Named.{AreDeclared, AreDeclaring, AreFirst, AreNamed, AreSeveral, Enters, are_several}
use Rattle.verdict_texts.specs.declared.known.DeclaredTypes.{DeclaredTypes}
use Rattle.verdict_texts.specs.declared.known.NamedFiles.{NamedFiles}
use Rattle.verdict_texts.proofs.Entering.{held-means, new-means, no-some, or-false}

module _ {X : Type 0} (p : X → Bool) where
  -- a position in a list with one entry more
  position-last : (xs : List X) (x : X) → position_from p 0 (xs ++ x ∷ []) ≡ option_or (position_from p 0 xs) (cond (p x) (Some (length xs)) None)
  position-last xs x = let there : 0 + length xs ≡ length xs = omega arith in
      position-append p 0 xs (x ∷ []) ∙ ap (λ n. option_or (position_from p 0 xs) (cond (p x) (Some n) None)) there

  -- the first of the entries that pass
  abbrev first_of : List X → Option X
  first_of [] = None
  first_of (x ∷ xs) = Some x

  find-filter : (xs : List X) → find p xs ≡ first_of (filter p xs)
  find-filter [] = refl
  find-filter (x ∷ xs) =
      elim (p x) as (λ b. cond b (Some x) (find p xs) ≡ first_of (cond b (x ∷ filter p xs) (filter p xs))) [ true ↦ refl | false ↦ find-filter xs ]

  only-first : (ms : List X) → only_one ms ≡ cond (are_several ms) None (first_of ms)
  only-first [] = refl
  only-first (x ∷ []) = refl
  only-first (x ∷ y ∷ ys) = refl

  -- where one has a position, one passes, and where none has, none does
  some-pass : (i n : ℕ) (xs : List X) → position_from p i xs ≡ Some n → (filter p xs ≡ [] → ⊥)
  some-pass i n [] is = λ _. no-some n is
  some-pass i n (x ∷ xs) is =
      (elim (p x) as (λ b. cond b (Some i) (position_from p (i + 1) xs) ≡ Some n → (cond b (x ∷ filter p xs) (filter p xs) ≡ [] → ⊥))
      [ true ↦ λ _ none. cc | false ↦ some-pass (i + 1) n xs ]) is

  none-pass : (i : ℕ) (xs : List X) → position_from p i xs ≡ None → filter p xs ≡ []
  none-pass i [] is = refl
  none-pass i (x ∷ xs) is =
      (elim (p x) as (λ b. cond b (Some i) (position_from p (i + 1) xs) ≡ None → cond b (x ∷ filter p xs) (filter p xs) ≡ [])
      [ true ↦ λ none. no-some i (sym none) | false ↦ none-pass (i + 1) xs ]) is

  still-some : (held : Option ℕ) → is_some (option_or held None) ≡ is_some held
  still-some None = refl
  still-some (Some n) = refl

  now-some : (held : Option ℕ) (n : ℕ) → is_some (option_or held (Some n)) ≡ true
  now-some None n = refl
  now-some (Some m) n = refl

  -- an entry more, where one passes already
  several-next : (held : Option ℕ) (n : ℕ) (x : X) (b : Bool) (ms : List X) → is_some held ≡ are_several ms → (b ≡ true → (ms ≡ [] → ⊥))
      → is_some (option_or held (cond b (Some n) None)) ≡ are_several (ms ++ cond b (x ∷ []) [])
  several-next held n x false ms is some = still-some held ∙ is ∙ ap are_several (sym (append-nil ms))
  several-next held n x true [] is some = absurd (some refl refl)
  several-next held n x true (y ∷ []) is some = now-some held n
  several-next held n x true (y ∷ z ∷ ms) is some = now-some held n

  -- an entry more, where none passes
  alone-next : (held : Option ℕ) (x : X) (b : Bool) (ms : List X) → is_some held ≡ are_several ms → (b ≡ true → ms ≡ []) → is_some held ≡ are_several (ms ++ cond b (x ∷ []) [])
  alone-next held x false ms is none = is ∙ ap are_several (sym (append-nil ms))
  alone-next held x true ms is none = is ∙ ap are_several (none refl) ∙ sym (ap (λ ys. are_several (ys ++ x ∷ [])) (none refl))

  filter-last : (xs : List X) (x : X) → filter p (xs ++ x ∷ []) ≡ filter p xs ++ cond (p x) (x ∷ []) []
  filter-last xs x = filter-append p xs (x ∷ [])

-- the first file of a name, by the names
pub first-is : (first : ByText ℕ) (files : List FileDescriptorProto) (name : List ℕ) → AreFirst first files
    → file_named files name ≡ option_and_then (slice_get files) (map.get first name)
first-is first files name are = find-position (has_name name) files ∙ ap (option_and_then (slice_get files)) (sym (are name))

-- the only file of a name, by the names
pub only-is : (named : NamedFiles) (files : List FileDescriptorProto) (name : List ℕ) → AreNamed named files
    → only files name ≡ cond (is_some (map.get named.several name)) None (option_and_then (slice_get files) (map.get named.first name))
only-is named files name are =
    only-first (has_name name) (filter (has_name name) files)
    ∙ ap (λ b. cond b None (first_of (has_name name) (filter (has_name name) files))) (sym (are.several name))
    ∙ ap (cond (is_some (map.get named.several name)) None) (sym (find-filter (has_name name) files) ∙ first-is named.first files name are.first)

-- the first file that declares a name, by the names
pub declaring-is : (names : ByText ℕ) (files : List FileDescriptorProto) (name : List ℕ) → AreDeclaring names files
    → declaring_file files name ≡ option_and_then (slice_get files) (map.get names name)
declaring-is names files name are = find-position (declares name) files ∙ ap (option_and_then (slice_get files)) (sym (are name))

-- a file more, of a name that one has
pub first-stays : (first : ByText ℕ) (files : List FileDescriptorProto) (f : FileDescriptorProto) (at : ℕ) → AreFirst first files → map.get first (text_of f.name) ≡ Some at
    → AreFirst first (files ++ f ∷ [])
first-stays first files f at are found name =
    held-means first (text_of f.name) (length files) at name found
    ∙ ap (λ held. option_or held (cond (has_name name f) (Some (length files)) None)) (are name)
    ∙ sym (position-last (has_name name) files f)

-- a file more, of a name that none has
pub first-next : (first : ByText ℕ) (files : List FileDescriptorProto) (f : FileDescriptorProto) → AreFirst first files → map.get first (text_of f.name) ≡ None
    → AreFirst (map.insert first (text_of f.name) (length files)) (files ++ f ∷ [])
first-next first files f are found name =
    new-means first (text_of f.name) (length files) name found
    ∙ ap (λ held. option_or held (cond (has_name name f) (Some (length files)) None)) (are name)
    ∙ sym (position-last (has_name name) files f)

is-held : (first : ByText ℕ) (own name : List ℕ) (f : FileDescriptorProto) (r : Option ℕ) → own ≡ text_of f.name → map.get first own ≡ r → has_name name f ≡ true → map.get first name ≡ r
is-held first own name f r is found same = sym (ap (map.get first) (is ∙ (bytes_eq-Decides (text_of f.name) name).0 same)) ∙ found

-- the names that several files have, and a file more of a name that one has
pub several-next-file : (first several new : ByText ℕ) (files : List FileDescriptorProto) (f : FileDescriptorProto) (k n : ℕ) → AreFirst first files → AreSeveral several files
    → map.get first (text_of f.name) ≡ Some k → Enters several new n (text_of f.name ∷ []) → AreSeveral new (files ++ f ∷ [])
several-next-file first several new files f k n are held found enters name =
    let p = has_name name in
    let some : p f ≡ true → (filter p files ≡ [] → ⊥) = λ same. some-pass p 0 k files (sym (are name) ∙ is-held first (text_of f.name) name f (Some k) refl found same) in
    ap is_some (enters name ∙ ap (λ b. option_or (map.get several name) (cond b (Some n) None)) (sym (or-false (p f))))
    ∙ several-next p (map.get several name) n f (p f) (filter p files) (held name) some
    ∙ ap are_several (sym (filter-last p files f))

-- and one more of a name that none has
pub alone-next-file : (first several : ByText ℕ) (files : List FileDescriptorProto) (f : FileDescriptorProto) → AreFirst first files → AreSeveral several files
    → map.get first (text_of f.name) ≡ None → AreSeveral several (files ++ f ∷ [])
alone-next-file first several files f are held found name =
    let p = has_name name in
    let none : p f ≡ true → filter p files ≡ [] = λ same. none-pass p 0 files (sym (are name) ∙ is-held first (text_of f.name) name f None refl found same) in
    alone-next p (map.get several name) f (p f) (filter p files) (held name) none
    ∙ ap are_several (sym (filter-last p files f))

-- the first files that declare names, and a file more
pub declaring-next : (names new : ByText ℕ) (files : List FileDescriptorProto) (f : FileDescriptorProto) → AreDeclaring names files → Enters names new (length files) (type_names (declarations no_counts (f ∷ [])))
    → AreDeclaring new (files ++ f ∷ [])
declaring-next names new files f are enters name =
    enters name
    ∙ ap (λ held. option_or held (cond (declares name f) (Some (length files)) None)) (are name)
    ∙ sym (position-last (declares name) files f)

-- the names of messages and enums that files declare, and those of a file more
pub declared-next : (types new : DeclaredTypes) (files : List FileDescriptorProto) (f : FileDescriptorProto) → AreDeclared types files
    → Enters types.first new.first (length files) (type_names (declarations no_counts (f ∷ [])))
    → new.names ≡ types.names ++ type_names (declarations no_counts (f ∷ [])) → AreDeclared new (files ++ f ∷ [])
declared-next types new files f are enters adds = record {
  first = declaring-next types.first new.first files f are.first enters;
  names = adds ∙ (λ i. are.names i ++ sym (append-nil (type_names (declarations no_counts (f ∷ [])))) i)
      ∙ sym (flat_map-append (λ g. type_names (declarations no_counts (g ∷ []))) files (f ∷ []));
}

-- tables of no names
pub no-file : (first several : ByText ℕ) → first ≡ map.empty → several ≡ map.empty → AreNamed (record { first = first; several = several }) []
no-file first several is other = record {
  first = λ name. ap (λ m. map.get m name) is ∙ map.get-empty (slice_cmp nat_cmp) name;
  several = λ name. ap is_some (ap (λ m. map.get m name) other ∙ map.get-empty (slice_cmp nat_cmp) name);
}

-- files by their names, and one more, whose name one has
pub named-again : (named : NamedFiles) (new : ByText ℕ) (files : List FileDescriptorProto) (f : FileDescriptorProto) (n : ℕ) → AreNamed named files
    → is_some (map.get named.first (text_of f.name)) ≡ true → Enters named.several new n (text_of f.name ∷ [])
    → AreNamed (record { first = named.first; several = new }) (files ++ f ∷ [])
named-again named new files f n are some enters = go (map.get named.first (text_of f.name)) refl some
  where
    go : (r : Option ℕ) → map.get named.first (text_of f.name) ≡ r → is_some r ≡ true → AreNamed (record { first = named.first; several = new }) (files ++ f ∷ [])
    go None is none = absurd (cc)
    go (Some k) is held = record {
      first = first-stays named.first files f k are.first is;
      several = several-next-file named.first named.several new files f k n are.first are.several is enters;
    }

-- or none has
pub named-new : (named : NamedFiles) (files : List FileDescriptorProto) (f : FileDescriptorProto) → AreNamed named files → map.get named.first (text_of f.name) ≡ None
    → AreNamed (record { first = map.insert named.first (text_of f.name) (length files); several = named.several }) (files ++ f ∷ [])
named-new named files f are none = record {
  first = first-next named.first files f are.first none;
  several = alone-next-file named.first named.several files f are.first are.several none;
}

-- the records of a list up to a position, and the one there
pub records-next : (xs : List (Bor FileDescriptorProto)) (i : ℕ) (x : Bor FileDescriptorProto) → i < length xs → x ≡ get_or xs i x
    → map-each (λ (f : Bor FileDescriptorProto). f.now) (take (i + 1) xs) ≡ map-each (λ (f : Bor FileDescriptorProto). f.now) (take i xs) ++ x.now ∷ []
records-next xs i x below is =
    ap (map-each (λ (f : Bor FileDescriptorProto). f.now)) (take_more xs i x below ∙ ap (λ y. take i xs ++ y ∷ []) (sym is)) ∙ map-append (λ (f : Bor FileDescriptorProto). f.now) (take i xs) (x ∷ [])

pub records-length : (xs : List (Bor FileDescriptorProto)) (i : ℕ) → i < length xs → i ≡ length (map-each (λ (f : Bor FileDescriptorProto). f.now) (take i xs))
records-length xs i below = sym (length-map (take i xs) (λ (f : Bor FileDescriptorProto). f.now) ∙ length-take-le i xs (omega arith))
