-- Which files each file sees, once those that came are given theirs.
use Rattle.std.proofs.Common.{◌≡◌, ◌≤◌, ◌<◌, ◌+◌, ℕ, suc, true, false, nat_le, List, [], ◌∷◌, ◌++◌, length, map, drop, if◌then◌else◌, refl, ap, sym, ◌∙◌, arith}
use Rattle.std.proofs.lemmas.Bool.Decides.{nat_tests}
use Rattle.std.proofs.lemmas.List.{append_cancel_left, map-append, take-append-drop}
use Rattle.std.specs.BTreeSet.{BTreeSet}
use Rattle.std.specs.FinMap as finite
use Rattle.name_resolution.specs.Visibility.{seen_from}
use Rattle.pool_types.specs.Contents.{Contents, files_of}
use Rattle.pool_types.specs.declared.contents.file.FileDescriptorInner.{FileDescriptorInner}
use Rattle.proto_types.specs.declared.file.FileDescriptorProto.{FileDescriptorProto}
use Rattle.plain_data.specs.Each.{map_enumerated}
use Rattle.pool_contents.specs.declared.growing.GrowingPool.{GrowingPool}
use Rattle.descriptor_pool.specs.Build.{declared_with, seen_with, with_names}
use Rattle.pool_contents.specs.Growing.{files_seeing, first_new, rolled_back, seeing}
use Rattle.pool_contents.specs.Inner.{contents_in}
use Rattle.pool_contents.proofs.Each.{each-all, each-append, each-map, each-same}

-- a list of which no entry is read
each-length : {X Y Z : Type 0} (g : X → Y) (h : ℕ → Z) (i : ℕ) (xs : List X) → map_enumerated (λ n _. h n) i xs ≡ map_enumerated (λ n _. h n) i (map g xs)
each-length g h i [] = refl
each-length g h i (x ∷ xs) = ap (λ rest. h i ∷ rest) (each-length g h (suc i) xs)

-- which files each file sees, of a pool and of new files behind it, once those that came have theirs
module _ (p : Contents) (new : List FileDescriptorProto) (r : GrowingPool) (kept : (rolled_back r).files ≡ p.files) (files : files_of (contents_in r.inner) ≡ files_of p ++ new)
    (names : r.inner.file_names ≡ (with_names p (declared_with p new)).file_names) where
  abbrev sees : ℕ → BTreeSet ℕ
  sees n = record { keys = seen_from (files_of p ++ new) (finite.get (with_names p (declared_with p new)).file_names) n }

  abbrev seen_of : ℕ → FileDescriptorInner → BTreeSet ℕ
  seen_of n f = (if nat_le (first_new r) n then seeing r n f else f).transitive_dependencies

  many : first_new r ≡ length p.files
  many = ap length kept

  seen-before : map_enumerated seen_of 0 p.files ≡ map (λ f. f.transitive_dependencies) p.files
  seen-before =
      each-same seen_of (λ _ f. f.transitive_dependencies) 0 p.files as_it_was
      ∙ each-all (λ f. f.transitive_dependencies) 0 p.files
    where
      as_it_was : (n : ℕ) (f : FileDescriptorInner) → 0 ≤ n → n < 0 + length p.files → seen_of n f ≡ f.transitive_dependencies
      as_it_was n f from to = let before : nat_le (first_new r) n ≡ false = grind (arith, nat_tests, many) in
          ap (λ b. (if b then seeing r n f else f).transitive_dependencies) before

  seen-later : (came : List FileDescriptorInner) → map (λ f. f.raw) came ≡ new → map_enumerated seen_of (0 + length p.files) came ≡ map_enumerated (λ n _. sees n) (length p.files) new
  seen-later came is =
      each-same seen_of (λ n _. sees n) (0 + length p.files) came anew
      ∙ each-length (λ f. f.raw) sees (0 + length p.files) came ∙ (λ i. map_enumerated (λ n _. sees n) (start i) (is i))
    where
      start : 0 + length p.files ≡ length p.files
      start = omega arith

      anew : (n : ℕ) (f : FileDescriptorInner) → 0 + length p.files ≤ n → n < 0 + length p.files + length came → seen_of n f ≡ sees n
      anew n f from to =
          let behind : nat_le (first_new r) n ≡ true = grind (arith, nat_tests, many) in
          ap (λ b. (if b then seeing r n f else f).transitive_dependencies) behind
          ∙ (λ i. record { keys = seen_from (files i) (finite.get (names i)) n })

  pub seen-are : map (λ f. f.transitive_dependencies) (files_seeing r) ≡ seen_with p new
  seen-are =
      let fs = r.inner.files.items in
      let came = drop r.base.files fs in
      let change : ℕ → FileDescriptorInner → FileDescriptorInner = λ n f. if nat_le (first_new r) n then seeing r n f else f in
      let whole : fs ≡ p.files ++ came = sym (take-append-drop r.base.files fs) ∙ ap (λ xs. xs ++ came) kept in
      let raws : map (λ f. f.raw) came ≡ new =
      append_cancel_left (files_of p) (map (λ f. f.raw) came) new (sym (map-append (λ f. f.raw) p.files came) ∙ ap (map (λ f. f.raw)) (sym whole) ∙ files) in
      ap (λ xs. map (λ f. f.transitive_dependencies) (map_enumerated change 0 xs)) whole
      ∙ each-map (λ f. f.transitive_dependencies) change 0 (p.files ++ came)
      ∙ each-append seen_of 0 p.files came
      ∙ (λ i. seen-before i ++ seen-later came raws i)
