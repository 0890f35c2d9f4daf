-- What files see behind those of a pool: these see what they saw, and new ones what their imports lead to.
use Rattle.std.proofs.Common.{true≢false, ◌≡◌, ◌≤◌, ◌<◌, ◌+◌, inl, inr, ℕ, zero, suc, true, Option, Some, List, [], ◌∷◌, ◌++◌, length, slice_get, unwrap_or, refl, ap, subst, sym, ◌∙◌, arith, None}
use Rattle.std.proofs.lemmas.Bool.{cases_lt}
use Rattle.std.proofs.lemmas.List.{length-map}
use Rattle.std.specs.BTreeSet.{BTreeSet, contains_by}
use Rattle.std.specs.FinMap as finite
use Rattle.std.specs.Option.{IfSome}
use Rattle.std.specs.Ordering.{nat_cmp}
use Rattle.proto_types.specs.declared.file.FileDescriptorProto.{FileDescriptorProto}
use Rattle.pool_types.specs.Contents.{Contents, files_of}
use Rattle.name_tables.specs.NameTables.{FileNamesBefore}
use Rattle.name_resolution.specs.Visibility.{seen_from, sees}
use Rattle.record_walk.specs.Counts.{counts_in}
use Rattle.plain_data.specs.Each.{map_enumerated}
use Rattle.reference_pass.specs.Setting.{seen_by}
use Rattle.pool_laws.proofs.Settings.{NamesFiles}
use Rattle.descriptor_pool.specs.Build.{setting_with}
use Rattle.descriptor_pool.proofs.Files.{names-behind-before}
use Rattle.descriptor_pool.proofs.Sound.{Known}
use Rattle.pool_laws.proofs.Relinks.{long-pool, long-with, names-mean-files, old_seen, seen-at, seen_in, sees-is, slice-front}
use Rattle.pool_laws.proofs.Relinked.{Relinked, seen-kept}
use Rattle.pool_laws.proofs.SeenMoved.{none-apart}

-- the files of a list that one sees are files of the list
pub seen-within : (files : List FileDescriptorProto) (naming : List ℕ → Option ℕ) (a n : ℕ)
    → contains_by (nat_cmp n) (record { keys = seen_from files naming a }) ≡ true → n < length files
seen-within files naming a n is = elim (cases_lt n (length files)) [
  | inl less ↦ less
  | inr more ↦ let none = none-apart (sees files naming a) 0 (length files) n (inr (omega (arith, more))) in absurd (true≢false (sym is ∙ none))
]

-- what stands behind a list
pub slice-rest : {X : Type 0} (xs ys : List X) (n : ℕ) → slice_get (xs ++ ys) (length xs + n) ≡ slice_get ys n
slice-rest [] ys n = let same : 0 + n ≡ n = omega arith in ap (slice_get ys) same
slice-rest (x ∷ xs) ys n = let same : suc (length xs) + n ≡ suc (length xs + n) = omega arith in ap (slice_get (x ∷ (xs ++ ys))) same ∙ slice-rest xs ys n

-- a position that isn't before a length comes so many behind it
pub position-behind : (n k : ℕ) → k ≤ n → (m : ℕ) × (n ≡ k + m)
position-behind n zero le = (n, omega arith)
position-behind zero (suc k) le = absurd (omega (arith, le))
position-behind (suc n) (suc k) le = let less = position-behind n k (omega (arith, le)) in (less.0, (let is = less.1 in omega (arith, is)))

if-some : {X : Type 0} (P : X → Type 0) (found : Option X) → ((x : X) → found ≡ Some x → P x) → IfSome found P
if-some P None holds = tt
if-some P (Some x) holds = holds x refl

-- what files see behind those of a pool
module _ (p : Contents) (new : List FileDescriptorProto) where
  abbrev pub keys : ℕ → BTreeSet ℕ
  keys n = record { keys = seen_from (files_of p ++ new) (finite.get (setting_with p new).file_names) n }

  -- a file of the pool sees what it saw
  pub old-sees : Relinked p → (n : ℕ) → n < length p.files → seen_by (setting_with p new) n ≡ seen_in p n
  old-sees again n below =
      let none : BTreeSet ℕ = record { keys = [] } in
      let old : length (old_seen p) ≡ length p.files = length-map p.files (λ f. f.transitive_dependencies) in
      let pool = long-pool p in
      ap (λ o. unwrap_or o none) (slice-front (old_seen p) (map_enumerated (λ k _. keys k) (length p.files) new) n (omega (arith, below, old)))
      ∙ ap (λ sets. unwrap_or (slice_get sets n) none) (seen-kept p again) ∙ sees-is p n (omega (arith, below, pool))

  -- a new file what its imports lead to
  pub new-sees : (n : ℕ) → length p.files ≤ n → n < length p.files + length new → seen_by (setting_with p new) n ≡ keys n
  new-sees n from below =
      let none : BTreeSet ℕ = record { keys = [] } in
      let old : length (old_seen p) ≡ length p.files = length-map p.files (λ f. f.transitive_dependencies) in
      let position = position-behind n (length (old_seen p)) (omega (arith, from, old)) in
      let place = position.1 in
      let here : length p.files + position.0 ≡ n = omega (arith, place, old) in
      ap (λ k. unwrap_or (slice_get (setting_with p new).seen k) none) place
      ∙ ap (λ o. unwrap_or o none) (slice-rest (old_seen p) (map_enumerated (λ k _. keys k) (length p.files) new) position.0)
      ∙ seen-at keys none (length p.files) new position.0 (omega (arith, below, place, old)) ∙ ap keys here

  -- names of files mean files
  pub mean-with : Known p → NamesFiles (files_of p ++ new) (finite.get (setting_with p new).file_names)
  mean-with known name n is =
      let end = length p.files + length new in
      let pool = long-pool p in
      let many = long-with p new in
      let old : FileNamesBefore (length p.files) p.file_names = λ name.
      if-some (λ file. file < length p.files) (finite.get p.file_names name) (λ file found. let below = names-mean-files p known name file found in omega (arith, below, pool)) in
      let below : n < end = subst (λ o. IfSome o (λ file. file < end)) is (names-behind-before (counts_in p) new p.file_names old name) in
      omega (arith, below, many)
