-- New files whose records are linked where they stand are the items of files.
use Rattle.std.proofs.Common.{◌≡◌, ◌≤◌, ◌+◌, ℕ, suc, List, [], ◌∷◌, ◌++◌, Some, nat_le, true, length, map, drop, if◌then◌else◌, unwrap_or, slice_get, refl, ap, sym, subst, ◌∙◌, append_assoc, arith, add-one}
use Rattle.std.proofs.Math.Seq.{drop-append_seam}
use Rattle.std.proofs.lemmas.Bool.Decides.{nat_tests}
use Rattle.std.proofs.lemmas.List.{length-append}
use Rattle.std.specs.FinMap as finite
use Rattle.std.specs.List.{AllByRecursion, filter_map}
use Rattle.pool_types.specs.declared.contents.file.FileDescriptorInner.{FileDescriptorInner}
use Rattle.proto_types.specs.declared.file.FileDescriptorProto.{FileDescriptorProto}
use Rattle.plain_data.specs.Each.{map_enumerated}
use Rattle.reference_pass.specs.Items.{file_item}
use Rattle.reference_pass.specs.Linked.{linked}
use Rattle.reference_pass.specs.Setting.{Setting, seen_by}
use Rattle.reference_pass.specs.Linking.{linked_item}
use Rattle.pool_contents.specs.declared.growing.GrowingPool.{GrowingPool}
use Rattle.pool_contents.specs.Growing.{files_seeing, first_new, seeing}
use Rattle.pool_contents.specs.Unlinked.{unlinked}
use Rattle.pool_contents.proofs.Each.{each-append, length-each}
use Rattle.descriptor_pool.specs.Items.{HasImports}

-- the entry behind a front
behind-front : {X Y : Type 0} (t : X → Y) (front : List X) (x : X) (rest : List X) → slice_get (map t (front ++ x ∷ rest)) (length front) ≡ Some (t x)
behind-front t [] x rest = refl
behind-front t (y ∷ ys) x rest = behind-front t ys x rest

one-longer : {X : Type 0} (front : List X) (x : X) → length (front ++ x ∷ []) ≡ suc (length front)
one-longer front x = length-append front (x ∷ []) ∙ add-one (length front)

module _ (s : Setting) where
  pub links-are : (front rest : List FileDescriptorInner) → s.seen ≡ map (λ f. f.transitive_dependencies) (front ++ rest) → AllByRecursion (HasImports s) rest
      → map_enumerated (linked_item s) (length front) rest ≡ map_enumerated (file_item s) (length front) (map (λ f. f.raw) rest)
  links-are front [] seen ready = refl
  links-are front (f ∷ rest) seen ready =
      let n = length front in
      let sees : seen_by s n ≡ f.transitive_dependencies =
      ap (λ xs. unwrap_or (slice_get xs n) (record { keys = [] })) seen
      ∙ ap (λ o. unwrap_or o (record { keys = [] })) (behind-front (λ f. f.transitive_dependencies) front f rest) in
      let here : linked_item s n f ≡ file_item s n f.raw = λ i. record {
        syntax = ready.0.syntax i;
        raw = linked s n f.raw;
        dependencies = ready.0.imports i;
        transitive_dependencies = sym sees i;
      } in
      let longer = one-longer front f in
      let later = links-are (front ++ f ∷ []) rest (seen ∙ ap (map (λ f. f.transitive_dependencies)) (sym (append_assoc front (f ∷ []) rest))) ready.1 in
      (λ i. here i ∷ (ap (λ m. map_enumerated (linked_item s) m rest) (sym longer) ∙ later ∙ ap (λ m. map_enumerated (file_item s) m (map (λ f. f.raw) rest)) longer) i)

-- new files that are given the files that they import and see have their syntax and their imports
module _ (s : Setting) (r : GrowingPool) (names : s.file_names ≡ r.inner.file_names) where
  abbrev given : ℕ → FileDescriptorInner → FileDescriptorInner
  given n f = if nat_le (first_new r) n then seeing r n f else f

  each-given : (n : ℕ) (new : List FileDescriptorProto) → first_new r ≤ n → AllByRecursion (HasImports s) (map_enumerated given n (map unlinked new))
  each-given n [] from = tt
  each-given n (f ∷ fs) from =
      let behind : nat_le (first_new r) n ≡ true = grind (arith, nat_tests) in
      let own : HasImports s (seeing r n (unlinked f)) = record { syntax = refl; imports = λ i. filter_map (finite.get (sym names i)) f.dependency } in
      (subst (λ b. HasImports s (if b then seeing r n (unlinked f) else unlinked f)) (sym behind) own, each-given (suc n) fs (omega (arith, from)))

  pub have-imports : (base : ℕ) (old : List FileDescriptorInner) (new : List FileDescriptorProto) → r.inner.files.items ≡ old ++ map unlinked new
      → first_new r ≡ length old → base ≡ length old → AllByRecursion (HasImports s) (drop base (files_seeing r))
  have-imports base old new files first base-is =
      let start : 0 + length old ≡ length old = omega arith in
      let all : drop base (files_seeing r) ≡ map_enumerated given (0 + length old) (map unlinked new) =
      (λ i. drop (base-is i) (map_enumerated given 0 (files i)))
      ∙ ap (drop (length old)) (each-append given 0 old (map unlinked new))
      ∙ ap (λ n. drop n (map_enumerated given 0 old ++ map_enumerated given (0 + length old) (map unlinked new))) (sym (length-each given 0 old))
      ∙ drop-append_seam (map_enumerated given 0 old) (map_enumerated given (0 + length old) (map unlinked new)) in
      subst (AllByRecursion (HasImports s)) (sym all) (each-given (0 + length old) new (omega (arith, first)))
