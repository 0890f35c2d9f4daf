-- Files that are given the files that they see, one after another.
use Rattle.std.proofs.Common.{◌≡◌, ◌≤◌, ◌<◌, ◌+◌, ◌==◌, ℕ, true, false, ◌&&◌, nat_le, nat_lt, List, length, map, if◌then◌else◌, refl, ap, sym, ◌∙◌, arith}
use Rattle.std.proofs.lemmas.Bool.Decides.{nat_tests}
use Rattle.std.specs.FinMap as finite
use Rattle.std.specs.List.{filter_map}
use Rattle.name_resolution.specs.Visibility.{seen_from}
use Rattle.pool_types.specs.Contents.{Contents, files_of}
use Rattle.pool_types.specs.declared.contents.file.FileDescriptorInner.{FileDescriptorInner}
use Rattle.plain_data.specs.Each.{map_enumerated}
use Rattle.pool_contents.specs.declared.growing.GrowingPool.{GrowingPool}
use Rattle.pool_contents.specs.Growing.{file_seeing, files_seeing, first_new, seeing}
use Rattle.pool_contents.specs.Inner.{contents_in}
use Rattle.pool_contents.proofs.Each.{changed-elsewhere, changed-here, each-all, each-map, each-same, each-still, each-twice, length-each, one}

-- a file of those that came, up to one, with the files that it sees
abbrev up_to : GrowingPool → ℕ → ℕ → FileDescriptorInner → FileDescriptorInner
up_to p end n f = if nat_le (first_new p) n && nat_lt n end then seeing p n f else f

-- all files, of which those up to one that came have the files that they see
abbrev pub seeing_up_to : GrowingPool → ℕ → List FileDescriptorInner
seeing_up_to p end = map_enumerated (up_to p end) 0 p.inner.files.items

module _ (p : GrowingPool) where
  not-yet : (end n : ℕ) (f : FileDescriptorInner) → end ≤ n → up_to p end n f ≡ f
  not-yet end n f later =
      let below : nat_lt n end ≡ false = grind (arith, nat_tests) in
      elim (nat_le (first_new p) n) as (λ b. (if b && nat_lt n end then seeing p n f else f) ≡ f) [ true ↦ rw below refl | false ↦ refl ]

  by-now : (end n : ℕ) (f : FileDescriptorInner) → first_new p ≤ n → n < end → up_to p end n f ≡ seeing p n f
  by-now end n f came before =
      let from : nat_le (first_new p) n ≡ true = grind (arith, nat_tests) in
      let below : nat_lt n end ≡ true = grind (arith, nat_tests) in
      rw from (rw below refl)

  earlier : (end n : ℕ) (f : FileDescriptorInner) → n < first_new p → up_to p end n f ≡ f
  earlier end n f before = let from : nat_le (first_new p) n ≡ false = grind (arith, nat_tests) in rw from refl

  -- none by now, and all at the end
  pub seeing-none : seeing_up_to p (first_new p) ≡ p.inner.files.items
  seeing-none = each-still (up_to p (first_new p)) 0 p.inner.files.items none
    where
      none : (n : ℕ) (f : FileDescriptorInner) → 0 ≤ n → n < 0 + length p.inner.files.items → up_to p (first_new p) n f ≡ f
      none n f from to =
          elim (nat_lt n (first_new p)) as (λ b. nat_lt n (first_new p) ≡ b → up_to p (first_new p) n f ≡ f) [
            | true ↦ λ e. earlier (first_new p) n f (grind (arith, nat_tests))
            | false ↦ λ e. not-yet (first_new p) n f (grind (arith, nat_tests))
          ] refl

  pub seeing-all : (end : ℕ) → length p.inner.files.items ≤ end → seeing_up_to p end ≡ files_seeing p
  seeing-all end whole = each-same (up_to p end) (λ n f. if nat_le (first_new p) n then seeing p n f else f) 0 p.inner.files.items all
    where
      all : (n : ℕ) (f : FileDescriptorInner) → 0 ≤ n → n < 0 + length p.inner.files.items → up_to p end n f ≡ (if nat_le (first_new p) n then seeing p n f else f)
      all n f from to =
          let below : nat_lt n end ≡ true = grind (arith, nat_tests) in
          elim (nat_le (first_new p) n) as (λ b. (if b && nat_lt n end then seeing p n f else f) ≡ (if b then seeing p n f else f))
          [ true ↦ rw below refl | false ↦ refl ]

  -- the files are the same records, and as many
  pub length-seeing : (end : ℕ) → length (seeing_up_to p end) ≡ length p.inner.files.items
  length-seeing end = length-each (up_to p end) 0 p.inner.files.items

  raw-stays : (end n : ℕ) (f : FileDescriptorInner) → (up_to p end n f).raw ≡ f.raw
  raw-stays end n f = elim (nat_le (first_new p) n && nat_lt n end) as (λ b. (if b then seeing p n f else f).raw ≡ f.raw) [ true ↦ refl | false ↦ refl ]

  pub raws-seeing : (end : ℕ) → map (λ f. f.raw) (seeing_up_to p end) ≡ map (λ f. f.raw) p.inner.files.items
  raws-seeing end =
      each-map (λ f. f.raw) (up_to p end) 0 p.inner.files.items
      ∙ each-same (λ n f. (up_to p end n f).raw) (λ _ f. f.raw) 0 p.inner.files.items (λ n f _ _. raw-stays end n f)
      ∙ each-all (λ f. f.raw) 0 p.inner.files.items

  -- one more file sees
  pub seeing-next : (q : GrowingPool) (k : ℕ) → first_new p ≤ k → contents_in q.inner ≡ record (contents_in p.inner) { files = seeing_up_to p k }
      → file_seeing q k ≡ seeing_up_to p (k + 1)
  seeing-next q k came is =
      let raws : files_of (contents_in q.inner) ≡ files_of (contents_in p.inner) = ap files_of is ∙ raws-seeing k in
      let sees : (f : FileDescriptorInner) → seeing q k f ≡ seeing p k f = λ f i. record f {
        dependencies = filter_map (finite.get (is i).file_names) f.raw.dependency;
        transitive_dependencies = record { keys = seen_from (raws i) (finite.get (is i).file_names) k };
      } in
      let fs = p.inner.files.items in
      let change : ℕ → FileDescriptorInner → FileDescriptorInner = one (seeing q k) k in
      ap (map_enumerated change 0) (ap (λ (c : Contents). c.files) is)
      ∙ each-twice change (up_to p k) 0 fs
      ∙ each-same (λ n f. change n (up_to p k n f)) (up_to p (k + 1)) 0 fs (λ n f from to. next n f sees)
    where
      next : (n : ℕ) (f : FileDescriptorInner) → ((f : FileDescriptorInner) → seeing q k f ≡ seeing p k f) → one (seeing q k) k n (up_to p k n f) ≡ up_to p (k + 1) n f
      next n f sees =
          elim (n == k) as (λ b. (n == k) ≡ b → one (seeing q k) k n (up_to p k n f) ≡ up_to p (k + 1) n f) [
            | true ↦ λ e. let here : n ≡ k = grind (arith, nat_tests) in
                changed-here (seeing q k) k n (up_to p k n f) here
                ∙ sees (up_to p k n f) ∙ ap (seeing p k) (not-yet k n f (omega (arith, here)))
                ∙ ap (λ m. seeing p m f) (sym here)
                ∙ sym (by-now (k + 1) n f (omega (arith, here, came)) (omega (arith, here)))
            | false ↦ λ e.
                let other : nat_lt n k ≡ nat_lt n (k + 1) = grind (arith, nat_tests) in
                changed-elsewhere (seeing q k) k n (up_to p k n f) (λ same. grind (arith, nat_tests))
                ∙ ap (λ b. if nat_le (first_new p) n && b then seeing p n f else f) other
          ] refl

  pub raws-stay : map (λ f. f.raw) (files_seeing p) ≡ map (λ f. f.raw) p.inner.files.items
  raws-stay =
      let all = seeing-all (length p.inner.files.items) (omega arith) in
      ap (map (λ f. f.raw)) (sym all) ∙ raws-seeing (length p.inner.files.items)
