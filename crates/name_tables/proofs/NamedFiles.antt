-- The files of names, as children of a root.
use Rattle.std.proofs.Common.{◌≡◌, ◌<◌, ◌≤◌, ◌↔◌, ℕ, zero, suc, List, [], ◌∷◌, length, take, Option, Some, None, refl, sym, ap, ◌∙◌, subst, inl, inr, arith}
use Rattle.std.specs.FinMap as map
use Rattle.std.specs.List.{slice_get}
use Rattle.std.specs.Option.{option_map_or}
use Rattle.std.proofs.lemmas.List.{length-take-le}
use Rattle.std.proofs.lemmas.Option.{none-some}
use Rattle.name_tables.specs.Tree.{Branch, branch, InsertsChild, IsChild, KeepsBranches, with_root}
use Rattle.name_tables.proofs.Lists.{got-pushed, some_at}
use Rattle.name_tables.proofs.TreeChanges.{child-kept, child-pushed, get-kept, keeps-first, keeps-inserted, keeps-with_root, length-kept}
use Rattle.name_tables.specs.Entered.{Enters, found_before, value_at}
use Rattle.name_tables.specs.FileNames.{AreFileNames, files_of, IsAmong, part_at}
use Rattle.name_tables.specs.NameTables.{file_names_before}
use Rattle.name_tables.specs.NumberedNames.{IsNaming}
use Rattle.name_tables.proofs.Values.{value-inside}
use Rattle.name_tables.proofs.Names.{same_names}
use Rattle.name_tables.proofs.NumberedNames.{get-from, get-none, get-number, get-only, names-alike, names-among, names-entered, names-removed, same-found}

-- the part of a branch
part-got : (bs : List Branch) (k : ℕ) (b : Branch) → slice_get bs k ≡ Some b → part_at bs k ≡ b.part
part-got bs k b is = ap (λ found. option_map_or (λ b. b.part) found []) is

module _ (bs : List Branch) (fs : List (Option ℕ)) (are : AreFileNames bs fs) where
  -- a branch with a file is a child of the root
  child-file : (k f : ℕ) → value_at fs k ≡ Some f → IsChild bs 0 (part_at bs k) k
  child-file zero f has = absurd (none-some f (sym are.root ∙ has))
  child-file (suc k) f has =
      let there = some_at bs (suc k) (omega (arith, value-inside fs (suc k) f has, are.inside)) in
      (omega arith, there.0, there.1, are.child k there.0 there.1, sym (part-got bs (suc k) there.0 there.1))

  -- no two of them have the same part
  pub naming-files : IsNaming (part_at bs) fs
  naming-files j k f g has also same =
      are.single (part_at bs j) j k (child-file j f has) (subst (λ name. IsChild bs 0 name k) (sym same) (child-file k g also))

  -- a name has the file of the child with it
  pub get-file : (name : List ℕ) (k : ℕ) → IsChild bs 0 name k → map.get (files_of bs fs) name ≡ value_at fs k
  get-file name k below =
      get-only (part_at bs) fs name k (sym (part-got bs k below.1 below.2 ∙ below.4))
      (λ j f has named. are.single name j k (subst (λ part. IsChild bs 0 part j) (sym named) (child-file j f has)) below)

  -- or none where no child has it
  pub get-childless : (name : List ℕ) → ((k : ℕ) → IsChild bs 0 name k → ⊥) → map.get (files_of bs fs) name ≡ None
  get-childless name none = get-none (part_at bs) fs name (λ k f has named. none k (subst (λ part. IsChild bs 0 part k) (sym named) (child-file k f has)))

module _ (bs : List Branch) (fs : List (Option ℕ)) (are : AreFileNames bs fs) where
  module _ (new : List Branch) (keeps : KeepsBranches bs new) where
    -- the parts are what they were
    part-kept : (k f : ℕ) → value_at fs k ≡ Some f → part_at new k ≡ part_at bs k
    part-kept k f has =
        let below = child-file bs fs are k f has in
        part-got new k below.1 (get-kept bs new keeps k below.1 below.2) ∙ sym (part-got bs k below.1 below.2)

    -- so are the files of names
    pub files-kept : AreFileNames new fs → files_of new fs ≡ files_of bs fs
    files-kept after = names-among (part_at new) fs (part_at bs) fs (naming-files new fs after) (naming-files bs fs are)
        (λ k f has. (k, has, part-kept k f has)) (λ k f has. (k, has, sym (part-kept k f has)))

  -- one more child of the root
  pub file_names-inserted : (new : List Branch) (part : List ℕ) (k : ℕ) → InsertsChild bs new 0 part k → AreFileNames new fs
  file_names-inserted new part k inserts = elim inserts.1 [
    | inl is ↦ subst (λ bs. AreFileNames bs fs) (sym is) are
    | inr more ↦ record {
      child = λ j b is. elim (got-pushed bs (branch 0 part) (suc j) b (ap (λ bs. slice_get bs (suc j)) (sym more.0) ∙ is)) [
        | inl was ↦ are.child j b was
        | inr last ↦ ap (λ b. b.parent) (sym last.1)
      ];
      single = λ name j i here there. elim (child-pushed bs (branch 0 part) 0 name j (subst (λ bs. IsChild bs 0 name j) more.0 here)) [
        | inl was ↦ elim (child-pushed bs (branch 0 part) 0 name i (subst (λ bs. IsChild bs 0 name i) more.0 there)) [
          | inl also ↦ are.single name j i was also
          | inr last ↦ absurd (more.1 j (subst (λ name. IsChild bs 0 name j) (sym last.2) was))
        ]
        | inr last ↦ elim (child-pushed bs (branch 0 part) 0 name i (subst (λ bs. IsChild bs 0 name i) more.0 there)) [
          | inl also ↦ absurd (more.1 i (subst (λ name. IsChild bs 0 name i) (sym last.2) also))
          | inr too ↦ last.0 ∙ sym too.0
        ]
      ];
      root = are.root;
      inside = omega (arith, are.inside, length-kept bs new (keeps-inserted bs new 0 part k inserts));
    }
  ]

  -- a child of the root has a file
  pub file_names-entered : (new : List (Option ℕ)) (at f : ℕ) → Enters fs new at f → 0 < at → length new ≤ length bs → AreFileNames bs new
  file_names-entered new at f enters above inside = record {
    child = are.child;
    single = are.single;
    root = enters.others 0 (λ same. omega arith) ∙ are.root;
    inside = inside;
  }

  -- its part has that
  pub files-entered : (new : List (Option ℕ)) (name : List ℕ) (at f : ℕ) → Enters fs new at f → AreFileNames bs new → IsChild bs 0 name at → value_at fs at ≡ None → files_of bs new ≡ map.insert (files_of bs fs) name f
  files-entered new name at f enters after below none =
      names-entered (part_at bs) fs new at f enters (naming-files bs fs are) (naming-files bs new after) none name (sym (part-got bs at below.1 below.2 ∙ below.4))

  -- the same names with the same files by number
  pub file_names-same : (new : List (Option ℕ)) → ((k : ℕ) → value_at new k ≡ value_at fs k) → length new ≤ length bs → AreFileNames bs new
  file_names-same new same inside = record { child = are.child; single = are.single; root = same 0 ∙ are.root; inside = inside }

  -- the names have these
  pub files-alike : (new : List (Option ℕ)) → ((k : ℕ) → value_at new k ≡ value_at fs k) → files_of bs new ≡ files_of bs fs
  files-alike new same = names-alike (part_at bs) fs new same (naming-files bs fs are)

  module _ (new : List (Option ℕ)) (n : ℕ) (left : (k : ℕ) → value_at new k ≡ found_before (λ file. file) n (value_at fs k)) (fewer : length new ≤ length fs) where
    -- some have no file any more
    pub file_names-removed : AreFileNames bs new
    file_names-removed = record {
      child = are.child;
      single = are.single;
      root = left 0 ∙ ap (found_before (λ file. file) n) are.root;
      inside = omega (arith, fewer, are.inside);
    }

    -- the names are those of the earlier files
    pub files-left : files_of bs new ≡ file_names_before n (files_of bs fs)
    files-left = names-removed (part_at bs) fs new (λ file. file) n left (naming-files bs fs are)

-- no names are names of files
pub file_names-none : AreFileNames [] []
file_names-none = record {
  child = λ k b is. absurd (none-some b is);
  single = λ name k j here there. absurd (none-some here.1 here.2);
  root = refl;
  inside = omega arith;
}

-- a root where there was none
pub file_names-with_root : (bs : List Branch) (fs : List (Option ℕ)) → AreFileNames bs fs → AreFileNames (with_root bs) fs
file_names-with_root [] fs are = record {
  child = λ k b is. absurd (none-some b is);
  single = λ name k j here there. absurd (lone k here);
  root = are.root;
  inside = (let none : length fs ≤ 0 = are.inside in omega arith);
}
  where
    lone : {name : List ℕ} (k : ℕ) → IsChild (branch 0 [] ∷ []) 0 name k → ⊥
    lone zero below = omega (arith, below.0)
    lone (suc k) below = none-some below.1 below.2
file_names-with_root (b ∷ bs) fs are = are

-- the files of names are what they were
pub files-with_root : (bs : List Branch) (fs : List (Option ℕ)) → AreFileNames bs fs → files_of (with_root bs) fs ≡ files_of bs fs
files-with_root bs fs are = files-kept bs fs are (with_root bs) (keeps-with_root bs) (file_names-with_root bs fs are)

-- the branches from a number on are gone, where none of them has a file
module _ (bs : List Branch) (fs : List (Option ℕ)) (n : ℕ) (are : AreFileNames bs fs) (is : n ≡ length fs) where
  pub file_names-first : AreFileNames (take n bs) fs
  file_names-first = record {
    child = λ k b has. are.child k b (get-kept (take n bs) bs (keeps-first bs n) (suc k) b has);
    single = λ name k j here there. are.single name k j (child-kept (take n bs) bs (keeps-first bs n) 0 name k here) (child-kept (take n bs) bs (keeps-first bs n) 0 name j there);
    root = are.root;
    inside = omega (arith, is, length-take-le n bs (omega (arith, is, are.inside)));
  }

  -- the files of names are what they were
  pub files-first : files_of (take n bs) fs ≡ files_of bs fs
  files-first = sym (files-kept (take n bs) fs file_names-first bs (keeps-first bs n) are)

module _ (bs : List Branch) (fs : List (Option ℕ)) (are : AreFileNames bs fs) (cs : List Branch) (gs : List (Option ℕ)) (also : AreFileNames cs gs) where
  -- each name has its file among others, where its part does
  get-among : IsAmong bs fs (files_of cs gs) → (name : List ℕ) (f : ℕ) → map.get (files_of bs fs) name ≡ Some f → map.get (files_of cs gs) name ≡ Some f
  get-among among name f got =
      let from = get-from (part_at bs) fs name f got in
      ap (map.get (files_of cs gs)) from.2 ∙ among from.0 f from.1

-- two have the same names with the same files just where each has those of the other
pub files-same : (bs : List Branch) (fs : List (Option ℕ)) → AreFileNames bs fs → (cs : List Branch) (gs : List (Option ℕ)) → AreFileNames cs gs
    → (files_of bs fs ≡ files_of cs gs) ↔ (IsAmong bs fs (files_of cs gs) × IsAmong cs gs (files_of bs fs))
files-same bs fs are cs gs also = (
  λ same. (
    λ k f has. ap (λ names. map.get names (part_at bs k)) (sym same) ∙ get-number (part_at bs) fs (naming-files bs fs are) (part_at bs k) k f has refl,
    λ k f has. ap (λ names. map.get names (part_at cs k)) same ∙ get-number (part_at cs) gs (naming-files cs gs also) (part_at cs k) k f has refl,
  ),
  λ both. same_names (files_of bs fs) (files_of cs gs) (λ name.
      same-found (map.get (files_of bs fs) name) (map.get (files_of cs gs) name) (get-among bs fs are cs gs also both.0 name) (get-among cs gs also bs fs are both.1 name)),
)
