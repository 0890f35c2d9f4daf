-- The two passes over declarations that broke nothing, and are carried to another setting: they find nothing.
use Rattle.std.proofs.Common.{◌≡◌, ◌<◌, ℕ, List, [], ◌∷◌, ◌++◌, length, map, refl, ap, sym, ◌∙◌}
use Rattle.std.specs.List.{AllByRecursion, flat_map}
use Rattle.std.specs.Option.{option_or}
use Rattle.proto_types.specs.declared.file.FileDescriptorProto.{FileDescriptorProto}
use Rattle.plain_data.specs.Lists.{after_each}
use Rattle.pool_types.specs.Contents.{ByText, Contents}
use Rattle.name_tables.specs.Entries.{first_of}
use Rattle.record_walk.specs.Changed.{Changes, KeepNames, changed}
use Rattle.record_walk.specs.Shown.{Shown}
use Rattle.pool_types.specs.Syntaxes.{syntax_at}
use Rattle.reference_pass.specs.SecondPass.{owner_faults}
use Rattle.reference_pass.specs.Linked.{linking}
use Rattle.reference_pass.specs.Setting.{Setting}
use Rattle.reference_pass.proofs.Owners.{after-append}
use Rattle.pool_laws.proofs.Settings.{ImportsMean, Rereads}
use Rattle.pool_laws.proofs.AsLinked.{linked-carried}
use Rattle.pool_laws.proofs.Carries.{Carries}
use Rattle.pool_laws.proofs.Declarations.{all-mean, declaration-carried}
use Rattle.pool_laws.proofs.FirstPass.{first-again, holder-more}
use Rattle.reference_pass.proofs.Unbroken.{both-empty}
use Rattle.name_pass.specs.Names.{entries, file_entries, file_entries_of}
use Rattle.name_pass.specs.FirstPass.{first_faults, holder}
use Rattle.std.proofs.lemmas.Grind.{flat_map-append}
use Rattle.descriptor_pool.proofs.Declared.{entries-append, entries-changed, file-entries-changed}
use Rattle.pool_laws.proofs.AllOf.{all-of}

-- nothing for two lists, one behind the other: nothing for each
pub after-parts : {X Y : Type 0} (f : List X → X → List Y) (before xs ys : List X) → after_each f before (xs ++ ys) ≡ []
    → (after_each f before xs ≡ []) × (after_each f (before ++ xs) ys ≡ [])
after-parts f before xs ys none = both-empty (after_each f before xs) (after_each f (before ++ xs) ys) (sym (after-append f before xs ys) ∙ none)

-- and the other way
pub after-both : {X Y : Type 0} (f : List X → X → List Y) (before xs ys : List X) → after_each f before xs ≡ [] → after_each f (before ++ xs) ys ≡ []
    → after_each f before (xs ++ ys) ≡ []
after-both f before xs ys first second = after-append f before xs ys ∙ (λ i. first i ++ second i)

-- the second pass
module _ {s t : Setting} {c : Changes} {many : ℕ} (carries : Carries s t c many) where
  pub unbroken-carried : (ds : List Shown) → AllByRecursion (λ d. d.file < many) ds → AllByRecursion (λ d. ImportsMean s t d.proto) ds → flat_map (owner_faults s []) ds ≡ []
      → flat_map (owner_faults t []) (map (changed c) ds) ≡ []
  unbroken-carried [] lie mean none = refl
  unbroken-carried (d ∷ ds) lie mean none =
      let parts = both-empty (owner_faults s [] d) (flat_map (owner_faults s []) ds) none in
      λ i. declaration-carried carries [] d lie.0 mean.0 parts.0 i ++ unbroken-carried ds lie.1 mean.1 parts.1 i

-- linked declarations
pub unbroken-again : (s t : Setting) → Rereads s t → (ds : List Shown) → AllByRecursion (λ d. d.file < length s.files) ds → flat_map (owner_faults s []) ds ≡ []
    → flat_map (owner_faults t []) (map (changed (linking s)) ds) ≡ []
unbroken-again s t again ds lie = unbroken-carried (linked-carried s t again) ds lie (all-of (λ d. all-mean s t again.file_names d.proto) ds)

-- the first pass: declarations whose names stay, behind others, where each name is held as it was
module _ (c : Changes) (keep : KeepNames c) (fs gs : List FileDescriptorProto) (p q : Contents) where
  -- names mean the same behind two lists of declarations
  pub record SameHolders (earlier before : List Shown) : Type 0 where
    pub names : (name : List ℕ) → holder q.names (entries before) name ≡ holder p.names (entries earlier) name
    pub files : (name : List ℕ) → holder q.file_names (file_entries before) name ≡ holder p.file_names (file_entries earlier) name

  -- entries behind entries
  one-more : {X : Type 0} (known other : ByText X) (old now more : List (List ℕ × X)) (name : List ℕ) → holder other now name ≡ holder known old name
      → holder other (now ++ more) name ≡ holder known (old ++ more) name
  one-more known other old now more name same =
      holder-more other now more name ∙ ap (λ found. option_or found (first_of more name)) same ∙ sym (holder-more known old more name)

  next-holders : (earlier before : List Shown) (d : Shown) → SameHolders earlier before → SameHolders (earlier ++ d ∷ []) (before ++ changed c d ∷ [])
  next-holders earlier before d same = record {
    names = λ name.
        ap (λ es. holder q.names es name) (entries-append before (changed c d ∷ []) ∙ ap (λ es. entries before ++ es) (entries-changed c (d ∷ [])))
        ∙ one-more p.names q.names (entries earlier) (entries before) (entries (d ∷ [])) name (same.names name)
        ∙ ap (λ es. holder p.names es name) (sym (entries-append earlier (d ∷ [])));
    files = λ name.
        ap (λ es. holder q.file_names es name) (flat_map-append file_entries_of before (changed c d ∷ []) ∙ ap (λ es. file_entries before ++ es) (file-entries-changed c (d ∷ [])))
        ∙ one-more p.file_names q.file_names (file_entries earlier) (file_entries before) (file_entries (d ∷ [])) name (same.files name)
        ∙ ap (λ es. holder p.file_names es name) (sym (flat_map-append file_entries_of earlier (d ∷ [])));
  }

  pub pass-again : (earlier before ds : List Shown) → SameHolders earlier before → AllByRecursion (λ d. syntax_at gs d.file ≡ syntax_at fs d.file) ds
      → after_each (first_faults fs p) earlier ds ≡ [] → after_each (first_faults gs q) before (map (changed c) ds) ≡ []
  pass-again earlier before [] same syntaxes none = refl
  pass-again earlier before (d ∷ ds) same syntaxes none =
      let parts = both-empty (first_faults fs p earlier d) (after_each (first_faults fs p) (earlier ++ d ∷ []) ds) none in
      let here = first-again c keep fs gs p q earlier before same.names same.files d syntaxes.0 parts.0 in
      let rest = pass-again (earlier ++ d ∷ []) (before ++ changed c d ∷ []) ds (next-holders earlier before d same) syntaxes.1 parts.1 in
      λ i. here i ++ rest i
