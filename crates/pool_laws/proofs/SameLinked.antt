-- New files under other numbers make a pool that is the same but for numbers.
use Rattle.std.proofs.Common.{◌≡◌, ◌≤◌, ◌<◌, ◌+◌, inl, inr, ℕ, ℤ, zero, suc, Option, None, Some, List, [], ◌∷◌, ◌++◌, length, slice_get, unwrap_or, refl, ap, sym, ◌∙◌, arith}
use Rattle.std.proofs.lemmas.Bool.{cases_lt}
use Rattle.std.specs.FinMap as finite
use Rattle.std.specs.Option.{option_and_then, option_map}
use Rattle.proto_types.specs.File.{no_file, file_at}
use Rattle.proto_types.specs.Readers.{text_of}
use Rattle.proto_types.specs.declared.file.FileDescriptorProto.{FileDescriptorProto}
use Rattle.pool_types.specs.Contents.{Contents, files_of}
use Rattle.pool_types.specs.declared.contents.definition.Definition.{Definition}
use Rattle.record_walk.specs.declared.declaration.DeclarationKind.{DeclarationKind}
use Rattle.record_walk.specs.Changed.{Changes, changed_file, changed_files}
use Rattle.reference_pass.specs.Linked.{linked, linking}
use Rattle.reference_pass.specs.Setting.{Setting}
use Rattle.descriptor_pool.specs.Build.{with_batch, setting_with}
use Rattle.descriptor_pool.specs.Pool.{Made}
use Rattle.descriptor_pool.proofs.Sound.{Known, link-known, made-sound}
use Rattle.pool_laws.specs.Order.{SameButNumbers, kind_alone, record_named, without_numbers}
use Rattle.pool_laws.proofs.Moved.{BothAlike, StandsAlike}
use Rattle.pool_laws.proofs.Relinks.{files-are, long-pool, long-with, slice-front}
use Rattle.pool_laws.proofs.Behind.{mean-with}
use Rattle.pool_laws.proofs.Renamed.{Renames}
use Rattle.pool_laws.proofs.RenamedLinks.{linked-renamed}

-- a kind with the name of a definition's file, and its path
abbrev placed : Contents → Definition → DeclarationKind → DeclarationKind × List ℕ × List ℤ
placed p def kind = (kind, text_of (file_at (files_of p) def.file).name, def.path)

-- changed files by their positions: the first of a list, and those behind others
changed-at : (c : Changes) (i : ℕ) (fs : List FileDescriptorProto) (n : ℕ) → slice_get (changed_files c i fs) n ≡ option_map (changed_file c (i + n)) (slice_get fs n)
changed-at c i [] n = refl
changed-at c i (f ∷ fs) zero = let here : i ≡ i + 0 = omega arith in ap (λ index. Some (changed_file c index f)) here
changed-at c i (f ∷ fs) (suc n) =
    let there : suc i + n ≡ i + suc n = omega arith in changed-at c (suc i) fs n ∙ ap (λ index. option_map (changed_file c index) (slice_get fs n)) there

changed-behind : (c : Changes) (i : ℕ) (before fs : List FileDescriptorProto) (n : ℕ) → length before ≤ n
    → slice_get (before ++ changed_files c (i + length before) fs) n ≡ option_map (changed_file c (i + n)) (slice_get (before ++ fs) n)
changed-behind c i [] fs n from = let start : i + 0 ≡ i = omega arith in ap (λ first. slice_get (changed_files c first fs) n) start ∙ changed-at c i fs n
changed-behind c i (f ∷ before) fs zero from = absurd (omega (arith, from))
changed-behind c i (f ∷ before) fs (suc n) from =
    let start : i + suc (length before) ≡ suc i + length before = omega arith in
    let there : suc i + n ≡ i + suc n = omega arith in
    ap (λ first. slice_get (before ++ changed_files c first fs) n) start ∙ changed-behind c (suc i) before fs n (omega (arith, from))
    ∙ ap (λ index. option_map (changed_file c index) (slice_get (before ++ fs) n)) there

-- the files of a pool with new ones: those that it had, and behind them the new ones linked
module _ (p : Contents) (before : Known p) (new : List FileDescriptorProto) where
  abbrev after : Known (with_batch p new)
  after = link-known p new before

  abbrev against : Setting
  against = setting_with p new

  old-at : (n : ℕ) → n < length p.files → slice_get (files_of (with_batch p new)) n ≡ slice_get (files_of p) n
  old-at n below =
      let long = long-pool p in
      ap (λ gs. slice_get gs n) (files-are p new before after) ∙ slice-front (files_of p) (changed_files (linking against) (length p.files) new) n (omega (arith, below, long))

  new-at : (n : ℕ) → length p.files ≤ n → slice_get (files_of (with_batch p new)) n ≡ option_map (linked against n) (slice_get against.files n)
  new-at n from =
      let long = long-pool p in
      let start : length p.files ≡ 0 + length (files_of p) = omega (arith, long) in
      let here : 0 + n ≡ n = omega arith in
      ap (λ gs. slice_get gs n) (files-are p new before after)
      ∙ ap (λ first. slice_get (files_of p ++ changed_files (linking against) first new) n) start
      ∙ changed-behind (linking against) 0 (files_of p) new n (omega (arith, from, long))
      ∙ ap (λ index. option_map (changed_file (linking against) index) (slice_get (files_of p ++ new) n)) here

  -- names of files mean these
  mean-these : (name : List ℕ) (n : ℕ) → finite.get against.file_names name ≡ Some n → n < length p.files + length new
  mean-these name n is = let below = mean-with p new before name n is in let long = long-with p new in omega (arith, below, long)

-- new files of a pool, and the same under other numbers
module _ (p : Contents) (made : Made p) (fs gs : List FileDescriptorProto) (number : ℕ → ℕ)
    (renames : Renames (setting_with p fs) (setting_with p gs) (length p.files + length fs) number)
    (old : (n : ℕ) → n < length p.files → number n ≡ n)
    (behind : (n : ℕ) → n < length p.files + length fs → length p.files ≤ n → length p.files ≤ number n)
    (file_names : (name : List ℕ) → finite.get (setting_with p gs).file_names name ≡ option_map number (finite.get (setting_with p fs).file_names name)) where
  abbrev s : Setting
  s = setting_with p fs

  abbrev t : Setting
  t = setting_with p gs

  abbrev many : ℕ
  many = length p.files + length fs

  abbrev one : Contents
  one = with_batch p fs

  abbrev other : Contents
  other = with_batch p gs

  abbrev known : Known p
  known = (made-sound p made).known

  both-linked : (n : ℕ) → n < many → (o : Option FileDescriptorProto) → option_map (linked t (number n)) o ≡ option_map (linked s n) o
  both-linked n below None = refl
  both-linked n below (Some f) = ap Some (linked-renamed s t many number renames n below f)

  -- a file has the same linked record under its number
  record-moved : (n : ℕ) → n < many → slice_get (files_of other) (number n) ≡ slice_get (files_of one) n
  record-moved n below = elim (cases_lt n (length p.files)) [
    | inl less ↦
        let same = old n less in
        ap (slice_get (files_of other)) same ∙ old-at p known gs n less ∙ sym (old-at p known fs n less)
    | inr more ↦
        new-at p known gs (number n) (behind n below more)
        ∙ ap (option_map (linked t (number n))) (renames.files n below)
        ∙ both-linked n below (slice_get s.files n)
        ∙ sym (new-at p known fs n more)
  ]

  records-same : (name : List ℕ) → record_named one name ≡ record_named other name
  records-same name =
      by (finite.get s.file_names name) (mean-these p known fs name) ∙ ap (option_and_then (slice_get (files_of other))) (sym (file_names name))
    where
      by : (o : Option ℕ) → ((n : ℕ) → o ≡ Some n → n < many) → option_and_then (slice_get (files_of one)) o ≡ option_and_then (slice_get (files_of other)) (option_map number o)
      by None lies = refl
      by (Some n) lies = sym (record-moved n (lies n refl))

  -- definitions that are one but for numbers
  stand-same : (d e : Definition) → d.file < many → (k : Option DeclarationKind) → StandsAlike number k d e
      → option_map (placed one d) k ≡ option_map (placed other e) k
  stand-same d e below None stands = refl
  stand-same d e below (Some kind) stands =
      let place : slice_get (files_of one) d.file ≡ slice_get (files_of other) e.file =
      sym (record-moved d.file below) ∙ ap (slice_get (files_of other)) (sym stands.0) in
      λ i. Some (kind, text_of (unwrap_or (place i) no_file).name, sym stands.1 i)

  names-same : (name : List ℕ) → option_map (without_numbers one) (finite.get one.names name) ≡ option_map (without_numbers other) (finite.get other.names name)
  names-same name = by (finite.get s.names name) (finite.get t.names name) (renames.names name) (renames.lie name)
    where
      by : (o q : Option Definition) → BothAlike number o q → ((d : Definition) → o ≡ Some d → d.file < many) → option_map (without_numbers one) o ≡ option_map (without_numbers other) q
      by None None both lies = refl
      by (Some d) (Some e) both lies =
          ap Some (stand-same d e (lies d refl) (kind_alone d.kind) both.1 ∙ ap (option_map (placed other e)) (sym both.0))
      by _ _ both lies = absurd both

  pub same-linked : SameButNumbers one other
  same-linked = record { records = records-same; names = names-same }
