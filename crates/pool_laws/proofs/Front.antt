-- The first part of a batch that is accepted is accepted, where it imports nothing of the second and all names are plain.
use Rattle.std.proofs.Common.{◌≡◌, ◌<◌, ◌+◌, inl, inr, ◌⊎◌, IsTrue, ℕ, zero, suc, Bool, true, false, cond, IsSome, Option, Some, List, [], ◌∷◌, ◌++◌, length, map, slice_get, unwrap_or, append_assoc, refl, ap, subst, sym, ◌∙◌, arith}
use Rattle.std.proofs.lemmas.Grind.{flat_map-append}
use Rattle.std.proofs.lemmas.List.Elements.{All-contains, All-head, All-tail, recursion_from_All}
use Rattle.std.specs.BTreeSet.{contains_by}
use Rattle.std.specs.Cmp.Lexicographic.{bytes_decides}
use Rattle.std.specs.FinMap as finite
use Rattle.std.specs.List.{All, AllByRecursion, Contains, flat_map}
use Rattle.std.specs.Option.{option_and_then}
use Rattle.std.specs.Ordering.{nat_cmp}
use Rattle.std.specs.Str.{bytes_eq}
use Rattle.plain_data.specs.Lists.{after_each}
use Rattle.proto_types.specs.Readers.{text_of}
use Rattle.proto_types.specs.File.{no_file}
use Rattle.proto_types.specs.declared.file.FileDescriptorProto.{FileDescriptorProto}
use Rattle.pool_types.specs.Contents.{Contents, files_of}
use Rattle.pool_types.specs.declared.contents.definition.Definition.{Definition}
use Rattle.name_tables.specs.Entries.{first_of}
use Rattle.name_tables.proofs.Entries.{first-append, get-with}
use Rattle.name_resolution.proofs.Members.{Contains-cons_cases}
use Rattle.record_walk.specs.declared.counts.Counts.{Counts}
use Rattle.record_walk.specs.Counts.{counted, counts_in, no_counts}
use Rattle.record_walk.specs.Declarations.{declarations, file_walk}
use Rattle.record_walk.specs.Leads.{leads}
use Rattle.record_walk.specs.Protos.{Proto, as_enum, as_extension, as_message, of_file}
use Rattle.record_walk.specs.Shown.{Shown}
use Rattle.record_walk.specs.Walking.{within_file}
use Rattle.record_walk.proofs.Walks.{IsInside, within-all}
use Rattle.name_resolution.specs.declared.filter.ResolveNameFilter.{ResolveNameFilter}
use Rattle.name_resolution.specs.Resolution.{found, resolution}
use Rattle.pool_types.specs.Syntaxes.{syntax_of}
use Rattle.reference_pass.specs.SecondPass.{owner_faults}
use Rattle.reference_pass.specs.Items.{extension_item, extension_items}
use Rattle.reference_pass.specs.Definitions.{declaration_path, message_record, record_of}
use Rattle.reference_pass.specs.Setting.{Setting, resolve, seen_by}
use Rattle.reference_pass.proofs.Owners.{owners-tell}
use Rattle.reference_pass.proofs.Unbroken.{AllNew, owners-behind}
use Rattle.pool_laws.proofs.Settings.{ImportsMean, NamesStay, RangesStay, ReferenceCarriesOver, Stands, unchanged}
use Rattle.pool_laws.proofs.AsGiven.{given-carried}
use Rattle.pool_laws.proofs.Fewer.{found-fewer}
use Rattle.pool_laws.proofs.Items.{all-fine, kind-again, same-extension}
use Rattle.pool_laws.proofs.Looked.{IsLooked, looked-seen, resolution-looked}
use Rattle.pool_laws.proofs.Unchanged.{declarations-unchanged, unchanged-keeps}
use Rattle.name_pass.specs.Names.{file_entries, file_entries_of}
use Rattle.name_pass.specs.FirstPass.{first_faults}
use Rattle.descriptor_pool.specs.Build.{declared_with, name_faults, reference_faults, with_names}
use Rattle.descriptor_pool.specs.Pool.{has_file}
use Rattle.descriptor_pool.proofs.Files.{lie-between}
use Rattle.descriptor_pool.proofs.Resolved.{all-append}
use Rattle.descriptor_pool.proofs.Sound.{Known}
use Rattle.pool_laws.specs.Laws.{ArePlain}
use Rattle.pool_laws.proofs.Relinks.{first-kept, long-with, slice-front}
use Rattle.pool_laws.proofs.Parts.{AllKnown, declared-both, earlier, known-stays, later, new-both, part, sees-same, sees-within, unbroken-both, whole}
use Rattle.pool_laws.proofs.Passes.{after-parts, pass-again, unbroken-carried}
use Rattle.pool_laws.proofs.Records.{ranges-itself}
use Rattle.pool_laws.proofs.Relinked.{Relinked, syntaxes-of}
use Rattle.pool_laws.proofs.Unseen.{found-second, seen-stand}
use Rattle.pool_laws.proofs.AllOf.{all-weaker}

pub plain-front : (base : Counts) (fs gs : List FileDescriptorProto) → ArePlain base (fs ++ gs) → ArePlain base fs
plain-front base [] gs plain = tt
plain-front base (f ∷ fs) gs plain = (plain.0, plain-front (counted base (file_walk base f)) fs gs plain.1)

-- names of files that are known mean what they meant
module _ (p : Contents) (entered : Known p) (again : Relinked p) (front back : List FileDescriptorProto)
    (closed : AllKnown front (finite.get (with_names p (declared_with p front)).file_names)) where
  abbrev now : Setting
  now = part p entered again front back closed

  abbrev was : Setting
  was = whole p entered again front back closed

  abbrev first : List Shown
  first = earlier p entered again front back closed

  abbrev many : ℕ
  many = length p.files + length front

  names-stay : (names : List (List ℕ)) → ((name : List ℕ) → Contains names name → IsSome (finite.get now.file_names name)) → NamesStay was now names
  names-stay [] known = tt
  names-stay (name ∷ names) known =
      (λ n is. sym (known-stays p entered again front back closed name (known name (zero, omega arith, refl))) ∙ is, names-stay names (λ other there. known other (behind other there)))
    where
      behind : (other : List ℕ) → Contains names other → Contains (name ∷ names) other
      behind other (m, below, same) = (suc m, omega (arith, below), same)

  inside-mean : (p : Proto) → IsInside p → ImportsMean was now p
  inside-mean (of_file f) inside = absurd inside
  inside-mean _ inside = tt

  all-inside : (ds : List Shown) → AllByRecursion (λ d. IsInside d.proto) ds → AllByRecursion (λ d. ImportsMean was now d.proto) ds
  all-inside = all-weaker (λ d. IsInside d.proto) (λ d. ImportsMean was now d.proto) (λ d. inside-mean d.proto)

  imports-mean : (base : Counts) (fs : List FileDescriptorProto) → AllKnown fs (finite.get now.file_names) → AllByRecursion (λ d. ImportsMean was now d.proto) (declarations base fs)
  imports-mean base [] known = tt
  imports-mean base (f ∷ fs) known =
      let inner = within_file base.files base f in
      let inside = within-all (λ d. IsInside d.proto) (λ _. Unit {0}) (λ here tag position index proto is _. is) (λ here tag position index proto _. tt) (λ here tag position index proto _. tt) base f tt in
      all-append (λ d. ImportsMean was now d.proto) (file_walk base f) (declarations (counted base (file_walk base f)) fs)
      (names-stay f.dependency (λ name there. known 0 (omega arith) name there), all-inside inner (recursion_from_All (λ d. IsInside d.proto) inner inside))
      (imports-mean (counted base (file_walk base f)) fs (λ n below. known (suc n) (omega (arith, below))))

  pub all-names-stay : (fs : List FileDescriptorProto) → AllKnown fs (finite.get now.file_names) → AllByRecursion (λ f. NamesStay was now f.dependency) fs
  all-names-stay [] known = tt
  all-names-stay (f ∷ fs) known =
      (names-stay f.dependency (λ name there. known 0 (omega arith) name there), all-names-stay fs (λ n below. known (suc n) (omega (arith, below))))

  file-same : (n : ℕ) → n < many → slice_get now.files n ≡ slice_get was.files n
  file-same n below =
      let long = long-with p front in
      sym (ap (λ fs. slice_get fs n) (sym (append_assoc (files_of p) front back)) ∙ slice-front (files_of p ++ front) back n (omega (arith, below, long)))

  pub lie : AllByRecursion (λ d. d.file < many) first
  lie = (lie-between (counts_in p) front).1

  -- with plain names, references of the first part stand
  module _ (plain : ArePlain no_counts (files_of p ++ front)) where
    module _ (file : ℕ) (below : file < many) (scope written : List ℕ) (filter : ResolveNameFilter) (name : List ℕ) (def : Definition)
        (is : resolve was file scope filter written ≡ found name def) where
      abbrev seen : ℕ → Bool
      seen n = contains_by (nat_cmp n) (seen_by was file)

      few : (n : ℕ) → seen n ≡ true → n < many
      few n sees = sees-within p entered again front back closed file below n (ap (contains_by (nat_cmp n)) (sees-same p entered again front back closed file below) ∙ sees)

      fewer : resolution now.names seen filter scope written ≡ found name def
      fewer = found-fewer now.names was.names seen (seen-stand p entered front back plain seen few) filter scope written name def is

      lies : def.file < many
      lies =
          let looked = subst (IsLooked was.names seen filter) is (resolution-looked was.names seen filter scope written) in
          few def.file (looked-seen was.names seen filter name name def looked.0)

      record-same : record_of now def ≡ record_of was def
      record-same = ap (option_and_then (λ f. leads f (declaration_path def.path))) (file-same def.file lies)

      reference-stands : ReferenceCarriesOver was now file scope written filter name def
      reference-stands = record {
        meaning_is = (λ i. resolution now.names (λ n. contains_by (nat_cmp n) (sees-same p entered again front back closed file below i)) filter scope written) ∙ fewer;
        enum_is = ap (option_and_then as_enum) record-same;
        ranges = subst (RangesStay (message_record was def)) (sym (ap (option_and_then as_message) record-same)) (ranges-itself (message_record was def));
      }

    pub front-stands : Stands was now many
    front-stands = record {
      references = reference-stands;
      syntaxes = λ n below. ap (λ o. syntax_of (unwrap_or o no_file)) (file-same n below);
      sees = λ n below. sees-same p entered again front back closed n below;
    }

    -- neither pass finds a fault
    pub names-fine : name_faults p (front ++ back) ≡ [] → name_faults p front ≡ []
    names-fine none =
        let faults = first_faults was.files p in
        let alone = (after-parts faults [] first (later p entered again front back closed) (sym (ap (after_each faults []) (declared-both p entered again front back closed)) ∙ none)).0 in
        sym (ap (after_each (first_faults now.files p) []) (declarations-unchanged first))
        ∙ pass-again unchanged unchanged-keeps was.files now.files p p [] [] first (record { names = λ _. refl; files = λ _. refl })
        (syntaxes-of many was.files now.files front-stands.syntaxes first lie) alone

    -- its extensions are those that it has at once
    pub extensions-same : reference_faults p (front ++ back) ≡ [] → extension_items now first ≡ extension_items was first
    extensions-same none =
        let carried = given-carried front-stands in
        ap (extension_items now) (sym (declarations-unchanged first))
        ∙ kind-again carried as_extension (extension_item was) (extension_item now) (same-extension carried) first (all-fine was many first lie (unbroken-both p entered again front back closed none).0)

    unbroken : reference_faults p (front ++ back) ≡ [] → flat_map (owner_faults now []) first ≡ []
    unbroken none =
        sym (ap (flat_map (owner_faults now [])) (declarations-unchanged first))
        ∙ unbroken-carried (given-carried front-stands) first lie (imports-mean (counts_in p) front closed) (unbroken-both p entered again front back closed none).0

    pub references-fine : reference_faults p (front ++ back) ≡ [] → reference_faults p front ≡ []
    references-fine none =
        owners-tell now p.extensions (counts_in p) front
        ∙ owners-behind now p.extensions first (unbroken none)
        (subst (AllNew p.extensions) (sym (extensions-same none)) (new-both p entered again front back closed none).0)

-- names that files have are known behind them
name-entered : (base : Counts) (fs : List FileDescriptorProto) (name : List ℕ) → Contains (map (λ g. text_of g.name) fs) name
    → IsSome (first_of (file_entries (declarations base fs)) name)
name-entered base [] name there = absurd (omega (arith, there.1))
name-entered base (f ∷ fs) name there =
    let own = text_of f.name in
    let inner = within_file base.files base f in
    let behind = declarations (counted base (file_walk base f)) fs in
    elim (bytes_eq name own) as (λ b. bytes_eq name own ≡ b → IsSome (cond b (Some base.files) (first_of (file_entries (inner ++ behind)) name))) [
      | true ↦ λ _. refl
      | false ↦ λ other. elim (Contains-cons_cases own (map (λ g. text_of g.name) fs) name there) [
        | inl is ↦ let same = (bytes_decides name own).1 (sym is) in absurd (cc)
        | inr rest ↦
            subst IsSome (sym (ap (λ es. first_of es name) (flat_map-append file_entries_of inner behind) ∙ first-append (file_entries inner) (file_entries behind) name))
            (found-second (first_of (file_entries inner) name) (first_of (file_entries behind) name) (name-entered (counted base (file_walk base f)) fs name rest))
      ]
    ] refl

-- so closed files import what is known
module _ (p : Contents) (new : List FileDescriptorProto) where
  abbrev naming : List ℕ → Option ℕ
  naming = finite.get (with_names p (declared_with p new)).file_names

  abbrev Imported : List ℕ → Type 0
  Imported name = IsTrue (has_file p name) ⊎ Contains (map (λ g. text_of g.name) new) name

  abbrev AllImported : FileDescriptorProto → Type 0
  AllImported f = All Imported f.dependency

  name-known : (name : List ℕ) → Imported name → IsSome (naming name)
  name-known name (inl known) =
      let there = first-kept (finite.get p.file_names name) (first_of (file_entries (declared_with p new)) name) known in
      subst IsSome (sym (get-with p.file_names (file_entries (declared_with p new)) name ∙ there)) known
  name-known name (inr there) =
      subst IsSome (sym (get-with p.file_names (file_entries (declared_with p new)) name))
      (found-second (finite.get p.file_names name) (first_of (file_entries (declared_with p new)) name) (name-entered (counts_in p) new name there))

  pub each-known : (fs : List FileDescriptorProto) → All AllImported fs → AllKnown fs naming
  each-known [] closed n below name there = absurd (omega (arith, below))
  each-known (f ∷ fs) closed zero below name there = name-known name (All-contains Imported f.dependency name (All-head AllImported f fs closed) there)
  each-known (f ∷ fs) closed (suc n) below name there = each-known fs (All-tail AllImported f fs closed) n (omega (arith, below)) name there
