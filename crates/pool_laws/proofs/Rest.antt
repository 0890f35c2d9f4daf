-- The second part of new files behind the linked first part: what it reads there is what it reads at once with the first.
use Rattle.std.proofs.Common.{◌≡◌, ◌<◌, ◌+◌, ℕ, Some, List, [], ◌++◌, length, map, slice_get, unwrap_or, append_assoc, ap, subst, sym, ◌∙◌}
use Rattle.std.proofs.lemmas.List.{length-append, map-append}
use Rattle.std.specs.BTreeSet.{contains_by}
use Rattle.std.specs.FinMap as finite
use Rattle.std.specs.List.{AllByRecursion, flat_map}
use Rattle.std.specs.Ordering.{nat_cmp}
use Rattle.plain_data.specs.Lists.{after_each}
use Rattle.proto_types.specs.declared.file.FileDescriptorProto.{FileDescriptorProto}
use Rattle.pool_types.specs.Contents.{Contents, files_of}
use Rattle.name_tables.specs.Entries.{names_with}
use Rattle.name_tables.proofs.Entries.{get-with, with-more}
use Rattle.name_resolution.specs.Visibility.{seen_from}
use Rattle.record_walk.specs.declared.counts.Counts.{Counts}
use Rattle.record_walk.specs.Changed.{changed_files}
use Rattle.record_walk.specs.Counts.{counted, counts_in}
use Rattle.record_walk.specs.Declarations.{declarations}
use Rattle.record_walk.specs.Protos.{as_extension}
use Rattle.record_walk.specs.Shown.{Shown}
use Rattle.name_resolution.specs.Resolution.{resolution}
use Rattle.plain_data.specs.Each.{map_enumerated}
use Rattle.reference_pass.specs.SecondPass.{owner_faults, owners_faults}
use Rattle.reference_pass.specs.Definitions.{declaration_path}
use Rattle.reference_pass.specs.Items.{extension_item, extension_items, file_item}
use Rattle.reference_pass.specs.Linked.{linking}
use Rattle.reference_pass.specs.Setting.{Setting, seen_by}
use Rattle.reference_pass.proofs.Owners.{owners-tell}
use Rattle.reference_pass.proofs.Unbroken.{AllNew, owners-behind}
use Rattle.pool_laws.proofs.Settings.{Stands, unchanged}
use Rattle.pool_laws.proofs.AsGiven.{given-carried}
use Rattle.pool_laws.proofs.Declarations.{all-mean}
use Rattle.pool_laws.proofs.Unchanged.{declarations-unchanged, unchanged-keeps}
use Rattle.pool_contents.proofs.Each.{each-map, each-same}
use Rattle.name_pass.specs.Names.{entries, file_entries}
use Rattle.name_pass.specs.FirstPass.{first_faults}
use Rattle.descriptor_pool.specs.Build.{declared_with, with_batch, name_faults, reference_faults, setting_with, with_items, with_names}
use Rattle.descriptor_pool.proofs.Declared.{counts-with, entries-append, items-of-files}
use Rattle.descriptor_pool.proofs.Files.{counted-files, lie-between}
use Rattle.descriptor_pool.proofs.Listed.{counts-extended}
use Rattle.descriptor_pool.proofs.Sound.{Known, link-known}
use Rattle.pool_laws.proofs.Relinks.{files-are, old_seen}
use Rattle.pool_laws.proofs.Behind.{new-sees}
use Rattle.pool_laws.proofs.Alike.{sees-alike}
use Rattle.pool_laws.proofs.Batches.{between-at, many-changed, SameRead}
use Rattle.pool_laws.proofs.Items.{all-fine, kind-again, same-extension}
use Rattle.pool_laws.proofs.Parts.{AllKnown, declared-both, earlier, keys_part, later, more-file-names, new-both, part, seen-more, unbroken-both, whole}
use Rattle.pool_laws.proofs.Passes.{after-parts, pass-again, unbroken-carried}
use Rattle.pool_laws.proofs.Relinked.{Relinked, or-nothing, syntaxes-of}
use Rattle.pool_laws.proofs.AllOf.{all-of}

module _ (p : Contents) (entered : Known p) (again : Relinked p) (front back : List FileDescriptorProto)
    (closed : AllKnown front (finite.get (with_names p (declared_with p front)).file_names)) where
  -- the pool with the first part, and what the second is read against behind it
  abbrev pub grown : Contents
  grown = with_batch p front

  abbrev pub behind : Setting
  behind = setting_with grown back

  abbrev pub at_once : Setting
  at_once = whole p entered again front back closed

  abbrev first : List Shown
  first = earlier p entered again front back closed

  abbrev second : List Shown
  second = later p entered again front back closed

  abbrev alone : Setting
  alone = part p entered again front back closed

  abbrev came : List FileDescriptorProto
  came = changed_files (linking alone) (length p.files) front

  pub counts-same : counts_in grown ≡ counted (counts_in p) first
  counts-same =
      let named = with_names p first in
      counts-extended (length p.extensions) (with_items named alone first) ∙ counts-with named alone first

  pub declared-second : declared_with grown back ≡ second
  declared-second = ap (λ c. declarations c back) counts-same

  pub names-same : behind.names ≡ at_once.names
  names-same =
      ap (λ ds. names_with grown.names (entries ds)) declared-second ∙ with-more p.names (entries first) (entries second)
      ∙ ap (names_with p.names) (sym (entries-append first second)) ∙ ap (λ ds. names_with p.names (entries ds)) (sym (declared-both p entered again front back closed))

  pub file-names-same : behind.file_names ≡ at_once.file_names
  file-names-same = ap (λ ds. names_with grown.file_names (file_entries ds)) declared-second ∙ sym (more-file-names p entered again front back closed)

  files-same : behind.files ≡ files_of p ++ (came ++ back)
  files-same = ap (λ fs. fs ++ back) (files-are p front entered (link-known p front entered)) ∙ append_assoc (files_of p) came back

  same-length : length behind.files ≡ length at_once.files
  same-length =
      ap length files-same ∙ length-append (files_of p) (came ++ back)
      ∙ ap (λ n. length (files_of p) + n) (length-append came back ∙ ap (λ n. n + length back) (many-changed (linking alone) (length p.files) front) ∙ sym (length-append front back))
      ∙ sym (length-append (files_of p) (front ++ back))

  -- of each file is read what is read of it at once
  read : (n : ℕ) → SameRead (slice_get at_once.files n) (slice_get behind.files n)
  read n = subst (λ fs. SameRead (slice_get at_once.files n) (slice_get fs n)) (sym files-same) (between-at (linking alone) (files_of p) (length p.files) front back n)

  -- what files see
  new-keys : (n : ℕ) → seen_from behind.files (finite.get behind.file_names) n ≡ seen_from at_once.files (finite.get at_once.file_names) n
  new-keys n =
      ap (λ names. seen_from behind.files (finite.get names) n) file-names-same
      ∙ sees-alike at_once.files behind.files same-length (λ n. (read n).imports) (finite.get at_once.file_names) n

  old-seen : map (λ f. f.transitive_dependencies) grown.files ≡ alone.seen
  old-seen =
      let item = file_item alone in
      let made = keys_part p entered again front back closed in
      map-append (λ f. f.transitive_dependencies) p.files _
      ∙ ap (λ sets. old_seen p ++ sets)
      (ap (map (λ f. f.transitive_dependencies)) (items-of-files item (counts_in p) front) ∙ each-map (λ f. f.transitive_dependencies) item (length p.files) front
      ∙ each-same (λ n f. (item n f).transitive_dependencies) made (length p.files) front (λ n f from to. new-sees p front n from to))

  pub start : length grown.files ≡ length p.files + length front
  start = ap (λ (c : Counts). c.files) counts-same ∙ counted-files (counts_in p) front

  seen-same : behind.seen ≡ at_once.seen
  seen-same =
      (λ i. old-seen i ++ map_enumerated (λ n _. record { keys = new-keys n i }) (start i) back) ∙ sym (seen-more p entered again front back closed)

  pub sees-same-behind : (n : ℕ) → seen_by behind n ≡ seen_by at_once n
  sees-same-behind n = ap (λ sets. unwrap_or (slice_get sets n) (record { keys = [] })) seen-same

  abbrev pub many : ℕ
  many = (counted (counts_in p) first).files + length back

  -- all references stand
  pub rest-stands : Stands at_once behind many
  rest-stands = record {
    references = λ file _ scope written filter name def is. record {
      meaning_is = (λ i. resolution (names-same i) (λ n. contains_by (nat_cmp n) (sees-same-behind file i)) filter scope written) ∙ is;
      enum_is = ((read def.file).records (declaration_path def.path)).enums;
      ranges = ((read def.file).records (declaration_path def.path)).messages;
    };
    syntaxes = λ n _. (read n).syntax;
    sees = λ n _. sees-same-behind n;
  }

  pub lie-second : AllByRecursion (λ d. d.file < many) second
  lie-second = (lie-between (counted (counts_in p) first) back).1

  pub same-file-names : (name : List ℕ) (n : ℕ) → finite.get at_once.file_names name ≡ Some n → finite.get behind.file_names name ≡ Some n
  same-file-names name n is = ap (λ names. finite.get names name) file-names-same ∙ is

  -- neither pass finds a fault
  pub names-fine : name_faults p (front ++ back) ≡ [] → name_faults grown back ≡ []
  names-fine none =
      let faults = first_faults at_once.files p in
      let parts = (after-parts faults [] first second (sym (ap (after_each faults []) (declared-both p entered again front back closed)) ∙ none)).1 in
      ap (after_each (first_faults behind.files grown) []) (declared-second ∙ sym (declarations-unchanged second))
      ∙ pass-again unchanged unchanged-keeps at_once.files behind.files p grown first [] second
      (record {
        names = λ name. sym (or-nothing (finite.get grown.names name)) ∙ get-with p.names (entries first) name;
        files = λ name. sym (or-nothing (finite.get grown.file_names name)) ∙ get-with p.file_names (file_entries first) name;
      })
      (syntaxes-of many at_once.files behind.files rest-stands.syntaxes second lie-second) parts

  unbroken : reference_faults p (front ++ back) ≡ [] → flat_map (owner_faults behind []) second ≡ []
  unbroken none =
      sym (ap (flat_map (owner_faults behind [])) (declarations-unchanged second))
      ∙ unbroken-carried (given-carried rest-stands) second lie-second (all-of (λ d. all-mean at_once behind same-file-names d.proto) second) (unbroken-both p entered again front back closed none).1

  -- its extensions are those that it has at once
  pub extensions-same : reference_faults p (front ++ back) ≡ [] → extension_items behind second ≡ extension_items at_once second
  extensions-same none =
      let carried = given-carried rest-stands in
      ap (extension_items behind) (sym (declarations-unchanged second))
      ∙ kind-again carried as_extension (extension_item at_once) (extension_item behind) (same-extension carried) second (all-fine at_once many second lie-second (unbroken-both p entered again front back closed none).1)

  -- where the extensions of the first part are those that it has at once
  pub references-fine : extension_items (part p entered again front back closed) first ≡ extension_items at_once first
      → reference_faults p (front ++ back) ≡ [] → reference_faults grown back ≡ []
  references-fine same none =
      owners-tell behind grown.extensions (counts_in grown) back ∙ ap (owners_faults behind grown.extensions) declared-second
      ∙ owners-behind behind grown.extensions second (unbroken none)
      (subst (AllNew grown.extensions) (sym (extensions-same none))
      (subst (λ es. AllNew (p.extensions ++ es) (extension_items at_once second)) (sym same) (new-both p entered again front back closed none).1))
