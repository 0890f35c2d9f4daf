-- New files in two parts, of which the first imports nothing of the second: what the first reads alone is what it reads with the second behind it.
use Rattle.std.proofs.Common.{◌≡◌, ◌<◌, ◌+◌, inl, inr, ℕ, true, IsSome, Option, List, [], ◌++◌, length, slice_get, unwrap_or, append_assoc, ap, subst, sym, ◌∙◌, arith}
use Rattle.std.proofs.lemmas.Bool.{cases_lt}
use Rattle.std.proofs.lemmas.Grind.{flat_map-append}
use Rattle.std.proofs.lemmas.List.{length-append, length-map}
use Rattle.std.specs.BTreeSet.{BTreeSet, contains_by}
use Rattle.std.specs.FinMap as finite
use Rattle.std.specs.List.{Contains, flat_map}
use Rattle.std.specs.Ordering.{nat_cmp}
use Rattle.proto_types.specs.File.{no_file, file_at}
use Rattle.proto_types.specs.declared.file.FileDescriptorProto.{FileDescriptorProto}
use Rattle.pool_types.specs.Contents.{Contents, files_of}
use Rattle.name_tables.specs.Entries.{first_of, names_with}
use Rattle.name_tables.proofs.Entries.{get-with, with-more}
use Rattle.name_resolution.specs.Visibility.{seen_from}
use Rattle.record_walk.specs.Counts.{counted, counts_in}
use Rattle.record_walk.specs.Declarations.{declarations}
use Rattle.record_walk.specs.Shown.{Shown}
use Rattle.record_walk.proofs.Appended.{declarations-append}
use Rattle.plain_data.specs.Each.{map_enumerated}
use Rattle.record_walk.specs.Protos.{as_extension}
use Rattle.reference_pass.specs.SecondPass.{owner_faults, owners_faults}
use Rattle.reference_pass.specs.Items.{extension_item, extension_items}
use Rattle.reference_pass.specs.Setting.{Setting, seen_by}
use Rattle.reference_pass.proofs.Owners.{owners-tell}
use Rattle.reference_pass.proofs.Steps.{made-append}
use Rattle.pool_laws.proofs.Settings.{ImportsStay, NamesFiles}
use Rattle.reference_pass.proofs.Unbroken.{AllNew, all-new-parts, both-empty, owners-apart}
use Rattle.pool_laws.proofs.SeenStays.{seen-stays}
use Rattle.pool_contents.proofs.Each.{each-append, each-same, length-each}
use Rattle.name_pass.specs.Names.{file_entries, file_entries_of}
use Rattle.descriptor_pool.specs.Build.{declared_with, reference_faults, setting_with, with_names}
use Rattle.descriptor_pool.proofs.Sound.{Known}
use Rattle.pool_laws.proofs.Relinks.{first-kept, known-imports, long-pool, long-with, old_seen, slice-front}
use Rattle.pool_laws.proofs.Behind.{keys, mean-with, new-sees, old-sees, position-behind, seen-within, slice-rest}
use Rattle.pool_laws.proofs.Relinked.{Relinked}

-- each file of a list imports files that are known
abbrev pub AllKnown : List FileDescriptorProto → (List ℕ → Option ℕ) → Type 0
AllKnown files naming = (n : ℕ) → n < length files → (name : List ℕ) → Contains (file_at files n).dependency name → IsSome (naming name)

file-front : (fs gs : List FileDescriptorProto) (n : ℕ) → n < length fs → file_at (fs ++ gs) n ≡ file_at fs n
file-front fs gs n below = ap (λ o. unwrap_or o no_file) (slice-front fs gs n below)

known-both : (fs gs : List FileDescriptorProto) (naming : List ℕ → Option ℕ) → AllKnown fs naming → AllKnown gs naming → AllKnown (fs ++ gs) naming
known-both fs gs naming first second n below name found = elim (cases_lt n (length fs)) [
  | inl less ↦ first n less name (subst (λ (f : FileDescriptorProto). Contains f.dependency name) (file-front fs gs n less) found)
  | inr more ↦
      let parts = position-behind n (length fs) more in
      let sum = length-append fs gs in
      let same : n ≡ length fs + parts.0 = parts.1 in
      second parts.0 (omega (arith, sum, below, same))
      name (subst (λ (f : FileDescriptorProto). Contains f.dependency name) (ap (file_at (fs ++ gs)) same ∙ ap (λ o. unwrap_or o no_file) (slice-rest fs gs parts.0)) found)
]

module _ (p : Contents) (entered : Known p) (again : Relinked p) (front back : List FileDescriptorProto)
    (closed : AllKnown front (finite.get (with_names p (declared_with p front)).file_names)) where
  abbrev pub part : Setting
  part = setting_with p front

  abbrev pub whole : Setting
  whole = setting_with p (front ++ back)

  abbrev pub earlier : List Shown
  earlier = declared_with p front

  abbrev pub later : List Shown
  later = declarations (counted (counts_in p) earlier) back

  pub declared-both : declared_with p (front ++ back) ≡ earlier ++ later
  declared-both = declarations-append (counts_in p) front back

  pub more-file-names : whole.file_names ≡ names_with part.file_names (file_entries later)
  more-file-names =
      ap (λ ds. names_with p.file_names (file_entries ds)) declared-both
      ∙ ap (names_with p.file_names) (flat_map-append file_entries_of earlier later)
      ∙ sym (with-more p.file_names (file_entries earlier) (file_entries later))

  -- a name of a file that is known is known as that with more files
  pub known-stays : (name : List ℕ) → IsSome (finite.get part.file_names name) → finite.get whole.file_names name ≡ finite.get part.file_names name
  known-stays name known =
      ap (λ names. finite.get names name) more-file-names ∙ get-with part.file_names (file_entries later) name
      ∙ first-kept (finite.get part.file_names name) (first_of (file_entries later) name) known

  old-known : (name : List ℕ) → IsSome (finite.get p.file_names name) → IsSome (finite.get part.file_names name)
  old-known name known =
      subst IsSome (sym (get-with p.file_names (file_entries earlier) name ∙ first-kept (finite.get p.file_names name) (first_of (file_entries earlier) name) known)) known

  -- all files of the pool and of the first part import files of these
  pub all-known : AllKnown (files_of p ++ front) (finite.get part.file_names)
  all-known =
      known-both (files_of p) front (finite.get part.file_names)
      (λ n below name found. old-known name (known-imports p again.second n below name found)) closed

  imports-stay : ImportsStay (files_of p ++ front) (finite.get part.file_names) (finite.get whole.file_names)
  imports-stay n below name found = known-stays name (all-known n below name found)

  whole-names : NamesFiles ((files_of p ++ front) ++ back) (finite.get whole.file_names)
  whole-names = subst (λ fs. NamesFiles fs (finite.get whole.file_names)) (sym (append_assoc (files_of p) front back)) (mean-with p (front ++ back) entered)

  -- a file of the first part sees the same files
  same-keys : (n : ℕ) → n < length p.files + length front
      → seen_from (files_of p ++ (front ++ back)) (finite.get whole.file_names) n ≡ seen_from (files_of p ++ front) (finite.get part.file_names) n
  same-keys n below =
      let many = long-with p front in
      ap (λ fs. seen_from fs (finite.get whole.file_names) n) (sym (append_assoc (files_of p) front back))
      ∙ seen-stays (files_of p ++ front) back (finite.get part.file_names) (finite.get whole.file_names) (mean-with p front entered) whole-names imports-stay n (omega (arith, below, many))

  abbrev pub keys_part : ℕ → FileDescriptorProto → BTreeSet ℕ
  keys_part n _ = keys p front n

  abbrev pub keys_whole : ℕ → FileDescriptorProto → BTreeSet ℕ
  keys_whole n _ = keys p (front ++ back) n

  pub seen-more : whole.seen ≡ part.seen ++ map_enumerated keys_whole (length p.files + length front) back
  seen-more =
      let first = each-same keys_whole keys_part (length p.files) front (λ n _ _ to. λ i. record { keys = same-keys n to i }) in
      ap (λ sets. old_seen p ++ sets) (each-append keys_whole (length p.files) front back ∙ ap (λ sets. sets ++ map_enumerated keys_whole (length p.files + length front) back) first)
      ∙ sym (append_assoc (old_seen p) (map_enumerated keys_part (length p.files) front) (map_enumerated keys_whole (length p.files + length front) back))

  long-seen : length part.seen ≡ length p.files + length front
  long-seen =
      length-append (old_seen p) (map_enumerated keys_part (length p.files) front)
      ∙ (λ i. length-map p.files (λ f. f.transitive_dependencies) i + length-each keys_part (length p.files) front i)

  pub sees-same : (n : ℕ) → n < length p.files + length front → seen_by part n ≡ seen_by whole n
  sees-same n below =
      let long = long-seen in
      sym (ap (λ sets. unwrap_or (slice_get sets n) (record { keys = [] })) seen-more
      ∙ ap (λ o. unwrap_or o (record { keys = [] })) (slice-front part.seen (map_enumerated keys_whole (length p.files + length front) back) n (omega (arith, below, long))))

  -- what it sees lies before the second part
  pub sees-within : (n : ℕ) → n < length p.files + length front → (m : ℕ) → contains_by (nat_cmp m) (seen_by part n) ≡ true → m < length p.files + length front
  sees-within n below m = elim (cases_lt n (length p.files)) [
    | inl less ↦ λ is.
        let within = seen-within (files_of p) (finite.get p.file_names) n m (sym (ap (contains_by (nat_cmp m)) (old-sees p front again n less)) ∙ is) in
        let pool = long-pool p in
        omega (arith, within, pool)
    | inr more ↦ λ is.
        let within = seen-within (files_of p ++ front) (finite.get part.file_names) n m (sym (ap (contains_by (nat_cmp m)) (new-sees p front n more below)) ∙ is) in
        let many = long-with p front in
        omega (arith, within, many)
  ]

  told-apart : reference_faults p (front ++ back) ≡ []
      → (flat_map (owner_faults whole []) (earlier ++ later) ≡ []) × AllNew p.extensions (extension_items whole (earlier ++ later))
  told-apart none =
      owners-apart whole p.extensions (earlier ++ later)
      (sym (ap (owners_faults whole p.extensions) declared-both) ∙ sym (owners-tell whole p.extensions (counts_in p) (front ++ back)) ∙ none)

  -- the numbers of extensions that are new at once are new in either part
  pub new-both : reference_faults p (front ++ back) ≡ []
      → AllNew p.extensions (extension_items whole earlier) × AllNew (p.extensions ++ extension_items whole earlier) (extension_items whole later)
  new-both none =
      all-new-parts p.extensions (extension_items whole earlier) (extension_items whole later)
      (subst (AllNew p.extensions) (made-append as_extension (extension_item whole) earlier later) (told-apart none).1)

  -- declarations that break nothing at once break nothing in either part
  pub unbroken-both : reference_faults p (front ++ back) ≡ [] → (flat_map (owner_faults whole []) earlier ≡ []) × (flat_map (owner_faults whole []) later ≡ [])
  unbroken-both none =
      let told = (told-apart none).0 in
      both-empty (flat_map (owner_faults whole []) earlier) (flat_map (owner_faults whole []) later) (sym (flat_map-append (owner_faults whole []) earlier later) ∙ told)
