-- The files of a pool, read once more: alone, and with the linked ones that came last.
use Rattle.std.proofs.Common.{◌≡◌, ◌<◌, ◌+◌, ℕ, zero, suc, not, is_some, IsSome, Option, None, Some, List, [], ◌∷◌, ◌++◌, length, map, slice_get, unwrap_or, refl, ap, subst, sym, ◌∙◌, arith}
use Rattle.std.proofs.lemmas.Grind.{flat_map-append}
use Rattle.std.proofs.lemmas.List.{length-append, length-map}
use Rattle.std.specs.BTreeSet.{BTreeSet}
use Rattle.std.specs.FinMap as finite
use Rattle.std.specs.List.{Contains, flat_map}
use Rattle.std.specs.Option.{IfSome, option_and_then, option_or}
use Rattle.plain_data.specs.Lists.{only_if}
use Rattle.proto_types.specs.File.{no_file, file_at}
use Rattle.proto_types.specs.declared.file.FileDescriptorProto.{FileDescriptorProto}
use Rattle.pool_types.specs.Contents.{ByText, Contents, files_of, no_contents}
use Rattle.pool_types.specs.declared.contents.definition.Definition.{Definition}
use Rattle.pool_faults.specs.declared.fault.DescriptorErrorKind.{DescriptorErrorKind}
use Rattle.name_tables.specs.Entries.{first_of, names_with}
use Rattle.name_tables.proofs.Entries.{get-with, with-names}
use Rattle.name_resolution.specs.Visibility.{seen_from}
use Rattle.record_walk.specs.declared.counts.Counts.{Counts}
use Rattle.record_walk.specs.Changed.{changed_files}
use Rattle.record_walk.specs.Counts.{counted, no_counts}
use Rattle.record_walk.specs.Declarations.{declarations, file_walk}
use Rattle.record_walk.specs.Leads.{leads}
use Rattle.record_walk.specs.Protos.{as_enum, as_message}
use Rattle.record_walk.specs.Shown.{Shown}
use Rattle.record_walk.proofs.Paths.{one-file}
use Rattle.pool_types.specs.Syntaxes.{syntax_of}
use Rattle.plain_data.specs.Each.{map_enumerated}
use Rattle.reference_pass.specs.SecondPass.{owner_faults}
use Rattle.reference_pass.specs.Definitions.{declaration_path, message_record, record_of}
use Rattle.reference_pass.specs.Imports.{import_faults, missing_file}
use Rattle.reference_pass.specs.Linked.{linking}
use Rattle.reference_pass.specs.Setting.{Setting, seen_by}
use Rattle.pool_laws.proofs.Settings.{ImportsStay, NamesFiles, RangesStay, Rereads}
use Rattle.reference_pass.proofs.Unbroken.{both-empty}
use Rattle.pool_laws.proofs.SeenStays.{seen-stays}
use Rattle.name_pass.specs.Names.{entries, file_entries}
use Rattle.descriptor_pool.specs.Build.{declared_with, with_batch, setting_with, with_names}
use Rattle.descriptor_pool.proofs.Declared.{files-linked, known_file_names, known_names}
use Rattle.descriptor_pool.proofs.Files.{file-names-before, names-before}
use Rattle.descriptor_pool.proofs.Sound.{Known}
use Rattle.pool_laws.proofs.Alike.{sees-alike}
use Rattle.pool_laws.proofs.Batches.{behind-at, many-changed, SameRead}
use Rattle.pool_laws.proofs.Imports.{import-parts}
use Rattle.pool_laws.proofs.Told.{told, told-parts}
use Rattle.pool_laws.proofs.Records.{ranges-itself}

-- the files of a pool that a file sees
abbrev pub seen_in : Contents → ℕ → BTreeSet ℕ
seen_in p n = record { keys = seen_from (files_of p) (finite.get p.file_names) n }

-- what is kept of this with each file
abbrev pub old_seen : Contents → List (BTreeSet ℕ)
old_seen p = map (λ f. f.transitive_dependencies) p.files

-- how many files a pool has, and with new ones
pub long-pool : (p : Contents) → length (files_of p) ≡ length p.files
long-pool p = length-map p.files (λ f. f.raw)

pub long-with : (p : Contents) (new : List FileDescriptorProto) → length (files_of p ++ new) ≡ length p.files + length new
long-with p new = length-append (files_of p) new ∙ ap (λ n. n + length new) (long-pool p)

-- what the files of a pool are read against, once more and alone
abbrev pub reread : Contents → Setting
reread p = record { files = files_of p; names = p.names; file_names = p.file_names; seen = map_enumerated (λ n _. seen_in p n) 0 (files_of p) }

-- it is what they are read against behind nothing
pub setting-again : (p : Contents) → Known p → setting_with no_contents (files_of p) ≡ reread p
setting-again p known =
    let names_are : names_with no_contents.names (known_names p) ≡ p.names = with-names [] (known_names p) ∙ sym known.names_are in
    let file_names_are : names_with no_contents.file_names (known_file_names p) ≡ p.file_names = with-names [] (known_file_names p) ∙ sym known.file_names_are in
    λ i. record {
      files = files_of p;
      names = names_are i;
      file_names = file_names_are i;
      seen = map_enumerated (λ n _. record { keys = seen_from (files_of p) (finite.get (file_names_are i)) n }) 0 (files_of p);
    }

-- an entry of a list of which each is made by its position
pub seen-at : {X Y : Type 0} (g : ℕ → Y) (none : Y) (i : ℕ) (xs : List X) (n : ℕ) → n < length xs → unwrap_or (slice_get (map_enumerated (λ k _. g k) i xs) n) none ≡ g (i + n)
seen-at g none i [] n below = absurd (omega (arith, below))
seen-at g none i (x ∷ xs) zero below = let here : i ≡ i + 0 = omega arith in ap g here
seen-at g none i (x ∷ xs) (suc n) below =
    let there : suc i + n ≡ i + suc n = omega arith in seen-at g none (suc i) xs n (omega (arith, below)) ∙ ap g there

-- what a file of a pool sees
pub sees-is : (p : Contents) (n : ℕ) → n < length (files_of p) → seen_by (reread p) n ≡ seen_in p n
sees-is p n below = let same : 0 + n ≡ n = omega arith in seen-at (seen_in p) (record { keys = [] }) 0 (files_of p) n below ∙ ap (seen_in p) same

-- and behind a list that is so
seen-behind : {X Y : Type 0} (g : ℕ → Y) (none : Y) (i : ℕ) (ys : List Y) → ((n : ℕ) → n < length ys → unwrap_or (slice_get ys n) none ≡ g (i + n))
    → (xs : List X) (n : ℕ) → n < length ys + length xs → unwrap_or (slice_get (ys ++ map_enumerated (λ k _. g k) (i + length ys) xs) n) none ≡ g (i + n)
seen-behind g none i [] made xs n below =
    let start : i + 0 ≡ i = omega arith in
    ap (λ first. unwrap_or (slice_get (map_enumerated (λ k _. g k) first xs) n) none) start ∙ seen-at g none i xs n (omega (arith, below))
seen-behind g none i (y ∷ ys) made xs zero below = made 0 (omega arith)
seen-behind g none i (y ∷ ys) made xs (suc n) below =
    let start : suc i + length ys ≡ i + suc (length ys) = omega arith in
    let there : (m : ℕ) → suc i + m ≡ i + suc m = λ m. omega arith in
    ap (λ first. unwrap_or (slice_get (ys ++ map_enumerated (λ k _. g k) first xs) n) none) (sym start)
    ∙ seen-behind g none (suc i) ys (λ m less. made (suc m) (omega (arith, less)) ∙ ap g (sym (there m))) xs n (omega (arith, below))
    ∙ ap g (there n)

pub slice-front : {X : Type 0} (xs ys : List X) (n : ℕ) → n < length xs → slice_get (xs ++ ys) n ≡ slice_get xs n
slice-front [] ys n below = absurd (omega (arith, below))
slice-front (x ∷ xs) ys zero below = refl
slice-front (x ∷ xs) ys (suc n) below = slice-front xs ys n (omega (arith, below))

-- names of files mean files, and names mean what stands in files
pub names-mean-files : (p : Contents) → Known p → NamesFiles (files_of p) (finite.get p.file_names)
names-mean-files p known name n is =
    let end = 0 + length (files_of p) in
    let known : IfSome (finite.get p.file_names name) (λ file. file < end) =
    subst (λ names. IfSome (finite.get names name) (λ file. file < end)) (sym known.file_names_are) (file-names-before no_counts (files_of p) name) in
    let below : n < end = subst (λ found. IfSome found (λ file. file < end)) is known in
    omega (arith, below)

pub names-mean-within : (p : Contents) → Known p → (name : List ℕ) (def : Definition) → finite.get p.names name ≡ Some def → def.file < length (files_of p)
names-mean-within p known name def is =
    let end = 0 + length (files_of p) in
    let known : IfSome (finite.get p.names name) (λ d. d.file < end) =
    subst (λ names. IfSome (finite.get names name) (λ d. d.file < end)) (sym known.names_are) (names-before no_counts (files_of p) name) in
    let below : def.file < end = subst (λ found. IfSome found (λ d. d.file < end)) is known in
    omega (arith, below)

-- what files break is what the first breaks, and then the others
pub first-of-files : (s : Setting) (base : Counts) (f : FileDescriptorProto) (fs : List FileDescriptorProto) → flat_map (owner_faults s []) (declarations base (f ∷ fs)) ≡ []
    → (flat_map (owner_faults s []) (file_walk base f) ≡ []) × (flat_map (owner_faults s []) (declarations (counted base (file_walk base f)) fs) ≡ [])
first-of-files s base f fs none =
    let first = file_walk base f in
    let rest = declarations (counted base first) fs in
    both-empty (flat_map (owner_faults s []) first) (flat_map (owner_faults s []) rest) (sym (flat_map-append (owner_faults s []) first rest) ∙ none)

-- files that break nothing have imports that break nothing
imports-unbroken : (s : Setting) (base : Counts) (fs : List FileDescriptorProto) → flat_map (owner_faults s []) (declarations base fs) ≡ []
    → (n : ℕ) → n < length fs → import_faults s (base.files + n) (file_at fs n) ≡ []
imports-unbroken s base [] none n below = absurd (omega (arith, below))
imports-unbroken s base (f ∷ fs) none zero below =
    let here : base.files + 0 ≡ base.files = omega arith in
    let inside = (first-of-files s base f fs none).0 in
    ap (λ index. import_faults s index f) here ∙ (both-empty (import_faults s base.files f) _ inside).0
imports-unbroken s base (f ∷ fs) none (suc n) below =
    let one = one-file base f in
    let there : base.files + suc n ≡ (counted base (file_walk base f)).files + n = omega (arith, one) in
    ap (λ index. import_faults s index (file_at fs n)) there
    ∙ imports-unbroken s (counted base (file_walk base f)) fs (first-of-files s base f fs none).1 n (omega (arith, below))

named : (found : Option ℕ) (fault : DescriptorErrorKind) → only_if (not (is_some found)) fault ≡ [] → IsSome found
named None fault none = absurd (cc)
named (Some n) fault none = refl

-- imports that break nothing name files
imports-known : (s : Setting) (index k : ℕ) (names : List (List ℕ)) → told (missing_file s index) k names ≡ []
    → (name : List ℕ) → Contains names name → IsSome (finite.get s.file_names name)
imports-known s index k [] none name found = absurd (omega (arith, found.1))
imports-known s index k (here ∷ names) none name (zero, below, same) =
    let parts = told-parts (missing_file s index) k here names none in
    subst (λ x. IsSome (finite.get s.file_names x)) same (named (finite.get s.file_names here) _ parts.0)
imports-known s index k (here ∷ names) none name (suc m, below, same) =
    let parts = told-parts (missing_file s index) k here names none in
    imports-known s index (suc k) names parts.1 name (m, omega (arith, below), same)

-- a pool that breaks nothing knows the imports of its files
pub known-imports : (q : Contents) → flat_map (owner_faults (reread q) []) (declarations no_counts (files_of q)) ≡ []
    → (n : ℕ) → n < length (files_of q) → (name : List ℕ) → Contains (file_at (files_of q) n).dependency name → IsSome (finite.get q.file_names name)
known-imports q unbroken n below name found =
    let f = file_at (files_of q) n in
    let index = 0 + n in
    imports-known (reread q) index 0 f.dependency (import-parts (reread q) index f (imports-unbroken (reread q) no_counts (files_of q) unbroken n below)).0 name found

-- what is known stays where entries come
pub stays-known : {X : Type 0} (known : ByText X) (more : List (List ℕ × X)) (name : List ℕ) (x : X) → finite.get known name ≡ Some x → finite.get (names_with known more) name ≡ Some x
stays-known known more name x is = get-with known more name ∙ ap (λ found. option_or found (first_of more name)) is

pub first-kept : {X : Type 0} (found other : Option X) → IsSome found → option_or found other ≡ found
first-kept None other some = absurd (cc)
first-kept (Some x) other some = refl

-- a pool, and what new files make of it
module _ (q : Contents) (new : List FileDescriptorProto) (before : Known q) (after : Known (with_batch q new)) where
  abbrev p : Contents
  p = with_batch q new

  abbrev s : Setting
  s = setting_with q new

  abbrev ds : List Shown
  ds = declared_with q new

  abbrev came : List FileDescriptorProto
  came = changed_files (linking s) (length q.files) new

  pub files-are : files_of p ≡ files_of q ++ came
  files-are = files-linked (with_names q ds) new before.counts_are s

  slice-old : (n : ℕ) → n < length (files_of q) → slice_get (files_of p) n ≡ slice_get (files_of q) n
  slice-old n below = ap (λ fs. slice_get fs n) files-are ∙ slice-front (files_of q) came n below

  record-old : (def : Definition) → def.file < length (files_of q) → record_of (reread p) def ≡ record_of (reread q) def
  record-old def below = ap (option_and_then (λ f. leads f (declaration_path def.path))) (slice-old def.file below)

  -- of a pool that breaks nothing, once more
  module _ (unbroken : flat_map (owner_faults (reread q) []) (declarations no_counts (files_of q)) ≡ []) where
    imports-stay : ImportsStay (files_of q) (finite.get q.file_names) (finite.get p.file_names)
    imports-stay n below name found =
        let known = known-imports q unbroken n below name found in
        get-with q.file_names (file_entries ds) name ∙ first-kept (finite.get q.file_names name) (first_of (file_entries ds) name) known

    sees-as-before : (n : ℕ) → n < length (files_of q) → seen_in p n ≡ seen_in q n
    sees-as-before n below =
        let naming = finite.get p.file_names in
        let within : NamesFiles (files_of q ++ came) naming = subst (λ fs. NamesFiles fs naming) files-are (names-mean-files p after) in
        let same = ap (λ fs. seen_from fs naming n) files-are
        ∙ seen-stays (files_of q) came (finite.get q.file_names) naming (names-mean-files q before) within imports-stay n below in
        λ i. record { keys = same i }

    -- the files of the pool are read again as they were read alone
    pub old-again : Rereads (reread q) (reread p)
    old-again = record {
      grows = record {
        names = λ name def is. stays-known q.names (entries ds) name def is;
        sees = λ n below. sees-now n below;
      };
      file_names = λ name n is. stays-known q.file_names (file_entries ds) name n is;
      syntaxes = λ n below. ap (λ f. syntax_of (unwrap_or f no_file)) (slice-old n below);
      enums = λ name def is. ap (option_and_then as_enum) (record-old def (names-mean-within q before name def is));
      ranges = λ name def is. subst (RangesStay (message_record (reread q) def)) (sym (ap (option_and_then as_message) (record-old def (names-mean-within q before name def is))))
          (ranges-itself (message_record (reread q) def));
    }
      where
        sees-now : (n : ℕ) → n < length (files_of q) → seen_by (reread p) n ≡ seen_by (reread q) n
        sees-now n below =
            let many = ap length files-are ∙ length-append (files_of q) came in
            sees-is p n (omega (arith, many, below)) ∙ sees-as-before n below ∙ sym (sees-is q n below)

    -- of each file is read what is read of it against which the new ones are linked
    read : (n : ℕ) → SameRead (slice_get (files_of q ++ new) n) (slice_get (files_of p) n)
    read n = subst (λ fs. SameRead (slice_get (files_of q ++ new) n) (slice_get fs n)) (sym files-are) (behind-at (linking s) (files_of q) (length q.files) new n)

    module _ (kept : old_seen q ≡ (reread q).seen) where
      old-at : (n : ℕ) → n < length (old_seen q) → unwrap_or (slice_get (old_seen q) n) (record { keys = [] }) ≡ seen_in p (0 + n)
      old-at n below =
          let many : length (old_seen q) ≡ length (files_of q) = length-map q.files (λ f. f.transitive_dependencies) ∙ sym (length-map q.files (λ f. f.raw)) in
          let here : n < length (files_of q) = omega (arith, many, below) in
          let same : n ≡ 0 + n = omega arith in
          ap (λ seen. unwrap_or (slice_get seen n) (record { keys = [] })) kept ∙ sees-is q n here ∙ sym (sees-as-before n here) ∙ ap (seen_in p) same

      new-sees : (n : ℕ) → n < length (files_of q ++ new) → seen_by (reread p) n ≡ seen_by s n
      new-sees n below =
          let none : BTreeSet ℕ = record { keys = [] } in
          let naming = finite.get p.file_names in
          let many : length (files_of p) ≡ length (files_of q ++ new) = same-length in
          let sum = length-append (files_of q) new in
          let old : length (old_seen q) ≡ length (files_of q) = length-map q.files (λ f. f.transitive_dependencies) ∙ sym (length-map q.files (λ f. f.raw)) in
          let start : length q.files ≡ 0 + length (old_seen q) = let long = length-map q.files (λ f. f.transitive_dependencies) in omega (arith, long) in
          let seen : s.seen ≡ old_seen q ++ map_enumerated (λ k _. seen_in p k) (0 + length (old_seen q)) new =
          λ i. old_seen q ++ map_enumerated (λ k _. record { keys = sym (sees-alike (files_of q ++ new) (files_of p) many (λ n. (read n).imports) naming k) i }) (start i) new in
          let same : 0 + n ≡ n = omega arith in
          sees-is p n (omega (arith, many, below))
          ∙ sym (ap (λ seen. unwrap_or (slice_get seen n) none) seen ∙ seen-behind (seen_in p) none 0 (old_seen q) old-at new n (omega (arith, sum, old, below)) ∙ ap (seen_in p) same)
        where
          same-length : length (files_of p) ≡ length (files_of q ++ new)
          same-length = ap length files-are ∙ length-append (files_of q) came ∙ ap (λ n. length (files_of q) + n) (many-changed (linking s) (length q.files) new) ∙ sym (length-append (files_of q) new)

      -- and so are the linked files that came
      pub new-again : Rereads s (reread p)
      new-again = record {
        grows = record { names = λ name def is. is; sees = new-sees };
        file_names = λ name n is. is;
        syntaxes = λ n below. (read n).syntax;
        enums = λ name def is. ((read def.file).records (declaration_path def.path)).enums;
        ranges = λ name def is. ((read def.file).records (declaration_path def.path)).messages;
      }
