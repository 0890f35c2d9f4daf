-- What the files of a pool declare, and linked files behind them: the names that these enter, and how many of each kind there are.
use Rattle.std.proofs.Common.{◌≡◌, ℕ, ℤ, suc, ◌+◌, Option, List, [], ◌∷◌, ◌++◌, length, length-append, map, refl, ap, sym, ◌∙◌, arith}
use Rattle.std.proofs.lemmas.Grind.{flat_map-append}
use Rattle.std.proofs.lemmas.List.{length-map, map-append}
use Rattle.std.proofs.lemmas.List.Elements.{All-head, All-tail}
use Rattle.std.specs.List.{All}
use Rattle.pool_types.specs.Contents.{Contents, files_of}
use Rattle.name_tables.specs.Entries.{Entry}
use Rattle.name_resolution.specs.declared.filter.ResolveNameFilter.TheVariants.{FieldType}
use Rattle.proto_types.specs.declared.file.FileDescriptorProto.{FileDescriptorProto}
use Rattle.proto_types.specs.declared.records.field.FieldDescriptorProto.{FieldDescriptorProto}
use Rattle.proto_types.specs.Readers.{text_of}
use Rattle.record_walk.specs.declared.counts.Counts.{Counts}
use Rattle.record_walk.specs.Changed.{Changes, KeepNames, changed, changed_file, changed_files}
use Rattle.record_walk.specs.Counts.{no_counts, counted, counting, counts_in}
use Rattle.record_walk.specs.Declarations.{declarations, file_walk}
use Rattle.record_walk.specs.Protos.{Proto, of_file, of_message, of_field, of_oneof, of_service, of_method, of_enum, of_value, of_extension, as_file, as_message, as_enum, as_service, as_extension}
use Rattle.record_walk.specs.Shown.{Shown, of_kind, file_shown}
use Rattle.record_walk.specs.Walking.{within_file}
use Rattle.record_walk.proofs.Appended.{declarations-append}
use Rattle.record_walk.proofs.Changed.{counted-changed, declare-changed}
use Rattle.record_walk.proofs.Counted.{counted-append, counts_are}
use Rattle.record_walk.proofs.Paths.{one-file}
use Rattle.record_walk.proofs.Walks.{IsInside, within-all}
use Rattle.plain_data.specs.Each.{map_enumerated}
use Rattle.field_rules.specs.EnumItems.{enum_item}
use Rattle.reference_pass.specs.Items.{file_item, message_item, service_item, extension_item, made_of, file_items}
use Rattle.reference_pass.specs.Linked.{linking, linked_field, typed}
use Rattle.reference_pass.specs.Setting.{Setting, resolve}
use Rattle.reference_pass.proofs.Steps.{kind-append}
use Rattle.name_pass.specs.Names.{entries_of, entries, file_entries_of, file_entries}
use Rattle.pool_contents.proofs.Each.{each-map}
use Rattle.descriptor_pool.specs.Build.{with_items}

-- the names that the files of a pool enter
abbrev pub known_names : Contents → List Entry
known_names p = entries (declarations no_counts (files_of p))

-- and their own names
abbrev pub known_file_names : Contents → List (List ℕ × ℕ)
known_file_names p = file_entries (declarations no_counts (files_of p))

pub entries-append : (ds es : List Shown) → entries (ds ++ es) ≡ entries ds ++ entries es
entries-append ds es = flat_map-append entries_of ds es

-- linking keeps the names of fields
field-name : (s : Setting) (n : ℕ) (full_name : List ℕ) (f : FieldDescriptorProto) → text_of (linked_field s n full_name f).name ≡ text_of f.name
field-name s n full_name f =
    elim (text_of f.type_name) as (λ t. let g : FieldDescriptorProto = elim t [ [] ↦ f | _ ∷ _ ↦ typed (resolve s n full_name FieldType (text_of f.type_name)) f ] in text_of g.name ≡ text_of f.name)
    [ [] ↦ refl | _ ∷ _ ↦ refl ]

pub linking-keeps : (s : Setting) → KeepNames (linking s)
linking-keeps s = record { fields = field-name s; extensions = field-name s; methods = λ _ _ _. refl }

-- a changed declaration enters the names that it entered
entries-one : (c : Changes) (file : ℕ) (parent : Option ℕ) (index : ℕ) (path : List ℤ) (full_name : List ℕ) (p : Proto)
    → let d : Shown = record { file = file; parent = parent; index = index; path = path; full_name = full_name; proto = p } in entries_of (changed c d) ≡ entries_of d
entries-one c file parent index path full_name (of_file f) = refl
entries-one c file parent index path full_name (of_message m) = refl
entries-one c file parent index path full_name (of_field f) = refl
entries-one c file parent index path full_name (of_oneof o) = refl
entries-one c file parent index path full_name (of_service s) = refl
entries-one c file parent index path full_name (of_method m) = refl
entries-one c file parent index path full_name (of_enum e) = refl
entries-one c file parent index path full_name (of_value v) = refl
entries-one c file parent index path full_name (of_extension x) = refl

pub entries-changed : (c : Changes) (ds : List Shown) → entries (map (changed c) ds) ≡ entries ds
entries-changed c [] = refl
entries-changed c (d ∷ ds) = λ i. entries-one c d.file d.parent d.index d.path d.full_name d.proto i ++ entries-changed c ds i

file-entry-one : (c : Changes) (file : ℕ) (parent : Option ℕ) (index : ℕ) (path : List ℤ) (full_name : List ℕ) (p : Proto)
    → let d : Shown = record { file = file; parent = parent; index = index; path = path; full_name = full_name; proto = p } in file_entries_of (changed c d) ≡ file_entries_of d
file-entry-one c file parent index path full_name (of_file f) = refl
file-entry-one c file parent index path full_name (of_message m) = refl
file-entry-one c file parent index path full_name (of_field f) = refl
file-entry-one c file parent index path full_name (of_oneof o) = refl
file-entry-one c file parent index path full_name (of_service s) = refl
file-entry-one c file parent index path full_name (of_method m) = refl
file-entry-one c file parent index path full_name (of_enum e) = refl
file-entry-one c file parent index path full_name (of_value v) = refl
file-entry-one c file parent index path full_name (of_extension x) = refl

pub file-entries-changed : (c : Changes) (ds : List Shown) → file_entries (map (changed c) ds) ≡ file_entries ds
file-entries-changed c [] = refl
file-entries-changed c (d ∷ ds) = λ i. file-entry-one c d.file d.parent d.index d.path d.full_name d.proto i ++ file-entries-changed c ds i

-- no file is declared inside a file
none-inside-one : (file : ℕ) (parent : Option ℕ) (index : ℕ) (path : List ℤ) (full_name : List ℕ) (p : Proto) (ds : List Shown) → IsInside p
    → of_kind as_file (record { file = file; parent = parent; index = index; path = path; full_name = full_name; proto = p } ∷ ds) ≡ of_kind as_file ds
none-inside-one file parent index path full_name (of_file f) ds inside = absurd inside
none-inside-one file parent index path full_name (of_message m) ds inside = refl
none-inside-one file parent index path full_name (of_field f) ds inside = refl
none-inside-one file parent index path full_name (of_oneof o) ds inside = refl
none-inside-one file parent index path full_name (of_service s) ds inside = refl
none-inside-one file parent index path full_name (of_method m) ds inside = refl
none-inside-one file parent index path full_name (of_enum e) ds inside = refl
none-inside-one file parent index path full_name (of_value v) ds inside = refl
none-inside-one file parent index path full_name (of_extension x) ds inside = refl

none-inside : (ds : List Shown) → All (λ d. IsInside d.proto) ds → of_kind as_file ds ≡ []
none-inside [] all = refl
none-inside (d ∷ ds) all =
    none-inside-one d.file d.parent d.index d.path d.full_name d.proto ds (All-head (λ e. IsInside e.proto) d ds all)
    ∙ none-inside ds (All-tail (λ e. IsInside e.proto) d ds all)

-- what is made of files, each by its index
pub items-of-files : {Y : Type 0} (make : ℕ → FileDescriptorProto → Y) (base : Counts) (fs : List FileDescriptorProto)
    → made_of as_file (λ d f. make d.index f) (declarations base fs) ≡ map_enumerated make base.files fs
items-of-files make base [] = refl
items-of-files make base (f ∷ fs) =
    let inside = within_file base.files base f in
    let next = counted base (file_walk base f) in
    let rest = declarations next fs in
    let none = none-inside inside (within-all (λ d. IsInside d.proto) (λ _. Unit {0}) (λ here tag position index proto is _. is)
    (λ here tag position index proto _. tt) (λ here tag position index proto _. tt) base f tt) in
    ap (λ xs. map (λ e. make e.0.index e.1) ((file_shown [] base.files f, f) ∷ xs))
    (kind-append as_file inside rest ∙ ap (λ xs. xs ++ of_kind as_file rest) none)
    ∙ ap (λ ys. make base.files f ∷ ys) (items-of-files make next fs ∙ ap (λ n. map_enumerated make n fs) (one-file base f))

pub each-changed : (c : Changes) (index : ℕ) (fs : List FileDescriptorProto) → map_enumerated (changed_file c) index fs ≡ changed_files c index fs
each-changed c index [] = refl
each-changed c index (f ∷ fs) = ap (λ gs. changed_file c index f ∷ gs) (each-changed c (suc index) fs)

-- the items of files are the linked files
pub raw-items : (s : Setting) (base : Counts) (fs : List FileDescriptorProto)
    → map (λ f. f.raw) (file_items s (declarations base fs)) ≡ changed_files (linking s) base.files fs
raw-items s base fs =
    ap (map (λ f. f.raw)) (items-of-files (file_item s) base fs) ∙ each-map (λ f. f.raw) (file_item s) base.files fs ∙ each-changed (linking s) base.files fs

-- how many of each kind a list of declarations has
abbrev pub many : Counts → List Shown → Counts
many c ds = record {
  files = c.files + length (of_kind as_file ds);
  messages = c.messages + length (of_kind as_message ds);
  enums = c.enums + length (of_kind as_enum ds);
  services = c.services + length (of_kind as_service ds);
  extensions = c.extensions + length (of_kind as_extension ds);
}

many-one : (c : Counts) (file : ℕ) (parent : Option ℕ) (index : ℕ) (path : List ℤ) (full_name : List ℕ) (p : Proto) (ds : List Shown)
    → many (counting c p) ds ≡ many c (record { file = file; parent = parent; index = index; path = path; full_name = full_name; proto = p } ∷ ds)
many-one c file parent index path full_name (of_file f) ds = counts_are _ _ (omega arith) refl refl refl refl
many-one c file parent index path full_name (of_message m) ds = counts_are _ _ refl (omega arith) refl refl refl
many-one c file parent index path full_name (of_field f) ds = refl
many-one c file parent index path full_name (of_oneof o) ds = refl
many-one c file parent index path full_name (of_service s) ds = counts_are _ _ refl refl refl (omega arith) refl
many-one c file parent index path full_name (of_method m) ds = refl
many-one c file parent index path full_name (of_enum e) ds = counts_are _ _ refl refl (omega arith) refl refl
many-one c file parent index path full_name (of_value v) ds = refl
many-one c file parent index path full_name (of_extension x) ds = counts_are _ _ refl refl refl refl (omega arith)

pub counted-many : (c : Counts) (ds : List Shown) → counted c ds ≡ many c ds
counted-many c [] = counts_are _ _ (omega arith) (omega arith) (omega arith) (omega arith) (omega arith)
counted-many c (d ∷ ds) = counted-many (counting c d.proto) ds ∙ many-one c d.file d.parent d.index d.path d.full_name d.proto ds

longer : {X Y : Type 0} (had : List Y) (pick : Proto → Option X) (make : Shown → X → Y) (ds : List Shown)
    → length (had ++ made_of pick make ds) ≡ length had + length (of_kind pick ds)
longer had pick make ds = length-append had (made_of pick make ds) ∙ ap (λ n. length had + n) (length-map (of_kind pick ds) (λ e. make e.0 e.1))

-- the counts of contents with the items of declarations
pub counts-with : (p : Contents) (s : Setting) (ds : List Shown) → counts_in (with_items p s ds) ≡ counted (counts_in p) ds
counts-with p s ds =
    counts_are _ _
    (longer p.files as_file (λ d f. file_item s d.index f) ds)
    (longer p.messages as_message (message_item s) ds)
    (longer p.enums as_enum enum_item ds)
    (longer p.services as_service (service_item s) ds)
    (longer p.extensions as_extension (extension_item s) ds)
    ∙ sym (counted-many (counts_in p) ds)

-- contents whose counts are those of what their files declare, and new files
module _ (p : Contents) (fs : List FileDescriptorProto) (counts : counts_in p ≡ counted no_counts (declarations no_counts (files_of p))) where
  abbrev earlier : List Shown
  earlier = declarations no_counts (files_of p)

  abbrev new : List Shown
  new = declarations (counts_in p) fs

  pub declared-behind : (gs : List FileDescriptorProto) → declarations no_counts (files_of p ++ gs) ≡ earlier ++ declarations (counts_in p) gs
  declared-behind gs = declarations-append no_counts (files_of p) gs ∙ ap (λ c. earlier ++ declarations c gs) (sym counts)

  module _ (s : Setting) where
    pub files-linked : files_of (with_items p s new) ≡ files_of p ++ changed_files (linking s) (length p.files) fs
    files-linked = map-append (λ f. f.raw) p.files _ ∙ ap (λ gs. files_of p ++ gs) (raw-items s (counts_in p) fs)

    -- what the files declare once the new ones are linked
    pub declared-linked : declarations no_counts (files_of (with_items p s new)) ≡ earlier ++ map (changed (linking s)) new
    declared-linked =
        ap (declarations no_counts) files-linked ∙ declared-behind (changed_files (linking s) (length p.files) fs)
        ∙ ap (λ ds. earlier ++ ds) (declare-changed (linking s) (linking-keeps s) (counts_in p) fs)

    pub names-linked : known_names (with_items p s new) ≡ known_names p ++ entries new
    names-linked =
        ap entries declared-linked ∙ entries-append earlier (map (changed (linking s)) new)
        ∙ ap (λ es. known_names p ++ es) (entries-changed (linking s) new)

    pub file-names-linked : known_file_names (with_items p s new) ≡ known_file_names p ++ file_entries new
    file-names-linked =
        ap file_entries declared-linked ∙ flat_map-append file_entries_of earlier (map (changed (linking s)) new)
        ∙ ap (λ es. known_file_names p ++ es) (file-entries-changed (linking s) new)

    pub counts-linked : counts_in (with_items p s new) ≡ counted no_counts (declarations no_counts (files_of (with_items p s new)))
    counts-linked =
        counts-with p s new ∙ sym (counted-changed (linking s) (counts_in p) new)
        ∙ ap (λ c. counted c (map (changed (linking s)) new)) counts
        ∙ sym (counted-append no_counts earlier (map (changed (linking s)) new))
        ∙ ap (counted no_counts) (sym declared-linked)
