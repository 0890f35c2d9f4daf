-- The files in which declarations lie, and the names that these enter.
use Rattle.std.proofs.Common.{◌≡◌, ◌<◌, ◌≤◌, ◌+◌, ◌^◌, ℕ, ℤ, true, false, IsOk, cond, Option, None, Some, List, [], ◌∷◌, length, map, ap, subst, sym, ◌∙◌, arith}
use Rattle.std.specs.List.{All, AllByRecursion}
use Rattle.std.specs.Option.{IfSome, option_or}
use Rattle.std.specs.Str.{bytes_eq}
use Rattle.std.proofs.lemmas.List.Elements.{All-nil, All-append, recursion_from_All}
use Rattle.proto_types.specs.declared.file.FileDescriptorProto.{FileDescriptorProto}
use Rattle.name_tables.specs.Entries.{first_of, names, names_with}
use Rattle.name_tables.proofs.Entries.{get-with}
use Rattle.pool_types.specs.Contents.{ByText}
use Rattle.std.specs.FinMap as finite
use Rattle.record_walk.proofs.Room.{room-fits}
use Rattle.record_walk.proofs.Counted.{counted-append}
use Rattle.name_tables.specs.NameTables.{AllBefore, FileNamesBefore}
use Rattle.name_tables.proofs.Names.{get-lookup}
use Rattle.proto_types.specs.Readers.{text_of}
use Rattle.record_walk.specs.declared.counts.Counts.{Counts}
use Rattle.record_walk.specs.Counts.{counted, lists_fit}
use Rattle.record_walk.specs.Fits.{counts_with}
use Rattle.record_walk.specs.FullNames.{CanBeRead}
use Rattle.record_walk.proofs.FullNames.{declarations-read}
use Rattle.record_walk.specs.Declarations.{declarations, file_walk}
use Rattle.record_walk.specs.Protos.{Proto, of_file, of_message, of_field, of_oneof, of_service, of_method, of_enum, of_value, of_extension}
use Rattle.record_walk.specs.Shown.{Shown}
use Rattle.record_walk.proofs.Paths.{one-file}
use Rattle.record_walk.proofs.Walks.{file-all}
use Rattle.name_pass.specs.Names.{entries, entries_of, file_entries, file_entries_of, package_entry, packages}
use Rattle.descriptor_pool.proofs.Resolved.{all-append}

-- declarations of files lie in these
abbrev LiesIn : ℕ → ℕ → ℕ → Type 0
LiesIn from end file = (from ≤ file) × (file < end)

all-lie : (from end : ℕ) (base : Counts) (fs : List FileDescriptorProto) → from ≤ base.files → base.files + length fs ≤ end
    → All (λ d. LiesIn from end d.file) (declarations base fs)
all-lie from end base [] first last = All-nil (λ d. LiesIn from end d.file)
all-lie from end base (f ∷ fs) first last =
    let here : LiesIn from end base.files = (first, omega (arith, last)) in
    let walk = file_walk base f in
    let one = one-file base f in
    All-append (λ d. LiesIn from end d.file) walk (declarations (counted base walk) fs)
    (file-all (λ d. LiesIn from end d.file) (λ s. LiesIn from end s.file) (λ _ _ _ _ _ _ q. q) (λ _ _ _ _ _ q. q) (λ _ _ _ _ _ q. q) base f here here)
    (all-lie from end (counted base walk) fs (omega (arith, first, one)) (omega (arith, last, one)))

both-of : (from end : ℕ) (ds : List Shown) → AllByRecursion (λ d. LiesIn from end d.file) ds
    → AllByRecursion (λ d. from ≤ d.file) ds × AllByRecursion (λ d. d.file < end) ds
both-of from end [] all = (tt, tt)
both-of from end (d ∷ ds) all = let rest = both-of from end ds all.1 in ((all.0.0, rest.0), (all.0.1, rest.1))

pub lie-between : (base : Counts) (fs : List FileDescriptorProto)
    → AllByRecursion (λ d. base.files ≤ d.file) (declarations base fs) × AllByRecursion (λ d. d.file < base.files + length fs) (declarations base fs)
lie-between base fs =
    let end = base.files + length fs in
    let ds = declarations base fs in
    both-of base.files end ds (recursion_from_All (λ d. LiesIn base.files end d.file) ds (all-lie base.files end base fs (omega arith) (omega arith)))

pub lie-from : (base : Counts) (fs : List FileDescriptorProto) → AllByRecursion (λ d. base.files ≤ d.file) (declarations base fs)
lie-from base fs = (lie-between base fs).0

-- what a name means that entries have has what holds of each entry
pub first-has : {X : Type 0} (P : X → Type 0) (es : List (List ℕ × X)) (name : List ℕ) → AllByRecursion (λ e. P e.1) es → IfSome (first_of es name) P
first-has P [] name all = tt
first-has P (e ∷ es) name all =
    elim (bytes_eq name e.0) as (λ b. IfSome (cond b (Some e.1) (first_of es name)) P) [ true ↦ all.0 | false ↦ first-has P es name all.1 ]

package-entries-lie : (end file : ℕ) (names : List (List ℕ)) → file < end → AllByRecursion (λ e. e.1.file < end) (map (package_entry file) names)
package-entries-lie end file [] below = tt
package-entries-lie end file (name ∷ names) below = (below, package-entries-lie end file names below)

entries-lie-of : (end file : ℕ) (parent : Option ℕ) (index : ℕ) (path : List ℤ) (full_name : List ℕ) (p : Proto) → file < end
    → let d : Shown = record { file = file; parent = parent; index = index; path = path; full_name = full_name; proto = p } in
    AllByRecursion (λ e. e.1.file < end) (entries_of d)
entries-lie-of end file parent index path full_name (of_file f) below = package-entries-lie end file (packages (text_of f.«package»)) below
entries-lie-of end file parent index path full_name (of_message m) below = (below, tt)
entries-lie-of end file parent index path full_name (of_field f) below = (below, tt)
entries-lie-of end file parent index path full_name (of_oneof o) below = (below, tt)
entries-lie-of end file parent index path full_name (of_service s) below = (below, tt)
entries-lie-of end file parent index path full_name (of_method m) below = (below, tt)
entries-lie-of end file parent index path full_name (of_enum e) below = (below, tt)
entries-lie-of end file parent index path full_name (of_value v) below = (below, tt)
entries-lie-of end file parent index path full_name (of_extension x) below = (below, tt)

entries-lie : (end : ℕ) (ds : List Shown) → AllByRecursion (λ d. d.file < end) ds → AllByRecursion (λ e. e.1.file < end) (entries ds)
entries-lie end [] all = tt
entries-lie end (d ∷ ds) all =
    all-append (λ e. e.1.file < end) (entries_of d) (entries ds) (entries-lie-of end d.file d.parent d.index d.path d.full_name d.proto all.0) (entries-lie end ds all.1)

file-lies-of : (end file : ℕ) (parent : Option ℕ) (index : ℕ) (path : List ℤ) (full_name : List ℕ) (p : Proto) → file < end
    → let d : Shown = record { file = file; parent = parent; index = index; path = path; full_name = full_name; proto = p } in
    AllByRecursion (λ e. e.1 < end) (file_entries_of d)
file-lies-of end file parent index path full_name (of_file f) below = (below, tt)
file-lies-of end file parent index path full_name (of_message m) below = tt
file-lies-of end file parent index path full_name (of_field f) below = tt
file-lies-of end file parent index path full_name (of_oneof o) below = tt
file-lies-of end file parent index path full_name (of_service s) below = tt
file-lies-of end file parent index path full_name (of_method m) below = tt
file-lies-of end file parent index path full_name (of_enum e) below = tt
file-lies-of end file parent index path full_name (of_value v) below = tt
file-lies-of end file parent index path full_name (of_extension x) below = tt

files-lie : (end : ℕ) (ds : List Shown) → AllByRecursion (λ d. d.file < end) ds → AllByRecursion (λ e. e.1 < end) (file_entries ds)
files-lie end [] all = tt
files-lie end (d ∷ ds) all =
    all-append (λ e. e.1 < end) (file_entries_of d) (file_entries ds) (file-lies-of end d.file d.parent d.index d.path d.full_name d.proto all.0) (files-lie end ds all.1)

-- the file names that files enter are of these
pub file-names-before : (base : Counts) (fs : List FileDescriptorProto) → FileNamesBefore (base.files + length fs) (names (file_entries (declarations base fs)))
file-names-before base fs name =
    let end = base.files + length fs in
    let es = file_entries (declarations base fs) in
    subst (λ found. IfSome found (λ file. file < end)) (sym (get-lookup es name))
    (first-has (λ file. file < end) es name (files-lie end (declarations base fs) (lie-between base fs).1))

-- declarations of files that fit can be entered behind a pool with that many files
pub declarations-entered : (base : Counts) (fs : List FileDescriptorProto) (n : ℕ) → n ≡ base.files → IsOk (counts_with base fs)
    → AllByRecursion (λ d. (n ≤ d.file) × (lists_fit d.proto ≡ true)) (declarations base fs)
declarations-entered base fs n is ok = both (declarations base fs) (subst (λ m. AllByRecursion (λ d. m ≤ d.file) (declarations base fs)) (sym is) (lie-from base fs)) (declarations-read base fs ok)
  where
    both : (ds : List Shown) → AllByRecursion (λ d. n ≤ d.file) ds → CanBeRead ds → AllByRecursion (λ d. (n ≤ d.file) × (lists_fit d.proto ≡ true)) ds
    both [] lie read = tt
    both (d ∷ ds) lie read = ((lie.0, read.0.1), both ds lie.1 read.1)

-- the names that files enter mean something in these
pub names-before : (base : Counts) (fs : List FileDescriptorProto) → AllBefore (base.files + length fs) (names (entries (declarations base fs)))
names-before base fs name =
    let end = base.files + length fs in
    let es = entries (declarations base fs) in
    subst (λ found. IfSome found (λ d. d.file < end)) (sym (get-lookup es name))
    (first-has (λ d. d.file < end) es name (entries-lie end (declarations base fs) (lie-between base fs).1))

-- and so do known names of earlier files, and those that files enter
pub names-behind-before : (base : Counts) (fs : List FileDescriptorProto) (known : ByText ℕ) → FileNamesBefore base.files known
    → FileNamesBefore (base.files + length fs) (names_with known (file_entries (declarations base fs)))
names-behind-before base fs known before name =
    let end = base.files + length fs in
    let es = file_entries (declarations base fs) in
    subst (λ found. IfSome found (λ file. file < end)) (sym (get-with known es name))
    (either (finite.get known name) (first_of es name) (before name) (first-has (λ file. file < end) es name (files-lie end (declarations base fs) (lie-between base fs).1)))
  where
    either : (first second : Option ℕ) → IfSome first (λ file. file < base.files) → IfSome second (λ file. file < base.files + length fs)
        → IfSome (option_or first second) (λ file. file < base.files + length fs)
    either None second earlier later = later
    either (Some n) second earlier later = omega (arith, earlier)

-- there are as many files as those before, and these
pub counted-files : (base : Counts) (fs : List FileDescriptorProto) → (counted base (declarations base fs)).files ≡ base.files + length fs
counted-files base [] = omega arith
counted-files base (f ∷ fs) =
    let walk = file_walk base f in
    let next = counted base walk in
    let rest = ap (λ (c : Counts). c.files) (counted-append base walk (declarations next fs)) ∙ counted-files next fs in
    let one = one-file base f in
    omega (arith, rest, one)

pub room-files : (base : Counts) (fs : List FileDescriptorProto) → IsOk (counts_with base fs) → base.files + length fs < 2 ^ 32
room-files base fs ok = let many = counted-files base fs in let room = (room-fits base fs ok).within.files in omega (arith, many, room)
