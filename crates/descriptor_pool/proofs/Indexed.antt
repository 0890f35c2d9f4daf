-- The indexes of messages that names mean.
use Rattle.std.proofs.Common.{◌≡◌, ◌≤◌, ◌<◌, ℕ, ℤ, Option, List, [], ◌∷◌, ◌++◌, length, map, refl, ap, subst, sym, ◌∙◌, append_assoc, arith}
use Rattle.std.specs.FinMap as finite
use Rattle.std.specs.List.{AllByRecursion}
use Rattle.std.specs.Option.{IfSome}
use Rattle.proto_types.specs.declared.file.FileDescriptorProto.{FileDescriptorProto}
use Rattle.proto_types.specs.Readers.{text_of}
use Rattle.pool_types.specs.Contents.{Contents, files_of}
use Rattle.pool_types.specs.declared.contents.definition.Definition.{Definition}
use Rattle.record_walk.specs.declared.counts.Counts.{Counts}
use Rattle.record_walk.specs.Counts.{no_counts, counted, counting}
use Rattle.record_walk.specs.Declarations.{declarations}
use Rattle.record_walk.specs.Indexes.{HasIndex}
use Rattle.record_walk.specs.Protos.{Proto, of_file, of_message, of_field, of_oneof, of_service, of_method, of_enum, of_value, of_extension}
use Rattle.record_walk.specs.Shown.{Shown}
use Rattle.record_walk.proofs.Counted.{counted-append, counted-plus}
use Rattle.record_walk.proofs.Indexes.{indexes-count-on}
use Rattle.name_tables.specs.Entries.{names}
use Rattle.name_tables.proofs.Names.{get-lookup}
use Rattle.reference_pass.specs.References.{message_index}
use Rattle.name_pass.specs.Names.{entries, entries_of, package_entry, packages}
use Rattle.descriptor_pool.proofs.Files.{first-has}
use Rattle.descriptor_pool.proofs.Resolved.{all-append}
use Rattle.descriptor_pool.proofs.Sound.{Known}

-- if it is a message, its index is below an end
abbrev pub MeansBefore : ℕ → Definition → Type 0
MeansBefore end def = IfSome (message_index def.kind) (λ i. i < end)

abbrev IndexBefore : ℕ → Shown → Type 0
IndexBefore end d = elim d.proto [ of_message _ ↦ d.index < end | _ ↦ Unit {0} ]

-- as many messages are counted, or more
no-fewer : (c : Counts) (ds : List Shown) → c.messages ≤ (counted c ds).messages
no-fewer c ds = let sum = ap (λ (n : Counts). n.messages) (counted-plus c ds) in omega (arith, sum)

-- a declaration with its index, of some that are counted
one-before : (before : Counts) (rest : List Shown) (file : ℕ) (parent : Option ℕ) (index : ℕ) (path : List ℤ) (full_name : List ℕ) (p : Proto)
    → let d : Shown = record { file = file; parent = parent; index = index; path = path; full_name = full_name; proto = p } in
    HasIndex before d p → IndexBefore (counted before (d ∷ rest)).messages d
one-before before rest file parent index path full_name (of_message m) has =
    let more = no-fewer (counting before (of_message m)) rest in omega (arith, has, more)
one-before before rest file parent index path full_name (of_file f) has = tt
one-before before rest file parent index path full_name (of_field f) has = tt
one-before before rest file parent index path full_name (of_oneof o) has = tt
one-before before rest file parent index path full_name (of_service v) has = tt
one-before before rest file parent index path full_name (of_method m) has = tt
one-before before rest file parent index path full_name (of_enum e) has = tt
one-before before rest file parent index path full_name (of_value v) has = tt
one-before before rest file parent index path full_name (of_extension x) has = tt

module _ (base : Counts) (fs : List FileDescriptorProto) where
  abbrev all : List Shown
  all = declarations base fs

  abbrev many : ℕ
  many = (counted base all).messages

  behind-front : (front rest : List Shown) → all ≡ front ++ rest → AllByRecursion (IndexBefore many) rest
  behind-front front [] parted = tt
  behind-front front (d ∷ rest) parted =
      let whole : (counted (counted base front) (d ∷ rest)).messages ≡ many =
      ap (λ (c : Counts). c.messages) (sym (ap (counted base) parted ∙ counted-append base front (d ∷ rest))) in (
        subst (λ n. IndexBefore n d) whole
            (one-before (counted base front) rest d.file d.parent d.index d.path d.full_name d.proto (indexes-count-on base fs front d rest parted)),
        behind-front (front ++ d ∷ []) rest (parted ∙ sym (append_assoc front (d ∷ []) rest)),
      )

  indexes-before : AllByRecursion (IndexBefore many) all
  indexes-before = behind-front [] all refl

packages-mean : (end file : ℕ) (names : List (List ℕ)) → AllByRecursion (λ e. MeansBefore end e.1) (map (package_entry file) names)
packages-mean end file [] = tt
packages-mean end file (name ∷ names) = (tt, packages-mean end file names)

entries-mean-of : (end file : ℕ) (parent : Option ℕ) (index : ℕ) (path : List ℤ) (full_name : List ℕ) (p : Proto)
    → let d : Shown = record { file = file; parent = parent; index = index; path = path; full_name = full_name; proto = p } in
    IndexBefore end d → AllByRecursion (λ e. MeansBefore end e.1) (entries_of d)
entries-mean-of end file parent index path full_name (of_file f) before = packages-mean end file (packages (text_of f.«package»))
entries-mean-of end file parent index path full_name (of_message m) before = (before, tt)
entries-mean-of end file parent index path full_name (of_field f) before = (tt, tt)
entries-mean-of end file parent index path full_name (of_oneof o) before = (tt, tt)
entries-mean-of end file parent index path full_name (of_service v) before = (tt, tt)
entries-mean-of end file parent index path full_name (of_method m) before = (tt, tt)
entries-mean-of end file parent index path full_name (of_enum e) before = (tt, tt)
entries-mean-of end file parent index path full_name (of_value v) before = (tt, tt)
entries-mean-of end file parent index path full_name (of_extension x) before = (tt, tt)

entries-mean : (end : ℕ) (ds : List Shown) → AllByRecursion (IndexBefore end) ds → AllByRecursion (λ e. MeansBefore end e.1) (entries ds)
entries-mean end [] before = tt
entries-mean end (d ∷ ds) before =
    all-append (λ e. MeansBefore end e.1) (entries_of d) (entries ds)
    (entries-mean-of end d.file d.parent d.index d.path d.full_name d.proto before.0) (entries-mean end ds before.1)

-- each message that the names of a pool mean is one of its messages
pub messages-lie : (p : Contents) → Known p → (name : List ℕ) → IfSome (finite.get p.names name) (MeansBefore (length p.messages))
messages-lie p known name =
    let ds = declarations no_counts (files_of p) in
    let many : (counted no_counts ds).messages ≡ length p.messages = ap (λ (c : Counts). c.messages) (sym known.counts_are) in
    subst (λ n. IfSome (finite.get p.names name) (MeansBefore n)) many
    (subst (λ known. IfSome (finite.get known name) (MeansBefore (counted no_counts ds).messages)) (sym known.names_are)
    (subst (λ found. IfSome found (MeansBefore (counted no_counts ds).messages)) (sym (get-lookup (entries ds) name))
    (first-has (MeansBefore (counted no_counts ds).messages) (entries ds) name (entries-mean (counted no_counts ds).messages ds (indexes-before no_counts (files_of p))))))
