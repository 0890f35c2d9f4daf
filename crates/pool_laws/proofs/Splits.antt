-- A batch that is accepted may be linked in two parts.
use Rattle.std.proofs.Common.{◌≡◌, ◌&&◌, ℕ, Bool, true, false, cond, not, is_some, IsOk, Option, None, Some, List, [], ◌∷◌, ◌++◌, append_assoc, refl, ap, subst, sym, ◌∙◌, arith}
use Rattle.std.proofs.lemmas.Bool.Decides.{nat_tests}
use Rattle.std.proofs.lemmas.List.Elements.{filter-append}
use Rattle.std.specs.FinMap as finite
use Rattle.std.specs.List.{AllByRecursion, list_all}
use Rattle.std.specs.Option.{option_or}
use Rattle.std.specs.declared.result.Result.{Result}
use Rattle.std.specs.declared.result.Result.TheVariants.{Err}
use Rattle.plain_data.specs.Lists.{after_each, only_if}
use Rattle.proto_types.specs.Readers.{text_of}
use Rattle.proto_types.specs.declared.file.FileDescriptorProto.{FileDescriptorProto}
use Rattle.pool_faults.specs.declared.fault.DescriptorErrorKind.{DescriptorErrorKind}
use Rattle.pool_faults.specs.declared.fault.DescriptorErrorKind.TheVariants as fault
use Rattle.pool_types.specs.Contents.{Contents, files_of}
use Rattle.name_tables.specs.Entries.{first_of}
use Rattle.name_tables.proofs.Entries.{get-with}
use Rattle.record_walk.specs.declared.counts.Counts.{Counts}
use Rattle.record_walk.specs.declared.counts.CountKind.{CountKind}
use Rattle.record_walk.specs.declared.counts.CountKind.TheVariants.{ListTooLong}
use Rattle.record_walk.specs.Counts.{added_to, counted, counts_in, counts_of, lists_fit, no_counts, plus, within_limit}
use Rattle.record_walk.specs.Declarations.{declarations, file_walk}
use Rattle.record_walk.specs.Fits.{counts_with}
use Rattle.record_walk.specs.Shown.{Shown, file_shown}
use Rattle.record_walk.specs.Totals.{tally}
use Rattle.record_walk.specs.Walking.{Room, WithinLimits, within_file}
use Rattle.record_walk.proofs.Counted.{counted-append, counted-plus}
use Rattle.record_walk.proofs.Room.{room-fits}
use Rattle.record_walk.proofs.Tallies.{declarations-tally}
use Rattle.name_pass.specs.Syntax.{syntax_faults}
use Rattle.pool_laws.proofs.FirstPass.{holder-more}
use Rattle.reference_pass.proofs.Unbroken.{both-empty}
use Rattle.name_pass.specs.Names.{entries, entries_of, file_entries, file_entries_of}
use Rattle.name_pass.specs.FirstPass.{clashes, file_faults, file_name_faults, first_faults, holder, shape_faults}
use Rattle.descriptor_pool.specs.Build.{with_batch, name_faults, reference_faults}
use Rattle.descriptor_pool.specs.Invariant.{IsPool}
use Rattle.descriptor_pool.specs.Pool.{Batch, has_file, link, new_files}
use Rattle.descriptor_pool.proofs.Extendees.{made-whole}
use Rattle.descriptor_pool.proofs.Sound.{made-sound}
use Rattle.std.proofs.lemmas.Grind.{flat_map-append}
use Rattle.pool_laws.specs.Laws.{ArePlain, Splits}
use Rattle.pool_laws.proofs.Front as front_part
use Rattle.pool_laws.proofs.Joined.{linked-joined}
use Rattle.pool_laws.proofs.Parts.{declared-both, earlier, later, whole}
use Rattle.pool_laws.proofs.Passes.{after-parts}
use Rattle.pool_laws.proofs.Relinked.{made-relinked}
use Rattle.pool_laws.proofs.Rest as rest_part

-- a file that breaks nothing has a name that is new
none-held : {X : Type 0} (held : Option X) (f : DescriptorErrorKind) → only_if (is_some held) f ≡ [] → is_some held ≡ false
none-held None f none = refl
none-held (Some x) f none = absurd (cc)

none-before : {X : Type 0} (a b : Option X) → is_some (option_or a b) ≡ false → is_some a ≡ false
none-before None b none = refl
none-before (Some x) b none = none

some-before : {X : Type 0} (a b : Option X) → is_some a ≡ true → is_some (option_or a b) ≡ true
some-before None b some = absurd (cc)
some-before (Some x) b some = refl

-- the names of files that break nothing are new, to known ones and to those of earlier declarations
module _ (files : List FileDescriptorProto) (p : Contents) (earlier : List Shown) where
  abbrev New : FileDescriptorProto → Type 0
  New f = is_some (holder p.file_names (file_entries earlier) (text_of f.name)) ≡ false

  names-new : (base : Counts) (before : List Shown)
      → ((name : List ℕ) → is_some (holder p.file_names (file_entries before) name) ≡ false → is_some (holder p.file_names (file_entries earlier) name) ≡ false)
      → (fs : List FileDescriptorProto) → after_each (first_faults files p) before (declarations base fs) ≡ [] → AllByRecursion New fs
  names-new base before fewer [] none = tt
  names-new base before fewer (f ∷ fs) none =
      let walk = file_walk base f in
      let next = counted base walk in
      let d = file_shown [] base.files f in
      let parts = after-parts (first_faults files p) before walk (declarations next fs) none in
      let own = both-empty (first_faults files p before d) (after_each (first_faults files p) (before ++ d ∷ []) (within_file base.files base f)) parts.0 in
      let file = file_faults files p.file_names (file_entries before) d in
      let clash = clashes files p.names (entries before) (entries_of d) in
      let told = both-empty file clash (both-empty (file ++ clash) (shape_faults files d) own.0).0 in
      let named = both-empty (syntax_faults files base.files f) (file_name_faults (holder p.file_names (file_entries before) (text_of f.name)) (text_of f.name)) told.0 in
      let more : (name : List ℕ) → is_some (holder p.file_names (file_entries (before ++ walk)) name) ≡ false → is_some (holder p.file_names (file_entries earlier) name) ≡ false =
      λ name held. fewer name (none-before (holder p.file_names (file_entries before) name) (first_of (file_entries walk) name)
      (sym (ap is_some (ap (λ es. holder p.file_names es name) (flat_map-append file_entries_of before walk) ∙ holder-more p.file_names (file_entries before) (file_entries walk) name)) ∙ held)) in (
        fewer (text_of f.name) (none-held (holder p.file_names (file_entries before) (text_of f.name)) (fault.DuplicateFileName (text_of f.name)) named.1),
        names-new next (before ++ walk) more fs parts.1,
      )

-- files that are new to a pool are new to it with others, where these have other names
module _ (p q : Contents) (stays : (name : List ℕ) → has_file p name ≡ true → has_file q name ≡ true) where
  still-new : (fs : List FileDescriptorProto) → AllByRecursion (λ f. has_file q (text_of f.name) ≡ false) (new_files p fs) → new_files q fs ≡ new_files p fs
  still-new [] = λ all. refl
  still-new (f ∷ fs) =
      let name = text_of f.name in
      elim (has_file p name) as (λ b. has_file p name ≡ b → AllByRecursion (λ f. has_file q (text_of f.name) ≡ false) (cond (not b) (f ∷ new_files p fs) (new_files p fs))
      → cond (not (has_file q name)) (f ∷ new_files q fs) (new_files q fs) ≡ cond (not b) (f ∷ new_files p fs) (new_files p fs)) [
        | true ↦ λ known all. ap (λ b. cond (not b) (f ∷ new_files q fs) (new_files q fs)) (stays name known) ∙ still-new fs all
        | false ↦ λ _ all. ap (λ b. cond (not b) (f ∷ new_files q fs) (new_files q fs)) all.0 ∙ ap (λ gs. f ∷ gs) (still-new fs all.1)
      ] refl

-- counts
all-parts : {X : Type 0} (test : X → Bool) (xs ys : List X) → list_all test (xs ++ ys) ≡ true → (list_all test xs ≡ true) × (list_all test ys ≡ true)
all-parts test [] ys = λ is. (refl, is)
all-parts test (x ∷ xs) ys =
    elim (test x) as (λ b. (b && list_all test (xs ++ ys)) ≡ true → ((b && list_all test xs) ≡ true) × (list_all test ys ≡ true))
    [ true ↦ λ is. all-parts test xs ys is | false ↦ λ is. absurd (cc) ]

fit-by : (base c : Counts) (short : Bool) → short ≡ true → WithinLimits (plus base c) → IsOk (added_to base (cond short (within_limit c) (Err ListTooLong)))
fit-by base c true is within = grind (arith, nat_tests, within.files, within.messages, within.enums, within.services, within.extensions)
fit-by base c false is within = absurd (cc)

-- counts that a pool can hold, or what there is too much of
abbrev pub within-tally : Option Counts → Result Counts CountKind
within-tally None = Err ListTooLong
within-tally (Some c) = within_limit c

pub counts-tally : (ds : List Shown) → counts_of ds ≡ within-tally (tally ds)
counts-tally ds = elim (list_all (λ d. lists_fit d.proto) ds) as (λ b. cond b (within_limit (counted no_counts ds)) (Err ListTooLong) ≡ within-tally (cond b (Some (counted no_counts ds)) None))
    [ true ↦ refl | false ↦ refl ]

-- where there is room counts fit
fits-room : (base : Counts) (fs : List FileDescriptorProto) → Room base (declarations base fs) → IsOk (counts_with base fs)
fits-room base fs room =
    let ds = declarations base fs in
    let same : counts_of ds ≡ counts_of (declarations no_counts fs) =
    counts-tally ds ∙ ap within-tally (declarations-tally base fs ∙ sym (declarations-tally no_counts fs)) ∙ sym (counts-tally (declarations no_counts fs)) in
    subst (λ r. IsOk (added_to base r)) same
    (fit-by base (counted no_counts ds) (list_all (λ d. lists_fit d.proto) ds) room.short (subst WithinLimits (counted-plus base ds) room.within))

room-parts : (base : Counts) (ds es : List Shown) → Room base (ds ++ es) → Room base ds × Room (counted base ds) es
room-parts base ds es room =
    let short = all-parts (λ (d : Shown). lists_fit d.proto) ds es room.short in
    let after : WithinLimits (counted (counted base ds) es) = subst WithinLimits (counted-append base ds es) room.within in
    let sum : WithinLimits (plus (counted base ds) (counted no_counts es)) = subst WithinLimits (counted-plus (counted base ds) es) after in (
      record {
        short = short.0;
        within = record {
          files = omega (arith, sum.files);
          messages = omega (arith, sum.messages);
          enums = omega (arith, sum.enums);
          services = omega (arith, sum.services);
          extensions = omega (arith, sum.extensions);
        };
      },
      record { short = short.1; within = after },
    )

-- the law
pub splits : (p : Contents) → IsPool p → (front back : Batch) → Splits p front back
splits p pool front back plain closed accepts =
    let entered = (made-sound p pool.made).known in
    let again = made-relinked p pool.made in
    let fs = new_files p front in
    let gs = new_files p back in
    let q = link p front in
    let both : new_files p (front ++ back) ≡ fs ++ gs = filter-append (λ f. not (has_file p (text_of f.name))) front back in
    let known = front_part.each-known p fs fs closed in
    let alone = front_part.plain-front no_counts (files_of p ++ fs) gs
    (subst (ArePlain no_counts) (ap (λ new. files_of p ++ new) both ∙ sym (append_assoc (files_of p) fs gs)) plain) in
    let names = sym (ap (name_faults p) both) ∙ accepts.0 in
    let references = sym (ap (reference_faults p) both) ∙ accepts.1 in
    let first = earlier p entered again fs gs known in
    let second = later p entered again fs gs known in
    let faults = first_faults (whole p entered again fs gs known).files p in
    let parts = after-parts faults [] first second (sym (ap (after_each faults []) (declared-both p entered again fs gs known)) ∙ names) in
    let is_new = names-new (whole p entered again fs gs known).files p first (counted (counts_in p) first) first (λ name held. held) gs parts.1 in
    let same : new_files q back ≡ gs =
    still-new p q (λ name there. ap is_some (get-with p.file_names (file_entries first) name) ∙ some-before (finite.get p.file_names name) (first_of (file_entries first) name) there) back
    (held-as q gs is_new (λ name. ap is_some (get-with p.file_names (file_entries first) name))) in (
      (front_part.names-fine p entered again fs gs known alone names, front_part.references-fine p entered again fs gs known alone references),
      (ap (name_faults q) same ∙ rest_part.names-fine p entered again fs gs known names, ap (reference_faults q) same ∙ rest_part.references-fine p entered again fs gs known (front_part.extensions-same p entered again fs gs known alone references) references),
      ap (with_batch q) same ∙ linked-joined p entered again fs gs known alone references (made-whole p pool.made) ∙ ap (with_batch p) (sym both),
      λ fits.
          let room = room-fits (counts_in p) (fs ++ gs) (subst (λ new. IsOk (counts_with (counts_in p) new)) both fits) in
          let rooms = room-parts (counts_in p) first second (subst (Room (counts_in p)) (declared-both p entered again fs gs known) room) in (
            fits-room (counts_in p) fs rooms.0,
            subst (λ new. IsOk (counts_with (counts_in q) new)) (sym same)
                (subst (λ base. IsOk (counts_with base gs)) (sym (rest_part.counts-same p entered again fs gs known)) (fits-room (counted (counts_in p) first) gs rooms.1)),
          ),
    )
  where
    held-as : (q : Contents) (fs : List FileDescriptorProto) {holds : List ℕ → Bool} → AllByRecursion (λ f. holds (text_of f.name) ≡ false) fs
        → ((name : List ℕ) → has_file q name ≡ holds name) → AllByRecursion (λ f. has_file q (text_of f.name) ≡ false) fs
    held-as q [] all is = tt
    held-as q (f ∷ fs) all is = (is (text_of f.name) ∙ all.0, held-as q fs all.1 is)
