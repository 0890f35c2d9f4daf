-- What is true of all contents that are made: their names, their counts, and their references.
use Rattle.std.proofs.Common.{Bool, true, false, ◌&&◌, cond, IsOk, arith, ◌≡◌, ℕ, Option, None, Some, IsSome, List, [], ◌∷◌, ◌++◌, ◌+◌, length, map, refl, ap, subst, sym, ◌∙◌}
use Rattle.std.proofs.lemmas.List.{length-map}
use Rattle.std.specs.FinMap as finite
use Rattle.std.specs.List.{AllByRecursion, flat_map, list_all}
use Rattle.std.proofs.lemmas.Bool.Decides.{nat_tests}
use Rattle.std.specs.declared.result.Result.TheVariants.{Err}
use Rattle.record_walk.specs.declared.counts.Counts.{Counts}
use Rattle.record_walk.specs.declared.counts.CountKind.TheVariants.{ListTooLong}
use Rattle.proto_types.specs.declared.file.FileDescriptorProto.{FileDescriptorProto}
use Rattle.record_walk.specs.Fits.{counts_with}
use Rattle.record_walk.specs.Walking.{WithinLimits}
use Rattle.record_walk.specs.Shown.{Shown}
use Rattle.record_walk.proofs.Changed.{all-fit-changed}
use Rattle.record_walk.proofs.Listings.{first-true, second-true}
use Rattle.record_walk.proofs.Room.{room-fits}
use Rattle.std.specs.Option.{option_or}
use Rattle.pool_types.specs.declared.contents.definition.Definition.{Definition}
use Rattle.pool_types.specs.Contents.{ByText, Contents, no_contents, files_of}
use Rattle.record_walk.specs.Changed.{changed}
use Rattle.record_walk.specs.Counts.{no_counts, counted, counts_in, lists_fit, added_to, within_limit}
use Rattle.record_walk.specs.Declarations.{declarations}
use Rattle.name_tables.specs.Entries.{Entry, first_of, names, names_with}
use Rattle.name_tables.specs.NameTables.{AllBefore, FileNamesBefore}
use Rattle.name_tables.proofs.Entries.{get-with, with-names}
use Rattle.reference_pass.specs.Linked.{linking}
use Rattle.record_walk.specs.Short.{ShortFiles}
use Rattle.name_pass.specs.Names.{entries, file_entries}
use Rattle.record_lists.specs.Reference.{Reference, references_in}
use Rattle.descriptor_pool.specs.Invariant.{IsPool}
use Rattle.pool_contents.specs.Inner.{NamesLieIn}
use Rattle.descriptor_pool.specs.Pool.{Batch, Made, empty, linked_to, Fits, new_files, faults_of_references, link}
use Rattle.descriptor_pool.specs.Build.{declared_with, with_batch, setting_with, with_items, with_names}
use Rattle.descriptor_pool.specs.References.{AllResolved}
use Rattle.descriptor_pool.proofs.Declared.{known_names, known_file_names, declared-behind, declared-linked, names-linked, file-names-linked, counts-linked}
use Rattle.descriptor_pool.proofs.Files.{names-before, file-names-before}
use Rattle.descriptor_pool.proofs.Listed.{counts-extended}
use Rattle.descriptor_pool.proofs.Resolved.{Names, AllNamed, named-append, linked-resolved}

some-first : (a b : Option Definition) → IsSome a → IsSome (option_or a b)
some-first None b has = absurd (cc)
some-first (Some def) b has = refl

-- a name that is known is known behind further entries
named-behind : (known : ByText Definition) (more : List Entry) (name : List ℕ) → IsSome (finite.get known name) → IsSome (finite.get (names_with known more) name)
named-behind known more name has = subst IsSome (sym (get-with known more name)) (some-first (finite.get known name) (first_of more name) has)

all-behind : (known : ByText Definition) (more : List Entry) (rs : List Reference) → AllByRecursion (Names known) rs → AllByRecursion (Names (names_with known more)) rs
all-behind known more [] all = tt
all-behind known more (r ∷ rs) all = ((all.0.0, all.0.1, named-behind known more all.0.0 all.0.2), all-behind known more rs all.1)

both-fit : (ds es : List Shown) → list_all (λ d. lists_fit d.proto) ds ≡ true → list_all (λ d. lists_fit d.proto) es ≡ true → list_all (λ d. lists_fit d.proto) (ds ++ es) ≡ true
both-fit [] es first second = second
both-fit (d ∷ ds) es first second =
    let rest = list_all (λ e. lists_fit e.proto) ds in
    λ i. first-true (lists_fit d.proto) rest first i && both-fit ds es (second-true (lists_fit d.proto) rest first) second i

-- the names are those that the files enter, and the counts those of what they declare
pub record Known (p : Contents) : Type 0 where
  pub names_are : p.names ≡ names (known_names p)
  pub file_names_are : p.file_names ≡ names (known_file_names p)
  pub counts_are : counts_in p ≡ counted no_counts (declarations no_counts (files_of p))

-- besides no list of the files is too long, and each reference names its definition
pub record Sound (p : Contents) : Type 0 where
  pub known : Known p
  pub short : list_all (λ d. lists_fit d.proto) (declarations no_counts (files_of p)) ≡ true
  pub resolved : AllResolved p

nothing-sound : Sound no_contents
nothing-sound = record {
  known = record { names_are = refl; file_names_are = refl; counts_are = refl };
  short = refl;
  resolved = tt;
}

-- so they are behind new files
pub link-known : (q : Contents) (new : List FileDescriptorProto) → Known q → Known (with_batch q new)
link-known q new known =
    let s = setting_with q new in
    let ds = declared_with q new in
    let named = with_names q ds in
    record {
      names_are = ap (λ held. names_with held (entries ds)) known.names_are ∙ with-names (known_names q) (entries ds)
          ∙ ap names (sym (names-linked named new known.counts_are s));
      file_names_are = ap (λ held. names_with held (file_entries ds)) known.file_names_are ∙ with-names (known_file_names q) (file_entries ds)
          ∙ ap names (sym (file-names-linked named new known.counts_are s));
      counts_are = counts-extended (length q.extensions) (with_items named s ds) ∙ counts-linked named new known.counts_are s;
    }

pub link-sound : (q : Contents) (batch : Batch) → Sound q → faults_of_references q batch ≡ [] → Fits q batch → Sound (link q batch)
link-sound q batch sound none fits =
    let new = new_files q batch in
    let s = setting_with q new in
    let ds = declared_with q new in
    let named = with_names q ds in
    let earlier : AllNamed s.names (declarations no_counts (files_of q)) =
    all-behind q.names (entries ds) (flat_map references_in (declarations no_counts (files_of q))) sound.resolved in
    record {
      known = link-known q new sound.known;
      short = ap (list_all (λ d. lists_fit d.proto)) (declared-linked named new sound.known.counts_are s)
          ∙ both-fit (declarations no_counts (files_of q)) (map (changed (linking s)) ds) sound.short
          (all-fit-changed (linking s) ds ∙ (room-fits (counts_in q) new fits).short);
      resolved = subst (AllNamed s.names) (sym (declared-linked named new sound.known.counts_are s))
          (named-append s.names (declarations no_counts (files_of q)) (map (changed (linking s)) ds) earlier (linked-resolved s q.extensions ds none));
    }

pub made-sound : (p : Contents) → Made p → Sound p
made-sound p (empty is) = subst Sound (sym is) nothing-sound
made-sound p (linked_to {q = q} batch made accepts fits is) = subst Sound (sym is) (link-sound q batch (made-sound q made) accepts.1 fits)

-- the names of a pool mean something in its files
pub names_lie : (p : Contents) → IsPool p → NamesLieIn p
names_lie p pool =
    let sound = made-sound p pool.made in
    let same : length (files_of p) ≡ length p.files = length-map p.files (λ f. f.raw) in
    let many : 0 + length (files_of p) ≡ length p.files = omega (arith, same) in (
      subst (λ n. AllBefore n p.names) many (subst (AllBefore (0 + length (files_of p))) (sym sound.known.names_are) (names-before no_counts (files_of p))),
      subst (λ n. FileNamesBefore n p.file_names) many (subst (FileNamesBefore (0 + length (files_of p))) (sym sound.known.file_names_are) (file-names-before no_counts (files_of p))),
    )

-- no list of the files of a pool is too long, nor of files behind them that fit
pub short-behind : (p : Contents) → IsPool p → (new : List FileDescriptorProto) → IsOk (counts_with (counts_in p) new) → ShortFiles (files_of p ++ new)
short-behind p pool new fits =
    let sound = made-sound p pool.made in
    ap (list_all (λ d. lists_fit d.proto)) (declared-behind p new sound.known.counts_are new)
    ∙ both-fit (declarations no_counts (files_of p)) (declarations (counts_in p) new) sound.short (room-fits (counts_in p) new fits).short

pub all_resolved : (p : Contents) → IsPool p → AllResolved p
all_resolved p pool = (made-sound p pool.made).resolved

fit-by : (c : Counts) (short : Bool) → short ≡ true → WithinLimits c → IsOk (added_to no_counts (cond short (within_limit c) (Err ListTooLong)))
fit-by c true is within = grind (arith, nat_tests, within.files, within.messages, within.enums, within.services, within.extensions)
fit-by c false is within = absurd (cc)

-- what the files of a pool declare fits into a pool
pub fits_again : (p : Contents) → IsPool p → IsOk (counts_with no_counts (files_of p))
fits_again p pool =
    let ds = declarations no_counts (files_of p) in
    fit-by (counted no_counts ds) (list_all (λ d. lists_fit d.proto) ds) (made-sound p pool.made).short (subst WithinLimits pool.counts_are pool.within)
