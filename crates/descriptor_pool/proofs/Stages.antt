-- New files that are linked stage by stage: their records are put behind a pool's, their names are entered, their items made,
-- and their extensions put into the lists of messages.
use Rattle.std.proofs.Common.{◌≡◌, ◌<◌, ◌+◌, ◌^◌, ℕ, Option, None, Some, List, [], ◌∷◌, ◌++◌, IsOk, Result, length, map, drop, refl, ap, subst, sym, ◌∙◌, arith}
use Rattle.std.specs.Prelude.{max}
use Rattle.std.proofs.Math.Seq.{take-nil}
use Rattle.std.proofs.lemmas.List.{length-append, length-map, map-append}
use Rattle.record_walk.specs.Telling.{first_of}
use Rattle.std.specs.List.{AllByRecursion}
use Rattle.name_tables.specs.Entries.{names_with}
use Rattle.name_tables.specs.NameTables.{FileNamesBefore}
use Rattle.record_walk.specs.Fits.{counts_with}
use Rattle.record_walk.specs.Shown.{Shown}
use Rattle.reference_pass.specs.Setting.{Setting}
use Rattle.reference_pass.specs.NamesBegin.{AllNamesBegin}
use Rattle.record_walk.specs.Short.{ShortFiles}
use Rattle.name_pass.specs.Names.{file_entries}
use Rattle.reference_pass.specs.Linking.{ItemsAre, lists_in}
use Rattle.descriptor_pool.specs.Items.{HasImports}
use Rattle.descriptor_pool.specs.Pool.{Made}
use Rattle.descriptor_pool.proofs.Bases.{new-of, same-base}
use Rattle.descriptor_pool.proofs.Files.{names-behind-before, room-files}
use Rattle.descriptor_pool.proofs.LinkedFiles.{have-imports}
use Rattle.descriptor_pool.proofs.NamedItems.{items-are}
use Rattle.proto_types.specs.declared.file.FileDescriptorProto.{FileDescriptorProto}
use Rattle.pool_types.specs.Contents.{Contents, files_of}
use Rattle.record_walk.specs.declared.counts.Counts.{Counts}
use Rattle.record_walk.specs.Counts.{counts_in}
use Rattle.record_walk.specs.Declarations.{declarations}
use Rattle.reference_pass.specs.SecondPass.{Faults, second_pass}
use Rattle.pool_contents.specs.declared.growing.GrowingPool.{GrowingPool}
use Rattle.descriptor_pool.specs.declared.error.BuildError.{BuildError}
use Rattle.descriptor_pool.specs.declared.error.BuildError.TheVariants.{TooMany, Descriptor, OutOfMemory}
use Rattle.descriptor_pool.specs.Build.{name_faults, reference_faults, first_of_both, setting_with, with_batch, with_items, with_names}
use Rattle.pool_contents.specs.Extended.{with_extended}
use Rattle.pool_types.specs.Extension.{NumbersLead}
use Rattle.name_pass.specs.FirstPass.{first_pass}
use Rattle.pool_contents.specs.Growing.{before_items, files_seeing, first_extension, rolled_back, new_records}
use Rattle.pool_contents.specs.Unlinked.{unlinked}
use Rattle.pool_contents.specs.Inner.{contents_in}
use Rattle.descriptor_pool.specs.Error.{TellsAll, TellsFaults}
use Rattle.descriptor_pool.specs.Against.{setting_against}
use Rattle.pool_contents.proofs.Seeing.{raws-stay}
use Rattle.descriptor_pool.proofs.Seeing.{seen-are}

raws-unlinked : (new : List FileDescriptorProto) → map (λ f. f.raw) (map unlinked new) ≡ new
raws-unlinked [] = refl
raws-unlinked (f ∷ fs) = ap (λ rest. f ∷ rest) (raws-unlinked fs)

-- of no faults none is the first
none-first : (most : Option ℕ) → first_of most [] ≡ []
none-first None = refl
none-first (Some most) = take-nil (max 1 most)

-- an error tells at least one fault
pub told-first : (most : Option ℕ) (error : BuildError) (first second : Faults) → TellsFaults most error first → TellsFaults most error (first_of_both first second)
told-first most (TooMany kind) first second told = absurd told
told-first most (Descriptor error) [] second told = absurd (error.some (told.0 ∙ none-first most))
told-first most (Descriptor error) (f ∷ fs) second told = told
told-first most OutOfMemory first second told = tt

-- where the first pass found nothing, the second tells
pub told-second : {U : Type 0} (most : Option ℕ) (r : Result U BuildError) (first second : Faults) → first ≡ [] → TellsAll most r second → TellsAll most r (first_of_both first second)
told-second most r first second none told = subst (λ fs. TellsAll most r (first_of_both fs second)) (sym none) told

module _ (p q : Contents) (base : Counts) (new : List FileDescriptorProto) (base_is : base ≡ counts_in p)
    (rest : q ≡ record p { files = q.files }) (files : files_of q ≡ files_of p ++ new) where
  -- what the first pass tells
  pub names_are : first_pass (files_of q) q (declarations base new) ≡ name_faults p new
  names_are = λ i. first_pass (files i) (rest i) (declarations (base_is i) new)

  -- once their names are entered, and once each of them has the files that it sees
  module _ (r t : GrowingPool) (entered : contents_in r.inner ≡ with_names q (declarations base new)) (kept : rolled_back r ≡ p)
      (seen : contents_in t.inner ≡ record (contents_in r.inner) { files = files_seeing r }) (still : rolled_back t ≡ rolled_back r) where
    named_is : contents_in r.inner ≡ record (with_names p (declarations (counts_in p) new)) { files = q.files }
    named_is = entered ∙ (λ i. with_names (rest i) (declarations (base_is i) new))

    files_are : files_of (contents_in r.inner) ≡ files_of p ++ new
    files_are = ap files_of entered ∙ files

    pub setting_is : setting_against t.inner ≡ setting_with p new
    setting_is = λ i. record {
      files = (ap files_of seen ∙ raws-stay r ∙ files_are) i;
      names = (ap (λ (x : Contents). x.names) seen ∙ ap (λ (x : Contents). x.names) named_is) i;
      file_names = (ap (λ (x : Contents). x.file_names) seen ∙ ap (λ (x : Contents). x.file_names) named_is) i;
      seen = (ap (λ (x : Contents). map (λ f. f.transitive_dependencies) x.files) seen
          ∙ seen-are p new r (ap (λ (x : Contents). x.files) kept) files_are (ap (λ (x : Contents). x.file_names) named_is)) i;
    }

    -- what the second pass tells, and what it makes
    extensions_are : t.inner.extensions.items ≡ p.extensions
    extensions_are = ap (λ (x : Contents). x.extensions) seen ∙ ap (λ (x : Contents). x.extensions) named_is

    pub references_are : second_pass (setting_against t.inner) t.inner.extensions.items (declarations base new) ≡ reference_faults p new
    references_are = λ i. second_pass (setting_is i) (extensions_are i) (declarations (base_is i) new)

    pub items_before : before_items t ≡ with_names p (declarations (counts_in p) new)
    items_before = λ i. record ((seen ∙ (λ j. record (named_is j) { files = files_seeing r })) i) { files = ap (λ (x : Contents). x.files) (still ∙ kept) i }

    pub base_before : base ≡ counts_in (before_items t)
    base_before = base_is ∙ sym (ap counts_in items_before)

    pub linked_is : with_extended (first_extension t) (with_items (before_items t) (setting_against t.inner) (declarations base new)) ≡ with_batch p new
    linked_is =
        let first : first_extension t ≡ length p.extensions = ap (λ (x : Contents). length x.extensions) (still ∙ kept) in
        λ i. with_extended (first i) (with_items (items_before i) (setting_is i) (declarations (base_is i) new))

-- the steps of linking: files are added, their names entered
module _ (old added r : GrowingPool) (new : List FileDescriptorProto) (base_is : old.base ≡ counts_in (contents_in old.inner)) (whole : rolled_back old ≡ contents_in old.inner)
    (put : contents_in added.inner ≡ record (contents_in old.inner) { files = old.inner.files.items ++ map unlinked new }) (added_kept : rolled_back added ≡ rolled_back old) where
  abbrev before : Contents
  before = contents_in old.inner

  files-added : files_of (contents_in added.inner) ≡ files_of before ++ new
  files-added = ap files_of put ∙ map-append (λ f. f.raw) before.files (map unlinked new) ∙ ap (λ fs. files_of before ++ fs) (raws-unlinked new)

  first-is : old.base.files ≡ length (files_of before)
  first-is = ap (λ (n : Counts). n.files) base_is ∙ sym (length-map before.files (λ f. f.raw))

  base-added : added.base ≡ old.base
  base-added = same-base old added added_kept

  pub fresh : new_records added ≡ new
  fresh = new-of added.base.files added.inner.files.items (files_of before) new (ap (λ (n : Counts). n.files) base-added ∙ first-is) files-added

  rest-added : contents_in added.inner ≡ record before { files = (contents_in added.inner).files }
  rest-added = put ∙ (λ i. record before { files = sym (ap (λ (x : Contents). x.files) put) i })

  pub counts-added : IsOk (counts_with old.base new) → IsOk (counts_with added.base (new_records added))
  counts-added ok = subst IsOk (λ i. counts_with (sym base-added i) (sym fresh i)) ok

  pub short-added : ShortFiles (files_of before ++ new) → ShortFiles (files_of (contents_in added.inner))
  short-added short = subst ShortFiles (sym files-added) short

  pub names-told : first_pass (files_of (contents_in added.inner)) (contents_in added.inner) (declarations added.base (new_records added)) ≡ name_faults before new
  names-told = (λ i. first_pass (files_of (contents_in added.inner)) (contents_in added.inner) (declarations (base-added i) (fresh i)))
      ∙ names_are before (contents_in added.inner) old.base new base_is rest-added files-added

  module _ (named : contents_in r.inner ≡ with_names (contents_in added.inner) (declarations added.base (new_records added))) (r_kept : rolled_back r ≡ rolled_back added) where
    entered-is : contents_in r.inner ≡ with_names (contents_in added.inner) (declarations old.base new)
    entered-is = named ∙ (λ i. with_names (contents_in added.inner) (declarations (base-added i) (fresh i)))

    kept-is : rolled_back r ≡ before
    kept-is = r_kept ∙ added_kept ∙ whole

    many-files : length r.inner.files.items ≡ old.base.files + length new
    many-files =
        ap (λ (x : Contents). length x.files) entered-is ∙ sym (length-map (contents_in added.inner).files (λ f. f.raw)) ∙ ap length files-added
        ∙ length-append (files_of before) new ∙ ap (λ n. n + length new) (sym first-is)

    pub few-files : IsOk (counts_with old.base new) → length r.inner.files.items < 2 ^ 32
    few-files ok = omega (arith, many-files, room-files old.base new ok)

    pub places-lie : FileNamesBefore (length before.files) before.file_names → FileNamesBefore (length r.inner.files.items) r.inner.file_names
    places-lie lie =
        let start = subst (λ n. FileNamesBefore n before.file_names) (sym (ap (λ (n : Counts). n.files) base_is)) lie in
        let all = names-behind-before old.base new before.file_names start in
        let names : r.inner.file_names ≡ names_with before.file_names (file_entries (declarations old.base new)) =
        ap (λ (x : Contents). x.file_names) entered-is ∙ ap (λ (x : Contents). names_with x.file_names (file_entries (declarations old.base new))) put in
        subst (λ n. FileNamesBefore n r.inner.file_names) (sym many-files) (subst (FileNamesBefore (old.base.files + length new)) (sym names) all)

    -- and each is given the files that it sees
    module _ (t : GrowingPool) (seen : contents_in t.inner ≡ record (contents_in r.inner) { files = files_seeing r }) (still : rolled_back t ≡ rolled_back r) where
      files-seen : files_of (contents_in t.inner) ≡ files_of before ++ new
      files-seen = ap files_of seen ∙ raws-stay r ∙ ap files_of entered-is ∙ files-added

      base-seen : t.base ≡ old.base
      base-seen = same-base r t still ∙ same-base added r r_kept ∙ base-added

      pub fresh-seen : new_records t ≡ new
      fresh-seen = new-of t.base.files t.inner.files.items (files_of before) new (ap (λ (n : Counts). n.files) base-seen ∙ first-is) files-seen

      declared-seen : declarations t.base (new_records t) ≡ declarations old.base new
      declared-seen = λ i. declarations (base-seen i) (fresh-seen i)

      pub counts-seen : IsOk (counts_with old.base new) → IsOk (counts_with t.base (new_records t))
      counts-seen ok = subst IsOk (λ i. counts_with (sym base-seen i) (sym fresh-seen i)) ok

      pub before-seen : t.base ≡ counts_in (before_items t)
      before-seen = base-seen ∙ base_before before (contents_in added.inner) old.base new base_is rest-added files-added r t entered-is kept-is seen still

      pub short-seen : ShortFiles (files_of before ++ new) → ShortFiles (files_of (contents_in t.inner))
      short-seen short = subst ShortFiles (sym files-seen) short

      pub numbers-seen : NumbersLead before.extensions before.messages → NumbersLead t.inner.extensions.items t.inner.messages.items
      numbers-seen lead =
          let Lead : Contents → Type 0 = λ p. NumbersLead p.extensions p.messages in
          subst Lead (sym seen) (subst Lead (sym entered-is) (subst Lead (sym put) lead))

      pub begin-seen : AllNamesBegin before → AllNamesBegin (contents_in t.inner)
      begin-seen begin =
          subst AllNamesBegin (sym seen) (subst AllNamesBegin (sym entered-is) (subst AllNamesBegin (sym put) begin))

      pub imports-seen : AllByRecursion (HasImports (setting_against t.inner)) (drop t.base.files t.inner.files.items)
      imports-seen =
          let names = ap (λ (x : Contents). x.file_names) seen in
          let files = ap (λ (x : Contents). x.files) entered-is ∙ ap (λ (x : Contents). x.files) put in
          let first = ap (λ (x : Contents). length x.files) kept-is in
          let start = ap (λ (n : Counts). n.files) (base-seen ∙ base_is) in
          subst (λ fs. AllByRecursion (HasImports (setting_against t.inner)) (drop t.base.files fs)) (sym (ap (λ (x : Contents). x.files) seen))
          (have-imports (setting_against t.inner) r names t.base.files before.files new files first start)

      pub items-seen : Made before → IsOk (counts_with old.base new)
          → ItemsAre (setting_against t.inner) (lists_in (with_items (before_items t) (setting_against t.inner) (declarations t.base (new_records t)))) (declarations t.base (new_records t))
      items-seen made ok =
          let q = contents_in added.inner in
          let ds = declarations (counts_in before) new in
          let s = setting_against t.inner in
          let are = items-are before made new (subst (λ n. IsOk (counts_with n new)) base_is ok) in
          let one = subst (λ (s : Setting). ItemsAre s (lists_in (with_items (with_names before ds) s ds)) ds)
          (sym (setting_is before q old.base new base_is rest-added files-added r t entered-is kept-is seen still)) are in
          let two = subst (λ (b : Contents). ItemsAre s (lists_in (with_items b s ds)) ds)
          (sym (items_before before q old.base new base_is rest-added files-added r t entered-is kept-is seen still)) one in
          subst (λ (es : List Shown). ItemsAre s (lists_in (with_items (before_items t) s es)) es) (sym (declared-seen ∙ (λ i. declarations (base_is i) new))) two

      pub made-seen : with_extended (first_extension t) (with_items (before_items t) (setting_against t.inner) (declarations t.base (new_records t))) ≡ with_batch before new
      made-seen =
          (λ i. with_extended (first_extension t) (with_items (before_items t) (setting_against t.inner) (declared-seen i)))
          ∙ linked_is before (contents_in added.inner) old.base new base_is rest-added files-added r t entered-is kept-is seen still

      pub references-told : second_pass (setting_against t.inner) t.inner.extensions.items (declarations t.base (new_records t)) ≡ reference_faults before new
      references-told =
          ap (second_pass (setting_against t.inner) t.inner.extensions.items) declared-seen
          ∙ references_are before (contents_in added.inner) old.base new base_is rest-added files-added r t entered-is kept-is seen still
