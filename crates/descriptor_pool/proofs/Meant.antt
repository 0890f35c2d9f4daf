-- The full name of each declaration of a pool means it.
use Rattle.std.proofs.Common.{◌≡◌, Bool, true, false, ◌&&◌, if◌then◌else◌, Option, Some, None, List, [], ◌∷◌, ◌++◌, map, cond, refl, ap, subst, sym, ◌∙◌, append_assoc}
use Rattle.std.proofs.lemmas.Grind.{flat_map-append}
use Rattle.std.proofs.lemmas.Slice.Eq.{bytes_eq-Decides}
use Rattle.std.specs.FinMap as finite
use Rattle.std.specs.List.{AllByRecursion}
use Rattle.std.specs.Option.{option_or}
use Rattle.proto_types.specs.declared.file.FileDescriptorProto.{FileDescriptorProto}
use Rattle.plain_data.specs.Lists.{after_each}
use Rattle.pool_faults.specs.Labels.{label_in}
use Rattle.pool_faults.specs.declared.fault.DescriptorErrorKind.{DescriptorErrorKind}
use Rattle.pool_faults.specs.declared.fault.DescriptorErrorKind.TheVariants.{DuplicateName}
use Rattle.pool_types.specs.Contents.{ByText, Contents, files_of, no_contents}
use Rattle.pool_types.specs.Definition.{is_package}
use Rattle.pool_types.specs.declared.contents.definition.Definition.{Definition}
use Rattle.name_tables.specs.Entries.{Entry, first_of, names_with}
use Rattle.name_tables.proofs.Entries.{first-append, get-with}
use Rattle.name_pass.specs.FirstPass.{clashes, file_faults, first_faults, first_pass, holder, holder_faults, shape_faults}
use Rattle.name_pass.specs.Names.{entries, entries_of, file_entries, own_entry}
use Rattle.record_walk.specs.Changed.{Changes, changed}
use Rattle.record_walk.specs.Counts.{no_counts}
use Rattle.record_walk.specs.Declarations.{declarations}
use Rattle.record_walk.specs.Protos.{of_file}
use Rattle.record_walk.specs.Shown.{Shown}
use Rattle.reference_pass.specs.Linked.{linking}
use Rattle.reference_pass.proofs.Unbroken.{both-empty}
use Rattle.descriptor_pool.specs.Build.{declared_with, name_faults, setting_with, with_batch, with_names}
use Rattle.descriptor_pool.specs.Pool.{Made, empty, linked_to, new_files}
use Rattle.descriptor_pool.proofs.Declared.{declared-linked}
use Rattle.descriptor_pool.proofs.Keyed.{none-both}
use Rattle.descriptor_pool.proofs.Resolved.{all-append}
use Rattle.descriptor_pool.proofs.Sound.{Known, made-sound}

-- the full name of a declaration, but for that of a file, means it
abbrev pub IsMeant : ByText Definition → Shown → Type 0
IsMeant names d = elim d.proto [
  | of_file _ ↦ Unit {0}
  | _ ↦ finite.get names d.full_name ≡ Some (own_entry d).1
]

not-both : (a b : Bool) (x : DescriptorErrorKind) → b ≡ false → (if a && b then [] else x ∷ []) ≡ [] → ⊥
not-both true true x other none = absurd (cc)
not-both true false x other none = absurd (cc)
not-both false b x other none = absurd (cc)

-- what is no package has no holder where no fault is told
held-none : (files : List FileDescriptorProto) (held : Option Definition) (e : Entry) → is_package e.1.kind ≡ false → holder_faults files held e ≡ [] → held ≡ None
held-none files None e other none = refl
held-none files (Some held) e other none =
    absurd (not-both (is_package held.kind) (is_package e.1.kind) (DuplicateName e.0 (label_in files held.file held.path) (label_in files e.1.file e.1.path)) other none)

-- the first entry of its name
first-own : (before after : List Entry) (e : Entry) → first_of before e.0 ≡ None → first_of (before ++ e ∷ after) e.0 ≡ Some e.1
first-own before after e none =
    first-append before (e ∷ after) e.0
    ∙ (λ i. option_or (none i) (cond ((bytes_eq-Decides e.0 e.0).1 refl i) (Some e.1) (first_of after e.0)))

-- an entry that is no package, behind known names and other entries, where it does not clash
entry-meant : (files : List FileDescriptorProto) (known : ByText Definition) (before after : List Entry) (e : Entry) → is_package e.1.kind ≡ false
    → clashes files known before (e ∷ []) ≡ [] → finite.get (names_with known (before ++ e ∷ after)) e.0 ≡ Some e.1
entry-meant files known before after e other none =
    let told = both-empty (holder_faults files (holder known before e.0) e) (clashes files known (before ++ e ∷ []) []) none in
    let both = none-both (finite.get known e.0) (first_of before e.0) (held-none files (holder known before e.0) e other told.0) in
    get-with known (before ++ e ∷ after) e.0
    ∙ (λ i. option_or (both.0 i) (first-own before after e both.1 i))

module _ (files : List FileDescriptorProto) (p : Contents) where
  abbrev Told : List Shown → Shown → List DescriptorErrorKind
  Told before d = first_faults files p before d

  -- a declaration that breaks nothing in the first pass
  one-meant : (front rest : List Shown) (d : Shown) → Told front d ≡ [] → IsMeant (names_with p.names (entries front ++ entries_of d ++ entries rest)) d
  one-meant front rest d = elim d.proto as (λ q. let e : Shown = record d { proto = q } in
      Told front e ≡ [] → IsMeant (names_with p.names (entries front ++ entries_of e ++ entries rest)) e) [
        | of_file f ↦ λ none. tt
        | q ↦ λ none.
            let e : Shown = record d { proto = q } in
            let own = file_faults files p.file_names (file_entries front) e in
            let clash = clashes files p.names (entries front) (own_entry e ∷ []) in
            let first = both-empty (own ++ clash) (shape_faults files e) none in
            let second = both-empty own clash first.0 in
            subst (λ es. finite.get (names_with p.names es) e.full_name ≡ Some (own_entry e).1) (sym (append_assoc (entries front) (own_entry e ∷ []) (entries rest)))
            (entry-meant files p.names (entries front) (entries rest) (own_entry e) refl second.1)
      ]

  entries-parted : (front rest : List Shown) (d : Shown) → entries (front ++ d ∷ rest) ≡ entries front ++ entries_of d ++ entries rest
  entries-parted front rest d = flat_map-append entries_of front (d ∷ rest) ∙ sym (append_assoc (entries front) (entries_of d) (entries rest))

  from-meant : (ds front rest : List Shown) → ds ≡ front ++ rest → after_each Told front rest ≡ [] → AllByRecursion (IsMeant (names_with p.names (entries ds))) rest
  from-meant ds front [] parted none = tt
  from-meant ds front (d ∷ rest) parted none =
      let both = both-empty (Told front d) (after_each Told (front ++ d ∷ []) rest) none in
      let all = sym (entries-parted front rest d) ∙ ap entries (sym parted) in (
        subst (λ es. IsMeant (names_with p.names es) d) all (one-meant front rest d both.0),
        from-meant ds (front ++ d ∷ []) rest (parted ∙ sym (append_assoc front (d ∷ []) rest)) both.1,
      )

  -- and so all of them
  pub all-meant : (ds : List Shown) → first_pass files p ds ≡ [] → AllByRecursion (IsMeant (names_with p.names (entries ds))) ds
  all-meant ds none = from-meant ds [] ds refl none

-- what is known stays
stays-meant : (known : ByText Definition) (more : List Entry) (d : Shown) → IsMeant known d → IsMeant (names_with known more) d
stays-meant known more d = elim d.proto as (λ q. let e : Shown = record d { proto = q } in IsMeant known e → IsMeant (names_with known more) e) [
  | of_file f ↦ λ meant. tt
  | _ ↦ λ meant. get-with known more d.full_name ∙ ap (λ got. option_or got (first_of more d.full_name)) meant
]

all-stay : (known : ByText Definition) (more : List Entry) (ds : List Shown) → AllByRecursion (IsMeant known) ds → AllByRecursion (IsMeant (names_with known more)) ds
all-stay known more [] all = tt
all-stay known more (d ∷ ds) all = (stays-meant known more d all.0, all-stay known more ds all.1)

-- a changed declaration has its name
changed-meant : (c : Changes) (names : ByText Definition) (d : Shown) → IsMeant names d → IsMeant names (changed c d)
changed-meant c names d = elim d.proto as (λ q. let e : Shown = record d { proto = q } in IsMeant names e → IsMeant names (changed c e)) [
  | of_file f ↦ λ meant. tt
  | _ ↦ λ meant. meant
]

all-changed : (c : Changes) (names : ByText Definition) (ds : List Shown) → AllByRecursion (IsMeant names) ds → AllByRecursion (IsMeant names) (map (changed c) ds)
all-changed c names [] all = tt
all-changed c names (d ∷ ds) all = (changed-meant c names d all.0, all-changed c names ds all.1)

-- the full names of all declarations of a pool mean them
abbrev pub AllMeant : Contents → Type 0
AllMeant p = AllByRecursion (IsMeant p.names) (declarations no_counts (files_of p))

link-meant : (q : Contents) (new : List FileDescriptorProto) → Known q → name_faults q new ≡ [] → AllMeant q → AllMeant (with_batch q new)
link-meant q new known none meant =
    let s = setting_with q new in
    let ds = declared_with q new in
    let names = names_with q.names (entries ds) in
    let came = all-changed (linking s) names ds (all-meant (files_of q ++ new) q ds none) in
    subst (AllByRecursion (IsMeant names)) (sym (declared-linked (with_names q ds) new known.counts_are s))
    (all-append (IsMeant names) (declarations no_counts (files_of q)) (map (changed (linking s)) ds)
    (all-stay q.names (entries ds) (declarations no_counts (files_of q)) meant) came)

pub made-meant : (p : Contents) → Made p → AllMeant p
made-meant p (empty is) = let nothing : AllMeant no_contents = tt in subst AllMeant (sym is) nothing
made-meant p (linked_to {q = q} batch made accepts fits is) =
    subst AllMeant (sym is) (link-meant q (new_files q batch) (made-sound q made).known accepts.0 (made-meant q made))
