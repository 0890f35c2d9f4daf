-- The name of each file of a pool leads to it.
use Rattle.std.proofs.Common.{◌≡◌, ◌+◌, ℕ, zero, suc, Bool, true, false, cond, is_some, Option, Some, None, List, [], ◌∷◌, ◌++◌, map, option_and_then, option_map, slice_get, refl, ap, sym, subst, ◌∙◌, append_assoc, arith}
use Rattle.std.proofs.lemmas.Grind.{flat_map-append}
use Rattle.std.proofs.lemmas.Slice.Eq.{bytes_eq-Decides}
use Rattle.std.specs.FinMap as finite
use Rattle.std.specs.List.{AllByRecursion}
use Rattle.std.specs.Option.{IfSome, option_or}
use Rattle.plain_data.specs.Lists.{after_each}
use Rattle.proto_types.specs.Readers.{text_of}
use Rattle.proto_types.specs.declared.file.FileDescriptorProto.{FileDescriptorProto}
use Rattle.pool_faults.specs.declared.fault.DescriptorErrorKind.{DescriptorErrorKind}
use Rattle.pool_faults.specs.declared.fault.DescriptorErrorKind.TheVariants.{DuplicateFileName}
use Rattle.pool_types.specs.Contents.{ByText, Contents, files_of, no_contents}
use Rattle.pool_types.specs.declared.contents.file.FileDescriptorInner.{FileDescriptorInner}
use Rattle.name_tables.specs.Entries.{first_of, names_with}
use Rattle.name_tables.proofs.Entries.{first-append, get-with}
use Rattle.name_pass.specs.FirstPass.{clashes, file_faults, file_name_faults, first_faults, first_pass, holder, shape_faults}
use Rattle.name_pass.specs.Names.{entries, entries_of, file_entries, file_entries_of}
use Rattle.name_pass.specs.Syntax.{syntax_faults}
use Rattle.record_walk.specs.Changed.{Changes, changed}
use Rattle.record_walk.specs.Counts.{counted, no_counts}
use Rattle.record_walk.specs.Declarations.{declarations, file_walk}
use Rattle.record_walk.specs.Protos.{Proto, of_file}
use Rattle.record_walk.specs.Shown.{Shown}
use Rattle.record_walk.specs.declared.counts.Counts.{Counts}
use Rattle.record_walk.proofs.Paths.{one-file}
use Rattle.reference_pass.specs.Linked.{linking}
use Rattle.reference_pass.proofs.Unbroken.{both-empty}
use Rattle.descriptor_pool.specs.Build.{declared_with, name_faults, setting_with, with_batch, with_names}
use Rattle.descriptor_pool.specs.Invariant.{IsPool}
use Rattle.descriptor_pool.specs.Pool.{Made, empty, linked_to, new_files}
use Rattle.descriptor_pool.proofs.Declared.{declared-linked}
use Rattle.descriptor_pool.proofs.Keyed.{none-both}
use Rattle.descriptor_pool.proofs.Owned.{all-both}
use Rattle.descriptor_pool.proofs.Resolved.{all-append}
use Rattle.descriptor_pool.proofs.Sound.{Known, made-sound}
use Rattle.pool_changes.specs.Removed.{file_named}

-- the name of a file leads to its index
abbrev IsFiled : ByText ℕ → Shown → Type 0
IsFiled names d = elim d.proto [
  | of_file f ↦ finite.get names (text_of f.name) ≡ Some d.file
  | _ ↦ Unit {0}
]

not-held : (held : Option ℕ) (name : List ℕ) → file_name_faults held name ≡ [] → held ≡ None
not-held None name none = refl
not-held (Some n) name none = absurd (cc)

-- the first entry of its name
first-own : (before after : List (List ℕ × ℕ)) (name : List ℕ) (n : ℕ) → first_of before name ≡ None → first_of (before ++ (name, n) ∷ after) name ≡ Some n
first-own before after name n none =
    first-append before ((name, n) ∷ after) name
    ∙ (λ i. option_or (none i) (cond ((bytes_eq-Decides name name).1 refl i) (Some n) (first_of after name)))

file-filed : (known : ByText ℕ) (before after : List (List ℕ × ℕ)) (name : List ℕ) (n : ℕ) → holder known before name ≡ None → finite.get (names_with known (before ++ (name, n) ∷ after)) name ≡ Some n
file-filed known before after name n free =
    let both = none-both (finite.get known name) (first_of before name) free in
    get-with known (before ++ (name, n) ∷ after) name
    ∙ (λ i. option_or (both.0 i) (first-own before after name n both.1 i))

module _ (files : List FileDescriptorProto) (p : Contents) where
  abbrev Told : List Shown → Shown → List DescriptorErrorKind
  Told before d = first_faults files p before d

  -- a file that breaks nothing in the first pass
  one-filed : (front rest : List Shown) (d : Shown) → Told front d ≡ [] → IsFiled (names_with p.file_names (file_entries front ++ file_entries_of d ++ file_entries rest)) d
  one-filed front rest d = elim d.proto as (λ q. let e : Shown = record d { proto = q } in
      Told front e ≡ [] → IsFiled (names_with p.file_names (file_entries front ++ file_entries_of e ++ file_entries rest)) e) [
        | of_file f ↦ λ none.
            let e : Shown = record d { proto = of_file f } in
            let own = file_faults files p.file_names (file_entries front) e in
            let clash = clashes files p.names (entries front) (entries_of e) in
            let first = both-empty (own ++ clash) (shape_faults files e) none in
            let second = both-empty own clash first.0 in
            let third = both-empty (syntax_faults files d.file f) (file_name_faults (holder p.file_names (file_entries front) (text_of f.name)) (text_of f.name)) second.0 in
            subst (λ es. finite.get (names_with p.file_names es) (text_of f.name) ≡ Some d.file) (sym (append_assoc (file_entries front) ((text_of f.name, d.file) ∷ []) (file_entries rest)))
            (file-filed p.file_names (file_entries front) (file_entries rest) (text_of f.name) d.file (not-held (holder p.file_names (file_entries front) (text_of f.name)) (text_of f.name) third.1))
        | _ ↦ λ none. tt
      ]

  entries-parted : (front rest : List Shown) (d : Shown) → file_entries (front ++ d ∷ rest) ≡ file_entries front ++ file_entries_of d ++ file_entries rest
  entries-parted front rest d = flat_map-append file_entries_of front (d ∷ rest) ∙ sym (append_assoc (file_entries front) (file_entries_of d) (file_entries rest))

  from-filed : (ds front rest : List Shown) → ds ≡ front ++ rest → after_each Told front rest ≡ [] → AllByRecursion (IsFiled (names_with p.file_names (file_entries ds))) rest
  from-filed ds front [] parted none = tt
  from-filed ds front (d ∷ rest) parted none =
      let both = both-empty (Told front d) (after_each Told (front ++ d ∷ []) rest) none in
      let all = sym (entries-parted front rest d) ∙ ap file_entries (sym parted) in (
        subst (λ es. IsFiled (names_with p.file_names es) d) all (one-filed front rest d both.0),
        from-filed ds (front ++ d ∷ []) rest (parted ∙ sym (append_assoc front (d ∷ []) rest)) both.1,
      )

-- what is known stays
stays-filed : (known : ByText ℕ) (more : List (List ℕ × ℕ)) (d : Shown) → IsFiled known d → IsFiled (names_with known more) d
stays-filed known more d = elim d.proto as (λ q. let e : Shown = record d { proto = q } in IsFiled known e → IsFiled (names_with known more) e) [
  | of_file f ↦ λ filed. get-with known more (text_of f.name) ∙ ap (λ got. option_or got (first_of more (text_of f.name))) filed
  | _ ↦ λ filed. tt
]

all-stay : (known : ByText ℕ) (more : List (List ℕ × ℕ)) (ds : List Shown) → AllByRecursion (IsFiled known) ds → AllByRecursion (IsFiled (names_with known more)) ds
all-stay known more [] all = tt
all-stay known more (d ∷ ds) all = (stays-filed known more d all.0, all-stay known more ds all.1)

-- a changed file has its name
changed-filed : (c : Changes) (names : ByText ℕ) (d : Shown) → IsFiled names d → IsFiled names (changed c d)
changed-filed c names d = elim d.proto as (λ q. let e : Shown = record d { proto = q } in IsFiled names e → IsFiled names (changed c e)) [
  | of_file f ↦ λ filed. filed
  | _ ↦ λ filed. tt
]

all-changed : (c : Changes) (names : ByText ℕ) (ds : List Shown) → AllByRecursion (IsFiled names) ds → AllByRecursion (IsFiled names) (map (changed c) ds)
all-changed c names [] all = tt
all-changed c names (d ∷ ds) all = (changed-filed c names d all.0, all-changed c names ds all.1)

-- the names of all files of a pool lead to them
abbrev AllFiled : Contents → Type 0
AllFiled p = AllByRecursion (IsFiled p.file_names) (declarations no_counts (files_of p))

link-filed : (q : Contents) (new : List FileDescriptorProto) → Known q → name_faults q new ≡ [] → AllFiled q → AllFiled (with_batch q new)
link-filed q new known none filed =
    let s = setting_with q new in
    let ds = declared_with q new in
    let names = names_with q.file_names (file_entries ds) in
    let came = all-changed (linking s) names ds (from-filed (files_of q ++ new) q ds [] ds refl none) in
    subst (AllByRecursion (IsFiled names)) (sym (declared-linked (with_names q ds) new known.counts_are s))
    (all-append (IsFiled names) (declarations no_counts (files_of q)) (map (changed (linking s)) ds)
    (all-stay q.file_names (file_entries ds) (declarations no_counts (files_of q)) filed) came)

made-filed : (p : Contents) → Made p → AllFiled p
made-filed p (empty is) = let nothing : AllFiled no_contents = tt in subst AllFiled (sym is) nothing
made-filed p (linked_to {q = q} batch made accepts fits is) =
    subst AllFiled (sym is) (link-filed q (new_files q batch) (made-sound q made).known accepts.0 (made-filed q made))

-- and so of a file with an index
filed-from : (names : ByText ℕ) (base : Counts) (fs : List FileDescriptorProto) → AllByRecursion (IsFiled names) (declarations base fs)
    → (k : ℕ) → IfSome (slice_get fs k) (λ f. finite.get names (text_of f.name) ≡ Some (base.files + k))
filed-from names base [] all k = tt
filed-from names base (f ∷ fs) all zero =
    let here : base.files ≡ base.files + 0 = omega arith in
    all.0 ∙ ap Some here
filed-from names base (f ∷ fs) all (suc k) =
    let first = file_walk base f in
    let next = counted base first in
    let one = one-file base f in
    let there : next.files + k ≡ base.files + suc k = omega (arith, one) in
    subst (λ n. IfSome (slice_get fs k) (λ g. finite.get names (text_of g.name) ≡ Some n)) there
    (filed-from names next fs (all-both (IsFiled names) first (declarations next fs) all).1 k)

raw-at : (fs : List FileDescriptorInner) (n : ℕ) (f : FileDescriptorInner) → slice_get fs n ≡ Some f → slice_get (map (λ g. g.raw) fs) n ≡ Some f.raw
raw-at [] n f at = absurd (cc)
raw-at (g ∷ fs) zero f at = ap (option_map (λ (h : FileDescriptorInner). h.raw)) at
raw-at (g ∷ fs) (suc n) f at = raw-at fs n f at

pub file-leads : (p : Contents) → IsPool p → (n : ℕ) (f : FileDescriptorInner) → slice_get p.files n ≡ Some f → file_named p (text_of f.raw.name) ≡ Some f
file-leads p pool n f at =
    let found = subst (λ got. IfSome got (λ (g : FileDescriptorProto). finite.get p.file_names (text_of g.name) ≡ Some (0 + n))) (raw-at p.files n f at) (filed-from p.file_names no_counts (files_of p) (made-filed p pool.made) n) in
    let same : 0 + n ≡ n = omega arith in
    ap (option_and_then (slice_get p.files)) (found ∙ ap Some same) ∙ at
