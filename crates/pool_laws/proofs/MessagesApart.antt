-- Names that mean the same message are one name, and each extension of a pool extends a message that a name means.
use Rattle.std.proofs.Common.{◌≡◌, ℕ, ℤ, Option, None, Some, List, [], ◌∷◌, ◌++◌, length, append_assoc, refl, ap, subst, sym, ◌∙◌, arith}
use Rattle.std.proofs.lemmas.List.{length-map}
use Rattle.std.specs.FinMap as finite
use Rattle.std.specs.List.{AllByRecursion, flat_map, slice_get}
use Rattle.std.specs.Option.{IfSome, IsSomeAnd}
use Rattle.proto_types.specs.Readers.{text_of}
use Rattle.proto_types.specs.declared.file.FileDescriptorProto.{FileDescriptorProto}
use Rattle.pool_types.specs.Contents.{Contents, files_of}
use Rattle.pool_types.specs.declared.contents.definition.Definition.{Definition}
use Rattle.pool_types.specs.declared.contents.definition.DefinitionKind.TheVariants as definition
use Rattle.pool_types.specs.declared.contents.extension.ExtensionDescriptorInner.{ExtensionDescriptorInner}
use Rattle.name_tables.specs.Entries.{names}
use Rattle.name_tables.proofs.Names.{get-lookup}
use Rattle.name_pass.specs.Names.{entries, entries_of, package_entry, packages}
use Rattle.record_walk.specs.declared.counts.Counts.{Counts}
use Rattle.record_walk.specs.Counts.{counted, no_counts}
use Rattle.record_walk.specs.Declarations.{declarations}
use Rattle.record_walk.specs.Indexes.{HasIndex}
use Rattle.record_walk.specs.Protos.{Proto, of_file, of_message, of_extension, as_message}
use Rattle.record_walk.specs.Shown.{Shown, of_kind}
use Rattle.record_walk.proofs.Indexes.{indexes-count-on}
use Rattle.reference_pass.specs.Items.{extension_item, extension_items, made_of}
use Rattle.reference_pass.specs.References.{message_index}
use Rattle.reference_pass.specs.SecondPass.{owner_faults}
use Rattle.reference_pass.proofs.Steps.{made-append}
use Rattle.reference_pass.proofs.Unbroken.{both-empty}
use Rattle.descriptor_pool.specs.Build.{declared_with, setting_with}
use Rattle.descriptor_pool.specs.Pool.{Made}
use Rattle.descriptor_pool.proofs.Declared.{counted-many}
use Rattle.descriptor_pool.proofs.Definitions.{extension-named}
use Rattle.descriptor_pool.proofs.Resolved.{all-append}
use Rattle.descriptor_pool.proofs.Sound.{made-sound}
use Rattle.pool_laws.proofs.Relinked.{made-relinked}
use Rattle.pool_laws.proofs.Relinks.{reread, stays-known}
use Rattle.pool_laws.proofs.AllOf.{all-map, all-of}
use Rattle.pool_laws.proofs.Unseen.{first-stands, names-whole}

-- what a name means in a pool it means with new files
pub old-stays : (p : Contents) (new : List FileDescriptorProto) (name : List ℕ) (def : Definition) → finite.get p.names name ≡ Some def
    → finite.get (setting_with p new).names name ≡ Some def
old-stays p new name def is = stays-known p.names (entries (declared_with p new)) name def is

-- some name means the message that an extension extends
abbrev pub NamesExtendee : Contents → ExtensionDescriptorInner → Type 0
NamesExtendee p x = (name : List ℕ) × (def : Definition) × (finite.get p.names name ≡ Some def) × (message_index def.kind ≡ Some x.extendee)

module _ (p : Contents) where
  -- what a name means has what each such definition has
  meaning : (x : ExtensionDescriptorInner) (name : List ℕ) (got : Option Definition) → finite.get p.names name ≡ got
      → IsSomeAnd got (λ def. def.kind ≡ definition.Message x.extendee) → NamesExtendee p x
  meaning x name None is means = absurd means
  meaning x name (Some def) is means = (name, def, is, ap message_index means)

  one-extendee : (file : ℕ) (parent : Option ℕ) (index : ℕ) (path : List ℤ) (full_name : List ℕ) (proto : Proto) (ds : List Shown)
      → let d : Shown = record { file = file; parent = parent; index = index; path = path; full_name = full_name; proto = proto } in
      owner_faults (reread p) [] d ≡ [] → AllByRecursion (NamesExtendee p) (extension_items (reread p) ds) → AllByRecursion (NamesExtendee p) (extension_items (reread p) (d ∷ ds))
  one-extendee file parent index path full_name (of_extension x) ds none rest =
      let d : Shown = record { file = file; parent = parent; index = index; path = path; full_name = full_name; proto = of_extension x } in
      let named = (extension-named (reread p) d x none).extendee in
      (meaning (extension_item (reread p) d x) named.0 (finite.get p.names named.0) refl named.2, rest)
  one-extendee file parent index path full_name _ ds none rest = rest

  all-extendees : (ds : List Shown) → flat_map (owner_faults (reread p) []) ds ≡ [] → AllByRecursion (NamesExtendee p) (extension_items (reread p) ds)
  all-extendees [] none = tt
  all-extendees (d ∷ ds) none =
      let both = both-empty (owner_faults (reread p) [] d) (flat_map (owner_faults (reread p) []) ds) none in
      one-extendee d.file d.parent d.index d.path d.full_name d.proto ds both.0 (all-extendees ds both.1)

-- each extension of a pool extends a message that a name of the pool means
pub old-extendees : (p : Contents) → Made p
    → AllByRecursion (λ x. (name : List ℕ) × (def : Definition) × (finite.get p.names name ≡ Some def) × (message_index def.kind ≡ Some x.extendee)) p.extensions
old-extendees p made =
    let again = made-relinked p made in
    subst (AllByRecursion (NamesExtendee p)) (sym again.extensions) (all-extendees p (declarations no_counts (files_of p)) again.second)

-- an element behind others
get-behind : {X : Type 0} (xs : List X) (y : X) (ys : List X) → slice_get (xs ++ y ∷ ys) (length xs) ≡ Some y
get-behind [] y ys = refl
get-behind (x ∷ xs) y ys = get-behind xs y ys

-- the full names of the messages that are declared
abbrev message_names : List Shown → List (List ℕ)
message_names ds = made_of as_message (λ d m. d.full_name) ds

-- files that are declared from nothing
module _ (fs : List FileDescriptorProto) where
  abbrev ds : List Shown
  ds = declarations no_counts fs

  -- a name of a message stands at its index
  abbrev Stands : List ℕ → Definition → Type 0
  Stands name def = IfSome (message_index def.kind) (λ m. slice_get (message_names ds) m ≡ Some name)

  one-stands : (front rest : List Shown) (file : ℕ) (parent : Option ℕ) (index : ℕ) (path : List ℤ) (full_name : List ℕ) (proto : Proto)
      → let d : Shown = record { file = file; parent = parent; index = index; path = path; full_name = full_name; proto = proto } in
      ds ≡ front ++ d ∷ rest → HasIndex (counted no_counts front) d proto → AllByRecursion (λ e. Stands e.0 e.1) (entries_of d)
  one-stands front rest file parent index path full_name (of_message m) parted has =
      let d : Shown = record { file = file; parent = parent; index = index; path = path; full_name = full_name; proto = of_message m } in
      let all : message_names ds ≡ message_names front ++ full_name ∷ message_names rest = ap message_names parted ∙ made-append as_message (λ d m. d.full_name) front (d ∷ rest) in
      let counted_ones = ap (λ (c : Counts). c.messages) (counted-many no_counts front) in
      let long = length-map (of_kind as_message front) (λ e. e.0.full_name) in
      let here : index ≡ length (message_names front) = omega (arith, has, counted_ones, long) in
      ((λ j. slice_get (all j) (here j)) ∙ get-behind (message_names front) full_name (message_names rest), tt)
  one-stands front rest file parent index path full_name (of_file f) parted has = let names = packages (text_of f.«package») in all-map (λ e. Stands e.0 e.1) (package_entry file) names (all-of (λ _. tt) names)
  one-stands front rest file parent index path full_name _ parted has = (tt, tt)

  stand-from : (front rest : List Shown) → ds ≡ front ++ rest → AllByRecursion (λ e. Stands e.0 e.1) (entries rest)
  stand-from front [] parted = tt
  stand-from front (d ∷ rest) parted =
      all-append (λ e. Stands e.0 e.1) (entries_of d) (entries rest)
      (one-stands front rest d.file d.parent d.index d.path d.full_name d.proto parted (indexes-count-on no_counts fs front d rest parted))
      (stand-from (front ++ d ∷ []) rest (parted ∙ sym (append_assoc front (d ∷ []) rest)))

  -- and so does what a name means
  names-stand : (name : List ℕ) → IfSome (finite.get (names (entries ds)) name) (Stands name)
  names-stand name = subst (λ got. IfSome got (Stands name)) (sym (get-lookup (entries ds) name)) (first-stands Stands (entries ds) (stand-from [] ds refl) name)

-- names that mean messages with one index are one name
pub messages-apart : (p : Contents) → Made p → (new : List FileDescriptorProto) → (x y : List ℕ) (d e : Definition) (m : ℕ)
    → finite.get (setting_with p new).names x ≡ Some d → finite.get (setting_with p new).names y ≡ Some e
    → message_index d.kind ≡ Some m → message_index e.kind ≡ Some m → x ≡ y
messages-apart p made new x y d e m at-x at-y of-x of-y =
    let first = stands x d at-x of-x in
    let second = stands y e at-y of-y in
    let both : Some x ≡ Some y = sym first ∙ second in
    cc
  where
    stands : (name : List ℕ) (def : Definition) → finite.get (setting_with p new).names name ≡ Some def → message_index def.kind ≡ Some m
        → slice_get (message_names (declarations no_counts (files_of p ++ new))) m ≡ Some name
    stands name def is of =
        let fs = files_of p ++ new in
        let got : finite.get (names (entries (declarations no_counts fs))) name ≡ Some def = sym (ap (λ held. finite.get held name) (names-whole p (made-sound p made).known new)) ∙ is in
        subst (λ got. IfSome got (λ m. slice_get (message_names (declarations no_counts fs)) m ≡ Some name)) of
        (subst (λ got. IfSome got (Stands fs name)) got (names-stand fs name))
