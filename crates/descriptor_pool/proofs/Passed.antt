-- What a pass has found once its visitor has been shown all declarations, and is gone.
use Rattle.descriptor_pool.specs.GivenBack.{GivesBack, breaks_rules}
use Rattle.descriptor_pool.specs.declared.error.BuildError.TheVariants.{TooMany, Descriptor, OutOfMemory}
use Rattle.std.proofs.Common.{rules, IsTrue, ◌≡◌, ℕ, true, List, [], ◌∷◌, ◌++◌, length, ap, sym, subst, ◌∙◌, append-nil, Option, None, Some, Result, Ok, Err, OnOk, OnErr, IfErr, arith}
use Rattle.std.specs.Prelude.{max}
use Rattle.std.proofs.lemmas.List.{length-take, nil_from_length}
use Rattle.std.specs.List.{fold}
use Rattle.std.specs.Result.{is_err}
use Rattle.std.specs.declared.alloc.AllocError.{AllocError}
use Rattle.record_walk.specs.declared.faults.Faults.{Faults as PassFaults}
use Rattle.pool_types.specs.Contents.{ByText, Contents, no_contents}
use Rattle.pool_types.specs.declared.contents.extension.ExtensionDescriptorInner.{ExtensionDescriptorInner}
use Rattle.pool_types.specs.declared.contents.file.FileDescriptorInner.{FileDescriptorInner}
use Rattle.proto_types.specs.declared.file.FileDescriptorProto.{FileDescriptorProto}
use Rattle.record_walk.specs.declared.counts.Counts.{Counts}
use Rattle.record_walk.specs.Declarations.{declarations}
use Rattle.pool_types.specs.declared.contents.definition.Definition.{Definition}
use Rattle.name_tables.specs.NameTables.{file_names_before, without_files_from}
use Rattle.record_walk.specs.Visitor.{HasSeen, Progress}
use Rattle.record_walk.specs.Shown.{Shown}
use Rattle.record_walk.specs.Faults.{told_in}
use Rattle.record_walk.specs.Telling.{Telling, first_of, nothing_told, with_faults}
use Rattle.record_walk.proofs.Telling.{told-list}
use Rattle.name_pass.specs.declared.names.NameVisitor.{NameVisitor}
use Rattle.name_pass.specs.State.{borrows_of, first_new, kept_of, records_of, state_of}
use Rattle.name_pass.specs.Steps.{NameState, name_progress, name_step, state_at}
use Rattle.reference_pass.specs.Items.{extension_items}
use Rattle.reference_pass.specs.Setting.{Setting}
use Rattle.reference_pass.specs.SecondPass.{second_pass, Faults}
use Rattle.reference_pass.specs.declared.items.NewItems.{NewItems}
use Rattle.reference_pass.specs.declared.resolve.ResolveVisitor.{ResolveVisitor}
use Rattle.reference_pass.specs.State.{state_of as state_of_references}
use Rattle.reference_pass.specs.Resolve.{ReferenceState, reference_progress, reference_step}
use Rattle.reference_pass.proofs.Seen.{held}
use Rattle.descriptor_pool.specs.Items.{HasItems}
use Rattle.descriptor_pool.proofs.ItemsFold.{faults-seen, fold-seen}
use Rattle.descriptor_pool.specs.declared.error.BuildError.{BuildError}
use Rattle.descriptor_pool.specs.Error.{TellsAll, TellsFaults, TellsFirst}

-- the first, the second and the third of some numbers
abbrev first-of : List ℕ → ℕ
first-of [] = 0
first-of (n ∷ ns) = n

abbrev second-of : List ℕ → ℕ
second-of [] = 0
second-of (n ∷ ns) = first-of ns

abbrev third-of : List ℕ → ℕ
third-of [] = 0
third-of (n ∷ ns) = second-of ns

-- the names and faults that are left once a visitor is gone that was shown all and held them, and began under the same borrows
module _ (new : NameVisitor) {m n k : ℕ} (same : borrows_of new ≡ m ∷ n ∷ k ∷ [])
    (x : ByText Definition × List (List ℕ)) (x-is : m ≡ new.names.ghost_name → x ≡ new.names.now)
    (y : ByText ℕ) (y-is : n ≡ new.file_names.ghost_name → y ≡ new.file_names.now) where
  names-left : x ≡ new.names.now
  names-left = x-is (sym (ap first-of same))

  file-names-left : y ≡ new.file_names.now
  file-names-left = y-is (sym (ap second-of same))

  pub names-end : (z : PassFaults) → (k ≡ new.faults.ghost_name → z ≡ new.faults.now) → (r : Result (Unit {0}) AllocError)
      → (records : List FileDescriptorProto) (state : NameState) (ds : List Shown) (A : List Shown → Progress) (R S : List Shown → Type 0)
      → A (ds ++ []) ≡ name_progress (fold (name_step records) state (ds ++ []))
      → OnOk r (HasSeen A R (λ es. name_progress (fold (name_step (records_of new)) (state_of new) es)) S ds)
      → OnOk r (state_at x.0 y (told_in z) ≡ fold (name_step records) state ds)
  names-end z z-is (Ok u) records state ds A R S began seen =
      let faults-left = ap told_in (z-is (sym (ap third-of same))) in
      let is = seen.after_is [] ∙ began ∙ (λ i. name_progress (fold (name_step records) state (append-nil ds i))) in
      λ i. state_at (((λ i. (names-left i).0) ∙ ap (λ (p : Progress). p.contents.names) is) i) ((file-names-left ∙ ap (λ (p : Progress). p.contents.file_names) is) i)
      ((faults-left ∙ ap (λ (p : Progress). p.faults) is) i)
  names-end z z-is (Err e) records state ds A R S began seen = tt

  -- the names of earlier files stay
  module _ (first : ℕ) (files : List FileDescriptorInner) (names : ByText Definition) (file_names : ByText ℕ) (here : length files ≡ first)
      (kept : kept_of new ≡ record no_contents { files = files; names = without_files_from (length files) names; file_names = file_names_before (length files) file_names }) where
    here-still : first_new new ≡ first
    here-still = ap (λ (c : Contents). length c.files) kept ∙ here

    pub names-stay : without_files_from first x.0 ≡ without_files_from first names
    names-stay =
        (λ i. without_files_from first (names-left i).0) ∙ (λ i. without_files_from (sym here-still i) new.names.now.0)
        ∙ ap (λ (c : Contents). c.names) kept ∙ (λ i. without_files_from (here i) names)

    pub file-names-stay : file_names_before first y ≡ file_names_before first file_names
    file-names-stay =
        ap (file_names_before first) file-names-left ∙ (λ i. file_names_before (sym here-still i) new.file_names.now)
        ∙ ap (λ (c : Contents). c.file_names) kept ∙ (λ i. file_names_before (here i) file_names)

-- a second pass that has made nothing yet behind the extensions of a pool, where this is told
abbrev pub no_items : Telling → List ExtensionDescriptorInner → ReferenceState
no_items told old = record { messages = []; enums = []; services = []; extensions = old; faults = told }

pub nothing-held : (old : List ExtensionDescriptorInner) (items : NewItems) (faults : PassFaults) (told : Telling) → items.messages.items ≡ [] → items.enums.items ≡ [] → items.services.items ≡ [] → items.extensions.items ≡ []
    → told_in faults ≡ told → held old items faults ≡ no_items told old
nothing-held old items faults told ms es ss xs same = λ i. record { messages = ms i; enums = es i; services = ss i; extensions = (ap (λ ys. old ++ ys) xs ∙ append-nil old) i; faults = same i }

abbrev tail : {X : Type 0} → List X → List X
tail [] = []
tail (x ∷ xs) = xs

append-same : {X : Type 0} (old xs ys : List X) → old ++ xs ≡ old ++ ys → xs ≡ ys
append-same [] xs ys same = same
append-same (o ∷ os) xs ys same = append-same os xs ys (ap tail same)

-- the items and the faults that a visitor of the second pass has once it was shown all that files declare, and began with none, behind the extensions of a pool
pub references-end : (s : Setting) (v : ResolveVisitor) (old : List ExtensionDescriptorInner) (began : ReferenceState) (told : Telling) (base : Counts) (fs : List FileDescriptorProto)
    → began ≡ no_items told old → v.pool.extensions.now ≡ old
    → reference_progress (state_of_references v) ≡ reference_progress (fold (reference_step s) began (declarations base fs ++ []))
    → HasItems v.items s (declarations base fs) × (told_in v.reading.faults ≡ with_faults told (second_pass s old (declarations base fs)))
references-end s v old began told base fs none kept seen =
    let ds = declarations base fs in
    let e = seen ∙ (λ i. reference_progress (fold (reference_step s) (none i) (append-nil ds i))) ∙ ap reference_progress (fold-seen s (no_items told old) ds) in (
      record {
        messages = ap (λ (p : Progress). p.contents.messages) e;
        enums = ap (λ (p : Progress). p.contents.enums) e;
        services = ap (λ (p : Progress). p.contents.services) e;
        extensions = append-same old v.items.extensions.items (extension_items s ds)
            (ap (λ xs. xs ++ v.items.extensions.items) (sym kept) ∙ ap (λ (p : Progress). p.contents.extensions) e);
      },
      ap (λ (p : Progress). p.faults) e ∙ ap (with_faults told) (faults-seen s old base fs),
    )

-- at least one of some faults is kept
none-kept : (most : Option ℕ) (all : Faults) → first_of most all ≡ [] → all ≡ []
none-kept None all none = none
none-kept (Some most) all none = nil_from_length all (omega (arith, length-take (max 1 most) all, ap length none))

-- a pass that is refused with its first faults tells them
pub refuse-tells : {U : Type 0} (most : Option ℕ) (r : Result U BuildError) (told : Telling) (all : Faults) → OnOk r (told.first ≡ []) → IfErr r (λ error. TellsFirst error told.first told.rest)
    → told ≡ with_faults (nothing_told most) all → TellsAll most r all
refuse-tells most (Ok u) told all ok err same = none-kept most all (sym (ap (λ (t : Telling). t.first) (same ∙ told-list most all)) ∙ ok)
refuse-tells most (Err e) told all ok err same = let Tells : Telling → Type 0 = λ t. TellsFirst e t.first t.rest in subst Tells (same ∙ told-list most all) err

pub tells-err : {U : Type 0} (most : Option ℕ) (r : Result U BuildError) (error : BuildError) (all : Faults) → r ≡ Err error → TellsFaults most error all → TellsAll most r all
tells-err most r error all is told = subst (λ x. TellsAll most x all) (sym is) told

-- what is made where no error came is another, where that is equal
pub ok-is : {X U E : Type 0} (r : Result U E) (x a b : X) → a ≡ b → OnOk r (x ≡ a) → OnOk r (x ≡ b)
ok-is (Ok u) x a b same is = is ∙ same
ok-is (Err e) x a b same is = tt

-- what holds where an error came
pub after-err : {U E P : Type 0} (r : Result U E) → true ≡ is_err r → OnErr r P → P
after-err (Ok u) failed p = absurd (search rules)
after-err (Err e) failed p = p

-- new files that were refused with an error are given back, where they are there
pub given-err : {U : Type 0} (r : Result U BuildError) (error : BuildError) (new back : List FileDescriptorProto) → r ≡ Err error → back ≡ new → GivesBack r new back
given-err {U} r error new back is same = subst (λ x. GivesBack x new back) (sym is) (given error)
  where
    given : (e : BuildError) → GivesBack {U = U} (Err e) new back
    given (TooMany kind) = same
    given (Descriptor error) = same
    given OutOfMemory = tt

-- where new files break rules, and are there, they are as many as are given back
pub room-back : {U : Type 0} (r : Result U BuildError) (new there : List FileDescriptorProto) → GivesBack r new there → IsTrue (breaks_rules r) → there ≡ new
room-back (Ok u) new there gives broken = absurd (search rules)
room-back (Err (TooMany kind)) new there gives broken = gives
room-back (Err (Descriptor error)) new there gives broken = gives
room-back (Err OutOfMemory) new there gives broken = absurd (search rules)

-- new files are given back that were there, or for which too little memory was left
pub given-back : {U : Type 0} (most : Option ℕ) (r : Result U BuildError) (faults : Faults) (new there back : List FileDescriptorProto) → TellsAll most r faults → GivesBack r new there
    → (IsTrue (breaks_rules r) → back ≡ there) → GivesBack r new back
given-back most (Ok u) faults new there back told gives given = tt
given-back most (Err (TooMany kind)) faults new there back told gives given = absurd told
given-back most (Err (Descriptor error)) faults new there back told gives given = given (search rules) ∙ gives
given-back most (Err OutOfMemory) faults new there back told gives given = tt
