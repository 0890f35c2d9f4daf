-- One more declaration is shown to the second pass.
use Rattle.std.proofs.Common.{◌≡◌, ◌↔◌, true, List, [], ◌∷◌, ◌++◌, refl, ap, sym, ◌∙◌, append-nil, append_assoc}
use Rattle.std.specs.List.{fold}
use Rattle.pool_types.specs.declared.contents.extension.ExtensionDescriptorInner.{ExtensionDescriptorInner}
use Rattle.record_walk.specs.declared.faults.Faults.{Faults as PassFaults}
use Rattle.record_walk.specs.Faults.{told_in}
use Rattle.record_walk.specs.FullNames.{CanBeRead}
use Rattle.record_walk.specs.Parts.{is_part}
use Rattle.record_walk.specs.Protos.{Proto, of_file, of_message, of_field, of_oneof, of_service, of_method, of_enum, of_value, of_extension}
use Rattle.record_walk.specs.Visitor.{HasSeen, Progress}
use Rattle.record_walk.specs.Shown.{Shown}
use Rattle.record_walk.specs.Telling.{with_faults}
use Rattle.reference_pass.specs.SecondPass.{owner_faults}
use Rattle.reference_pass.specs.Setting.{Setting}
use Rattle.reference_pass.specs.declared.items.NewItems.{NewItems}
use Rattle.reference_pass.specs.declared.resolve.ResolveVisitor.{ResolveVisitor}
use Rattle.reference_pass.specs.declared.reading.Reading.{Reading}
use Rattle.reference_pass.specs.Reading.{setting_of}
use Rattle.reference_pass.specs.State.{state_of}
use Rattle.reference_pass.specs.Resolve.{ReferenceState, reference_progress, reference_step, with_declarations}
use Rattle.reference_pass.proofs.Steps.{with-none}

-- what further declarations make of a state
abbrev after : Setting → ReferenceState → List Shown → Progress
after s a ds = reference_progress (fold (reference_step s) a ds)

-- what is held with these items and faults, behind extensions
abbrev pub held : List ExtensionDescriptorInner → NewItems → PassFaults → ReferenceState
held old items faults = record {
  messages = items.messages.items;
  enums = items.enums.items;
  services = items.services.items;
  extensions = old ++ items.extensions.items;
  faults = told_in faults;
}

-- what is held then is what the declaration makes of what was held
shown : (s t : Setting) (a b : ReferenceState) (d : Shown) → t ≡ s → CanBeRead (d ∷ []) → b ≡ reference_step s a d
    → HasSeen (after s a) CanBeRead (after t b) CanBeRead (d ∷ [])
shown s t a b d same can is = record {
  after_is = λ rest i. after (same i) (is i) rest;
  ready_is = λ rest. (λ (all : CanBeRead rest). (can.0, all), λ (all : CanBeRead (d ∷ rest)). all.1);
}

-- the same, where what the declaration breaks is told behind what was told
pub seen : (v : ResolveVisitor) (items : NewItems) (reading : Reading) (d : Shown) → setting_of reading ≡ setting_of v.reading → CanBeRead (d ∷ [])
    → held v.pool.extensions.now items reading.faults
    ≡ record (reference_step (setting_of v.reading) (state_of v) d) { faults = with_faults (told_in v.reading.faults) (owner_faults (setting_of v.reading) (state_of v).extensions d) }
    → HasSeen (after (setting_of v.reading) (state_of v)) CanBeRead (after (setting_of reading) (held v.pool.extensions.now items reading.faults)) CanBeRead (d ∷ [])
seen v items reading d same can is =
    let s = setting_of v.reading in
    let step = reference_step s (state_of v) d in
    let told = sym (append-nil (owner_faults s (state_of v).extensions d)) in
    shown s (setting_of reading) (state_of v) (held v.pool.extensions.now items reading.faults) d same can
    (is ∙ (λ i. record step { faults = with_faults (told_in v.reading.faults) (told i) }))

-- where no item of a kind is made, what there was is all
pub none : {X : Type 0} {xs ys : List X} → ys ≡ xs → ys ≡ xs ++ []
none {X} {xs} is = is ∙ sym (append-nil xs)

-- so it is behind others, and so where one is made
pub none-behind : {X : Type 0} {xs ys : List X} (old : List X) → ys ≡ xs → old ++ ys ≡ (old ++ xs) ++ []
none-behind old is = none (ap (λ zs. old ++ zs) is)

pub one-behind : {X : Type 0} {ys : List X} (old xs zs : List X) → ys ≡ xs ++ zs → old ++ ys ≡ (old ++ xs) ++ zs
one-behind old xs zs is = ap (λ ws. old ++ ws) is ∙ sym (append_assoc old xs zs)

-- a declaration of which nothing is made changes nothing
pub passed : (v : ResolveVisitor) (d : Shown) → reference_step (setting_of v.reading) (state_of v) d ≡ with_declarations (setting_of v.reading) (state_of v) []
    → CanBeRead (d ∷ []) → HasSeen (after (setting_of v.reading) (state_of v)) CanBeRead (after (setting_of v.reading) (state_of v)) CanBeRead (d ∷ [])
passed v d nothing can =
    let s = setting_of v.reading in
    shown s s (state_of v) (state_of v) d refl can (sym (nothing ∙ with-none s (state_of v)))

-- nothing is made of a part
part-stays : (s : Setting) (a : ReferenceState) (d : Shown) (p : Proto) → is_part p ≡ true → with_declarations s a (record d { proto = p } ∷ []) ≡ a
part-stays s a d (of_field f) part = with-none s a
part-stays s a d (of_oneof o) part = with-none s a
part-stays s a d (of_method m) part = with-none s a
part-stays s a d (of_value v) part = with-none s a
part-stays s a d (of_file f) part = absurd (cc)
part-stays s a d (of_message m) part = absurd (cc)
part-stays s a d (of_service v) part = absurd (cc)
part-stays s a d (of_enum e) part = absurd (cc)
part-stays s a d (of_extension x) part = absurd (cc)

-- so parts change nothing
pub parts-change-nothing : (v : ResolveVisitor) (d : Shown) (rest : List Shown) → is_part d.proto ≡ true → CanBeRead (d ∷ [])
    → (after (setting_of v.reading) (state_of v) (d ∷ rest) ≡ after (setting_of v.reading) (state_of v) rest) × (CanBeRead (d ∷ rest) ↔ CanBeRead rest)
parts-change-nothing v d rest part can =
    let s = setting_of v.reading in
    (ap (λ a. after s a rest) (part-stays s (state_of v) d d.proto part), (λ (all : CanBeRead (d ∷ rest)). all.1, λ (all : CanBeRead rest). (can.0, all)))
