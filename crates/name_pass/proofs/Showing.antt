-- One more declaration is shown to the first pass.
use Rattle.std.proofs.Common.{◌≡◌, Result, Ok, Err, OnOk, ℕ, suc, List, [], ◌∷◌, ◌++◌, length, map, take, refl, ap, subst, sym, ◌∙◌}
use Rattle.std.specs.List.{fold}
use Rattle.pool_faults.specs.declared.fault.DescriptorErrorKind.{DescriptorErrorKind}
use Rattle.record_walk.specs.declared.faults.Faults.{Faults}
use Rattle.pool_types.specs.Contents.{ByText, Contents, no_contents}
use Rattle.pool_types.specs.declared.contents.file.FileDescriptorInner.{FileDescriptorInner}
use Rattle.name_tables.specs.NameTables.{file_names_before, without_files_from}
use Rattle.pool_types.specs.declared.contents.definition.Definition.{Definition}
use Rattle.record_walk.specs.Faults.{told_in}
use Rattle.record_walk.specs.Telling.{with_faults}
use Rattle.record_walk.specs.Visitor.{HasSeen}
use Rattle.record_walk.proofs.Telling.{told-two}
use Rattle.proto_types.specs.declared.file.FileDescriptorProto.{FileDescriptorProto}
use Rattle.name_tables.specs.Entries.{names_with}
use Rattle.name_tables.proofs.Entries.{with-nothing}
use Rattle.record_walk.specs.Shown.{Shown}
use Rattle.name_pass.specs.declared.names.NameVisitor.{NameVisitor}
use Rattle.name_pass.specs.Scopes.{FollowScopes, scope_level, scopes_behind}
use Rattle.name_pass.specs.State.{IsReady, records_of, scopes_of, state_of, Stays}
use Rattle.name_pass.specs.Names.{own_entry}
use Rattle.name_pass.specs.FirstPass.{clashes}
use Rattle.name_pass.specs.Steps.{CanBeEntered, NameState, entered, name_progress, name_step}
use borrow.Rule.Reborrow.{re_v}

-- what stays in two steps
pub stays-on : {old now new : NameVisitor} → Stays old now → Stays now new → Stays old new
stays-on first second = record {
  files = second.files ∙ first.files;
  kept = second.kept ∙ first.kept;
  borrows = second.borrows ∙ first.borrows;
}

-- what a roll-back leaves where labels name these files and names mean this
abbrev kept_with : NameVisitor → List FileDescriptorInner → ByText Definition → Contents
kept_with v files names = record no_contents {
  files = take v.first files;
  names = without_files_from (length (take v.first files)) names;
  file_names = file_names_before (length (take v.first files)) v.file_names.now;
}

-- what stays where faults come
pub stays-told : (v : NameVisitor) (faults : Faults) → faults.labels ≡ v.faults.now.labels → Stays v (record v { faults = re_v faults v.faults })
stays-told v faults same = record {
  files = same;
  kept = λ i. kept_with v (same i) v.names.now.0;
  borrows = refl;
}

-- what stays where scopes open or close, and nothing else changes
pub stays-scoped : (v : NameVisitor) (names : ByText Definition × List (List ℕ)) → names.0 ≡ v.names.now.0 → Stays v (record v { names = re_v names v.names })
stays-scoped v names same = record {
  files = refl;
  kept = λ i. kept_with v v.faults.now.labels (same i);
  borrows = refl;
}

-- a visitor that has been shown one more declaration
abbrev pub HasBeenShown : NameVisitor → NameVisitor → Shown → Type 0
HasBeenShown old new d = HasSeen (λ ds. name_progress (fold (name_step (records_of old)) (state_of old) ds)) (IsReady old)
    (λ ds. name_progress (fold (name_step (records_of new)) (state_of new) ds)) (IsReady new) (d ∷ [])

-- it holds then what the declaration makes of what it held, and has the scopes open that this leaves
pub shown : (old new : NameVisitor) (d : Shown) → Stays old new → IsReady old (d ∷ []) → scopes_of new ≡ scopes_behind (scopes_of old) d
    → state_of new ≡ name_step (records_of old) (state_of old) d → HasBeenShown old new d
shown old new d stays can scopes is =
    let same = ap (λ (c : Contents). length c.files) stays.kept in
    record {
      after_is = λ rest i. name_progress (fold (name_step (map (λ f. f.raw) (stays.files i))) (is i) rest);
      ready_is = λ rest. (
        λ (all : IsReady new rest). (
          (can.0.0, subst (λ first. CanBeEntered first rest) same all.0),
          (can.1.0, subst (λ now. FollowScopes now rest) scopes all.1),
        ),
        λ (all : IsReady old (d ∷ rest)). (
          subst (λ first. CanBeEntered first rest) (sym same) all.0.1,
          subst (λ now. FollowScopes now rest) (sym scopes) all.1.1,
        ),
      );
    }

-- what a declaration other than a file breaks by itself, behind its name
abbrev BreaksOwn : NameVisitor → Shown → List DescriptorErrorKind → Type 0
BreaksOwn v d own = let state = state_of v in name_step (records_of v) state d ≡ record {
  names = names_with state.names (own_entry d ∷ []);
  file_names = names_with state.file_names [];
  faults = with_faults state.faults (clashes (records_of v) state.names [] (own_entry d ∷ []) ++ own);
}

-- the scopes behind a declaration other than a file
abbrev OpensOwn : NameVisitor → Shown → Type 0
OpensOwn v d = take (suc (scope_level d)) (scopes_of v) ++ d.full_name ∷ [] ≡ scopes_behind (scopes_of v) d

pub both-ok : {U E P Q R : Type 0} (r : Result U E) → (P → Q → R) → OnOk r P → OnOk r Q → OnOk r R
both-ok (Ok u) then p q = then p q
both-ok (Err e) then p q = tt

-- a declaration whose name comes by its level and its full name
module _ (old here : NameVisitor) (d : Shown) (stays : Stays old here) (can : IsReady old (d ∷ [])) (opens : OpensOwn old d)
    (level : ℕ) (full_name : List ℕ) (level_is : level ≡ scope_level d) (name_is : full_name ≡ d.full_name) where
  -- what its name makes of names, and of scopes
  abbrev IsEntered : Type 0
  IsEntered = state_of here ≡ entered (records_of old) (state_of old) ((full_name, (own_entry d).1) ∷ [])

  abbrev IsOpened : Type 0
  IsOpened = scopes_of here ≡ take (suc level) (scopes_of old) ++ full_name ∷ []

  -- its name is entered, and then comes what it breaks by itself
  pub shown-own : (faults : Faults) (own : List FileDescriptorProto → List DescriptorErrorKind) → BreaksOwn old d (own (records_of old))
      → IsEntered → IsOpened → told_in faults ≡ with_faults (told_in here.faults.now) (own (records_of here))
      → faults.labels ≡ here.faults.now.labels → HasBeenShown old (record here { faults = re_v faults here.faults }) d
  shown-own faults own is-own entering opening told same =
      let state = state_of old in
      let clash = clashes (records_of old) state.names [] (own_entry d ∷ []) in
      let named = entering ∙ ap (λ name. entered (records_of old) state ((name, (own_entry d).1) ∷ [])) name_is in
      let scopes = opening ∙ (λ i. take (suc (level_is i)) (scopes_of old) ++ name_is i ∷ []) ∙ opens in
      shown old (record here { faults = re_v faults here.faults }) d (stays-on stays (stays-told here faults same)) can scopes ((λ i. record {
        names = (named i).names;
        file_names = (ap (λ (s : NameState). s.file_names) named ∙ sym (with-nothing state.file_names)) i;
        faults = (told ∙ (λ j. with_faults (named j).faults (own (map (λ f. f.raw) (stays.files j)))) ∙ told-two state.faults clash (own (records_of old))) i;
      }) ∙ sym is-own)

  -- its name is entered, and it breaks nothing by itself
  pub shown-named : {U E : Type 0} (r : Result U E) → BreaksOwn old d [] → OnOk r IsEntered → OnOk r IsOpened → OnOk r (HasBeenShown old here d)
  shown-named r is-own entering opening =
      both-ok r (λ named opened. shown-own here.faults.now (λ files. []) is-own named opened refl refl) entering opening
