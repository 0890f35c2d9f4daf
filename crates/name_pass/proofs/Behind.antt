-- Behind the names of entries a name has the holder that it has behind the entries themselves.
use Rattle.std.proofs.Common.{◌≡◌, ℕ, List, [], ◌∷◌, ◌++◌, refl, ap, sym, ◌∙◌, append-nil, append_assoc}
use Rattle.std.specs.FinMap as finite
use Rattle.pool_types.specs.Contents.{ByText}
use Rattle.pool_types.specs.declared.contents.definition.Definition.{Definition}
use Rattle.proto_types.specs.declared.file.FileDescriptorProto.{FileDescriptorProto}
use Rattle.proto_types.specs.Readers.{text_of}
use Rattle.plain_data.specs.Lists.{after_each}
use Rattle.name_tables.specs.Entries.{Entry, names_with}
use Rattle.name_tables.proofs.Entries.{get-with, with-more}
use Rattle.record_walk.specs.Protos.{of_file}
use Rattle.record_walk.specs.Shown.{Shown}
use Rattle.record_walk.specs.Telling.{with_faults}
use Rattle.record_walk.proofs.Telling.{told-two}
use Rattle.name_pass.specs.Syntax.{syntax_faults}
use Rattle.name_pass.specs.Names.{entries_of, entries, file_entries_of, file_entries}
use Rattle.name_pass.specs.FirstPass.{clashes, file_faults, file_name_faults, first_faults, holder, holder_faults, shape_faults}
use Rattle.name_pass.specs.Steps.{NameState, entered, known, name_step}
use Rattle.name_pass.proofs.Holders.{after-append}

pub holder-behind : {X : Type 0} (names : ByText X) (es before : List (List ℕ × X)) (name : List ℕ)
    → holder (names_with names es) before name ≡ holder names (es ++ before) name
holder-behind names es before name =
    sym (get-with (names_with names es) before name) ∙ ap (λ more. finite.get more name) (with-more names es before) ∙ get-with names (es ++ before) name

-- what is read after each of those before it, in two ways that agree behind further ones
after-behind : {X Y : Type 0} (f g : List X → X → List Y) (earlier : List X) → ((before : List X) (x : X) → f before x ≡ g (earlier ++ before) x)
    → (before xs : List X) → after_each f before xs ≡ after_each g (earlier ++ before) xs
after-behind f g earlier same before [] = refl
after-behind f g earlier same before (x ∷ xs) = λ i. same before x i
    ++ (after-behind f g earlier same (before ++ x ∷ []) xs ∙ ap (λ ys. after_each g ys xs) (sym (append_assoc earlier before (x ∷ [])))) i

module _ (files : List FileDescriptorProto) where
  clashes-behind : (names : ByText Definition) (es before more : List Entry) → clashes files (names_with names es) before more ≡ clashes files names (es ++ before) more
  clashes-behind names es =
      after-behind (λ before e. holder_faults files (holder (names_with names es) before e.0) e) (λ before e. holder_faults files (holder names before e.0) e)
      es (λ before e. ap (λ held. holder_faults files held e) (holder-behind names es before e.0))

  file-faults-behind : (names : ByText ℕ) (es before : List (List ℕ × ℕ)) (d : Shown) → file_faults files (names_with names es) before d ≡ file_faults files names (es ++ before) d
  file-faults-behind names es before d =
      elim d.proto as (λ q. file_faults files (names_with names es) before (record d { proto = q }) ≡ file_faults files names (es ++ before) (record d { proto = q })) [
        | of_file f ↦ ap (λ held. syntax_faults files d.file f ++ file_name_faults held (text_of f.name)) (holder-behind names es before (text_of f.name))
        | _ ↦ refl
      ]

  -- what all that follow a declaration break
  pub all-behind : (state : NameState) (d : Shown) (ds : List Shown)
      → after_each (first_faults files (known (name_step files state d))) [] ds ≡ after_each (first_faults files (known state)) (d ∷ []) ds
  all-behind state d ds = after-behind (first_faults files (known (name_step files state d))) (first_faults files (known state)) (d ∷ []) (λ before e i.
      file-faults-behind state.file_names (file_entries_of d) (file_entries before) e i
      ++ clashes-behind state.names (entries_of d) (entries before) (entries_of e) i ++ shape_faults files e) [] ds

  -- one more entry behind entries
  pub entered-more : (state : NameState) (es : List Entry) (e : Entry) → entered files (entered files state es) (e ∷ []) ≡ entered files state (es ++ e ∷ [])
  entered-more state es e =
      let fault = λ (before : List Entry) (e : Entry). holder_faults files (holder state.names before e.0) e in
      let before = clashes files state.names [] es in
      let next = clashes files (names_with state.names es) [] (e ∷ []) in
      let own = clashes-behind state.names es [] (e ∷ []) ∙ append-nil (fault (es ++ []) e) ∙ ap (λ before. fault before e) (append-nil es) in
      λ i. record state {
        names = with-more state.names es (e ∷ []) i;
        faults = (told-two state.faults before next ∙ ap (with_faults state.faults) (ap (λ last. before ++ last) own ∙ sym (after-append fault [] es e))) i;
      }
