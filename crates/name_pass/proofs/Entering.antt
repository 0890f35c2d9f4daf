-- One more name comes to the first pass.
use Rattle.std.proofs.Common.{◌≡◌, ℕ, true, false, List, [], ◌∷◌, Option, Some, None, Result, Ok, Err, OnOk, OnErr, sym, append-nil}
use Rattle.std.specs.FinMap as finite
use Rattle.pool_types.specs.Contents.{ByText}
use Rattle.proto_types.specs.declared.file.FileDescriptorProto.{FileDescriptorProto}
use Rattle.pool_types.specs.declared.contents.definition.Definition.{Definition}
use Rattle.name_tables.specs.Entries.{Entry}
use Rattle.name_tables.proofs.Entries.{with-absent, with-present}
use Rattle.std.specs.Option.{option_map_or}
use Rattle.std.proofs.lemmas.Bool.{true≢false}
use Rattle.pool_types.specs.Definition.{is_package}
use Rattle.std.proofs.lemmas.Result.{on_ok_weaker}
use Rattle.pool_faults.specs.declared.fault.DescriptorErrorKind.TheVariants.{DuplicateFileName}
use Rattle.record_walk.specs.Telling.{Telling, with_faults}
use Rattle.name_pass.specs.FirstPass.{holder_faults}
use Rattle.name_pass.specs.Steps.{NameState, entered, file_named}

-- either way
pub either : {U E P Q R : Type 0} (result : Result U E) → OnOk result P → OnErr result Q → (P → R) → (Q → R) → R
either (Ok u) p q met missed = met p
either (Err e) p q met missed = missed q

module _ (files : List FileDescriptorProto) (state : NameState) (e : Entry) where
  -- which no name before it is
  pub new-name : (names : ByText Definition) → finite.get state.names e.0 ≡ None → names ≡ finite.insert state.names e.0 e.1 → record state { names = names } ≡ entered files state (e ∷ [])
  new-name names absent is = simp (with-absent state.names e.0 e.1 absent, absent, append-nil) (λ i. record state { names = is i })

  -- which has a holder
  pub held-name : (holder : Definition) (faults : Telling) → finite.get state.names e.0 ≡ Some holder
      → faults ≡ with_faults state.faults (holder_faults files (Some holder) e) → record state { faults = faults } ≡ entered files state (e ∷ [])
  held-name holder faults present told = simp (told, with-present state.names e.0 e.1 holder present, present, append-nil)

  -- which is a package that is entered again
  pub again-package : (held : Option Definition) → finite.get state.names e.0 ≡ held → option_map_or (λ holder. is_package holder.kind) held false ≡ true → is_package e.1.kind ≡ true
      → state ≡ entered files state (e ∷ [])
  again-package None present other kind = absurd (true≢false (sym other))
  again-package (Some holder) present held kind = held-name holder state.faults present (simp (held, kind, append-nil))

module _ (state : NameState) (name : List ℕ) (index : ℕ) where
  -- the name of one more file, which no file has
  pub new-file-name : {U E : Type 0} (r : Result U E) (file_names : ByText ℕ) → finite.get state.file_names name ≡ None
      → OnOk r (file_names ≡ finite.insert state.file_names name index) → OnOk r (record state { file_names = file_names } ≡ file_named state name index)
  new-file-name r file_names absent inserted = on_ok_weaker r (λ is. simp (with-absent state.file_names name index absent, absent, append-nil) (λ i. record state { file_names = is i })) inserted

  -- which a file has
  pub held-file-name : (held : ℕ) (faults : Telling) → finite.get state.file_names name ≡ Some held → faults ≡ with_faults state.faults (DuplicateFileName name ∷ [])
      → record state { faults = faults } ≡ file_named state name index
  held-file-name held faults present told = simp (told, with-present state.file_names name index held present, present)
