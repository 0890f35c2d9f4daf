-- A declaration that is carried to another setting, behind the same extensions: it breaks nothing.
use Rattle.std.proofs.Common.{◌≡◌, ◌<◌, ℕ, ℤ, Option, Some, List, [], refl}
use Rattle.std.specs.FinMap as finite
use Rattle.pool_types.specs.declared.contents.extension.ExtensionDescriptorInner.{ExtensionDescriptorInner}
use Rattle.record_walk.specs.Changed.{Changes, changed}
use Rattle.record_walk.specs.Protos.{Proto, of_file, of_message, of_service, of_enum, of_extension}
use Rattle.record_walk.specs.Shown.{Shown}
use Rattle.reference_pass.specs.SecondPass.{owner_faults}
use Rattle.reference_pass.specs.Setting.{Setting}
use Rattle.pool_laws.proofs.Settings.{ImportsMean}
use Rattle.pool_laws.proofs.Carries.{Carries}
use Rattle.pool_laws.proofs.Enums.{values-still}
use Rattle.pool_laws.proofs.Extensions.{extension-carried}
use Rattle.pool_laws.proofs.Imports.{imports-still}
use Rattle.pool_laws.proofs.Messages.{message-carried}
use Rattle.pool_laws.proofs.Services.{service-carried}
use Rattle.pool_laws.proofs.AllOf.{all-of}

-- where all names of files stay
pub all-mean : (s t : Setting) → ((name : List ℕ) (n : ℕ) → finite.get s.file_names name ≡ Some n → finite.get t.file_names name ≡ Some n) → (p : Proto) → ImportsMean s t p
all-mean s t stay (of_file f) = all-of stay f.dependency
all-mean s t stay _ = tt

module _ {s t : Setting} {c : Changes} {many : ℕ} (carries : Carries s t c many) (earlier : List ExtensionDescriptorInner) where
  by-record : (p : Proto) (file : ℕ) (parent : Option ℕ) (index : ℕ) (path : List ℤ) (full_name : List ℕ)
      → let d : Shown = record { file = file; parent = parent; index = index; path = path; full_name = full_name; proto = p } in
      file < many → ImportsMean s t p → owner_faults s earlier d ≡ [] → owner_faults t earlier (changed c d) ≡ []
  by-record (of_file f) file parent index path full_name below mean none = imports-still s t index f mean none
  by-record (of_message m) file parent index path full_name below mean none =
      let d : Shown = record { file = file; parent = parent; index = index; path = path; full_name = full_name; proto = of_message m } in
      (message-carried carries d below m none).faults
  by-record (of_service v) file parent index path full_name below mean none =
      let d : Shown = record { file = file; parent = parent; index = index; path = path; full_name = full_name; proto = of_service v } in
      (service-carried carries.methods d below v none).faults
  by-record (of_enum e) file parent index path full_name below mean none =
      let d : Shown = record { file = file; parent = parent; index = index; path = path; full_name = full_name; proto = of_enum e } in
      values-still s.files t.files d d e none
  by-record (of_extension x) file parent index path full_name below mean none =
      let d : Shown = record { file = file; parent = parent; index = index; path = path; full_name = full_name; proto = of_extension x } in
      (extension-carried carries d below x earlier none).faults
  by-record _ file parent index path full_name below mean none = refl

  pub declaration-carried : (d : Shown) → d.file < many → ImportsMean s t d.proto → owner_faults s earlier d ≡ [] → owner_faults t earlier (changed c d) ≡ []
  declaration-carried d = by-record d.proto d.file d.parent d.index d.path d.full_name
