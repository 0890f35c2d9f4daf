-- A file that is carried to another setting: its imports break nothing, and its item is what it was.
use Rattle.std.proofs.Common.{◌≡◌, ◌<◌, ℕ, suc, not, is_some, Option, None, Some, List, [], ◌∷◌, refl}
use Rattle.std.specs.FinMap as finite
use Rattle.std.specs.List.{cons_option, filter_map, flat_map}
use Rattle.plain_data.specs.Lists.{only_if}
use Rattle.proto_types.specs.declared.file.FileDescriptorProto.{FileDescriptorProto}
use Rattle.pool_faults.specs.declared.fault.DescriptorErrorKind.{DescriptorErrorKind}
use Rattle.record_walk.specs.declared.counts.Counts.{Counts}
use Rattle.record_walk.specs.Changed.{Changes, changed_file}
use Rattle.record_walk.specs.Declarations.{file_walk}
use Rattle.reference_pass.specs.SecondPass.{owner_faults}
use Rattle.reference_pass.specs.Imports.{missing_file}
use Rattle.reference_pass.specs.Items.{file_item}
use Rattle.reference_pass.specs.Setting.{Setting}
use Rattle.pool_laws.proofs.Settings.{IsFile, NamesStay}
use Rattle.pool_laws.proofs.Carries.{Carries}
use Rattle.pool_laws.proofs.Imports.{import-parts, imports-still}
use Rattle.pool_laws.proofs.Still.{all-unbroken, file-linked}
use Rattle.pool_laws.proofs.Told.{told, told-parts}

-- a name that is there means the same
same-file : (old now : Option ℕ) (fault : DescriptorErrorKind) → ((n : ℕ) → old ≡ Some n → now ≡ Some n) → only_if (not (is_some old)) fault ≡ [] → now ≡ old
same-file None now fault stay none = absurd (cc)
same-file (Some n) now fault stay none = stay n refl

imported : (s t : Setting) (index k : ℕ) (names : List (List ℕ)) → NamesStay s t names → told (missing_file s index) k names ≡ [] → filter_map (finite.get t.file_names) names ≡ filter_map (finite.get s.file_names) names
imported s t index k [] stay none = refl
imported s t index k (name ∷ names) stay none =
    let parts = told-parts (missing_file s index) k name names none in
    let here = same-file (finite.get s.file_names name) (finite.get t.file_names name) _ stay.0 parts.0 in
    λ j. cons_option (here j) (imported s t index (suc k) names stay.1 parts.1 j)

module _ {s t : Setting} {c : Changes} {many : ℕ} (carries : Carries s t c many) where
  pub file-carried : (base : Counts) (f : FileDescriptorProto) → base.files < many → NamesStay s t f.dependency → flat_map (owner_faults s []) (file_walk base f) ≡ []
      → IsFile t base.files (file_item s base.files f) (changed_file c base.files f)
  file-carried base f below stay none =
      let own = (all-unbroken s (file_walk base f) none).0 in
      let linked = file-linked carries base f below none in
      let dependencies = imported s t base.files 0 f.dependency stay (import-parts s base.files f own).0 in
      record {
        faults = imports-still s t base.files f stay own;
        item_is = λ j. record (file_item s base.files f) { raw = linked j; dependencies = dependencies j; transitive_dependencies = carries.sees base.files below j };
      }
