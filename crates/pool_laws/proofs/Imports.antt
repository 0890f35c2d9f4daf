-- The imports of a file that break nothing break nothing where their names mean what they meant.
use Rattle.std.proofs.Common.{◌≡◌, ℕ, suc, not, is_some, Option, None, Some, List, [], ◌∷◌, ◌++◌, refl, ap}
use Rattle.std.specs.FinMap as finite
use Rattle.std.specs.List.{flat_map}
use Rattle.plain_data.specs.Lists.{only_if}
use Rattle.proto_types.specs.declared.file.FileDescriptorProto.{FileDescriptorProto}
use Rattle.pool_faults.specs.declared.fault.DescriptorErrorKind.{DescriptorErrorKind}
use Rattle.reference_pass.specs.Imports.{import_faults, index_fault, missing_file, missing_files}
use Rattle.reference_pass.specs.Setting.{Setting}
use Rattle.pool_laws.proofs.Settings.{NamesStay}
use Rattle.reference_pass.proofs.Unbroken.{both-empty}
use Rattle.pool_laws.proofs.Told.{told, told-parts}

-- of imports and both lists of their indexes, nothing
pub import-parts : (s : Setting) (i : ℕ) (f : FileDescriptorProto) → import_faults s i f ≡ []
    → (missing_files s i f.dependency ≡ []) × (flat_map (index_fault f.dependency) f.public_dependency ≡ []) × (flat_map (index_fault f.dependency) f.weak_dependency ≡ [])
import-parts s i f none =
    let public = flat_map (index_fault f.dependency) f.public_dependency in
    let two = both-empty (missing_files s i f.dependency ++ public) (flat_map (index_fault f.dependency) f.weak_dependency) none in
    let one = both-empty (missing_files s i f.dependency) public two.0 in
    (one.0, one.1, two.1)

-- the imports of a file whose files are there once more
pub imports-by : (s t : Setting) (i j : ℕ) (f : FileDescriptorProto) → (missing_files s i f.dependency ≡ [] → missing_files t j f.dependency ≡ []) → import_faults s i f ≡ [] → import_faults t j f ≡ []
imports-by s t i j f by none = let parts = import-parts s i f none in λ k. by parts.0 k ++ parts.1 k ++ parts.2 k

-- what is there stays there
missing-still : (old now : Option ℕ) (a b : DescriptorErrorKind) → ((n : ℕ) → old ≡ Some n → now ≡ Some n) → only_if (not (is_some old)) a ≡ [] → only_if (not (is_some now)) b ≡ []
missing-still None now a b stay none = absurd (cc)
missing-still (Some n) now a b stay none = ap (λ found. only_if (not (is_some found)) b) (stay n refl)

module _ (s t : Setting) (index : ℕ) where
  files-still : (k : ℕ) (names : List (List ℕ)) → NamesStay s t names → told (missing_file s index) k names ≡ [] → told (missing_file t index) k names ≡ []
  files-still k [] stay none = refl
  files-still k (name ∷ names) stay none =
      let parts = told-parts (missing_file s index) k name names none in
      let here : missing_file t index k name ≡ [] = missing-still (finite.get s.file_names name) (finite.get t.file_names name) _ _ stay.0 parts.0 in
      λ i. here i ++ files-still (suc k) names stay.1 parts.1 i

  pub imports-still : (f : FileDescriptorProto) → NamesStay s t f.dependency → import_faults s index f ≡ [] → import_faults t index f ≡ []
  imports-still f stay = imports-by s t index index f (files-still 0 f.dependency stay)
