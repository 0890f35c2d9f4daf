-- What is left as it is: messages, services and files.
use Rattle.std.proofs.Common.{◌≡◌, ℕ, ℤ, suc, Option, List, [], ◌∷◌, map, refl, ◌∙◌}
use Rattle.std.proofs.lemmas.List.{map-id}
use Rattle.proto_types.specs.Names.{join}
use Rattle.proto_types.specs.Readers.{text_of}
use Rattle.proto_types.specs.declared.records.service.ServiceDescriptorProto.{ServiceDescriptorProto}
use Rattle.proto_types.specs.Computed.{literals}
use Rattle.proto_types.specs.declared.file.FileDescriptorProto.{FileDescriptorProto}
use Rattle.proto_types.specs.declared.message.DescriptorProto.{DescriptorProto, DescriptorProto', out-DescriptorProto, Row_of-DescriptorProto, end_of-DescriptorProto, more_of-DescriptorProto}
use Rattle.record_walk.specs.Changed.{KeepNames, changed, changed_file, changed_files, changed_message, changed_nested, changed_service}
use Rattle.record_walk.specs.Protos.{Proto, of_file, of_message, of_service}
use Rattle.record_walk.specs.Shown.{Shown}
use Rattle.pool_laws.proofs.Settings.{unchanged}
use Rattle.pool_laws.proofs.AllOf.{map-alike}

map-same : {X : Type 0} (change : X → X) → ((x : X) → change x ≡ x) → (xs : List X) → map change xs ≡ xs
map-same change same xs = map-alike change (λ x. x) same xs ∙ map-id xs

mutual
  unfolding literals

  pub message-unchanged : (file : ℕ) (full_name : List ℕ) (m : DescriptorProto) → changed_message unchanged file full_name m ≡ m
  message-unchanged file full_name (DescriptorProto' name fields n nested enums ranges extensions options oneofs reserved reserved_names) =
      λ j. DescriptorProto' name (map-id fields j) n (nested-unchanged file full_name nested j) enums ranges
      (map-id extensions j) options oneofs reserved reserved_names

  nested-unchanged : {n : _} (file : ℕ) (scope : List ℕ) (nested : Row_of-DescriptorProto n) → changed_nested unchanged file scope nested ≡ nested
  nested-unchanged file scope end_of-DescriptorProto = refl
  nested-unchanged file scope (more_of-DescriptorProto m rest) =
      let first = message-unchanged file (join scope (text_of (out-DescriptorProto m).name)) m in
      λ j. more_of-DescriptorProto (first j) (nested-unchanged file scope rest j)

pub service-unchanged : (file : ℕ) (full_name : List ℕ) (v : ServiceDescriptorProto) → changed_service unchanged file full_name v ≡ v
service-unchanged file full_name v = λ j. record v { method = map-id v.method j }

pub file-unchanged : (index : ℕ) (f : FileDescriptorProto) → changed_file unchanged index f ≡ f
file-unchanged index f =
    let messages = map-same (λ m. changed_message unchanged index (join (text_of f.«package») (text_of (out-DescriptorProto m).name)) m) (λ m. message-unchanged index (join (text_of f.«package») (text_of (out-DescriptorProto m).name)) m) f.message_type in
    let services = map-same (λ v. changed_service unchanged index (join (text_of f.«package») (text_of v.name)) v) (λ v. service-unchanged index (join (text_of f.«package») (text_of v.name)) v) f.service in
    λ j. record f { message_type = messages j; service = services j; extension = map-id f.extension j }

module _ (file : ℕ) (parent : Option ℕ) (index : ℕ) (path : List ℤ) (full_name : List ℕ) where
  abbrev shown : Proto → Shown
  shown p = record { file = file; parent = parent; index = index; path = path; full_name = full_name; proto = p }

  unchanged-by : (p : Proto) → changed unchanged (shown p) ≡ shown p
  unchanged-by (of_file f) = λ j. shown (of_file (file-unchanged file f j))
  unchanged-by (of_message m) = λ j. shown (of_message (message-unchanged file full_name m j))
  unchanged-by (of_service v) = λ j. shown (of_service (service-unchanged file full_name v j))
  unchanged-by _ = refl

pub declaration-unchanged : (d : Shown) → changed unchanged d ≡ d
declaration-unchanged d = unchanged-by d.file d.parent d.index d.path d.full_name d.proto

pub declarations-unchanged : (ds : List Shown) → map (changed unchanged) ds ≡ ds
declarations-unchanged = map-same (changed unchanged) declaration-unchanged

pub files-unchanged : (index : ℕ) (fs : List FileDescriptorProto) → changed_files unchanged index fs ≡ fs
files-unchanged index [] = refl
files-unchanged index (f ∷ fs) = λ i. file-unchanged index f i ∷ files-unchanged (suc index) fs i

pub unchanged-keeps : KeepNames unchanged
unchanged-keeps = record { fields = λ index name f. refl; extensions = λ index name x. refl; methods = λ index name m. refl }
