-- What is kept while files are asked in turn which files they see.
use Rattle.std.specs.Prelude.{◌≡◌, ◌<◌, ℕ, List}
use Rattle.std.specs.BTreeMap.{BTreeMap, get}
use Rattle.std.specs.Option.{IfSome}
use Rattle.std.specs.Ordering.{nat_cmp}
use Rattle.std.specs.declared.option.Option.{Option}
use Rattle.proto_types.specs.File.{file_at}
use Rattle.proto_types.specs.declared.file.FileDescriptorProto.{FileDescriptorProto}
use Rattle.name_resolution.specs.declared.visibility.Sight.{Sight}
use Rattle.name_resolution.specs.LastSeen.{last_seen}
use Rattle.name_resolution.specs.Visibility.{public_imports_of}

-- what is kept of a file is its public imports, under a naming of files
abbrev pub PublicsOf : List FileDescriptorProto → (List ℕ → Option ℕ) → BTreeMap ℕ (List ℕ)
    → Type 0
PublicsOf files numbers publics =
    (n : ℕ) → IfSome (get nat_cmp publics n)
    (λ found. found ≡ public_imports_of numbers (file_at files n))

-- under a naming of files, none was asked from an index on
pub record AskedBefore (files : List FileDescriptorProto) (numbers : List ℕ → Option ℕ) (end : ℕ)
    (sight : Sight) : Type 0 where
  pub publics : PublicsOf files numbers sight.publics
  pub last : (n : ℕ) → IfSome (last_seen sight.seen.last n) (λ last. last < end)
