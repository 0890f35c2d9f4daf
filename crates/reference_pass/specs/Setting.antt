-- What declarations are read against: files, what names mean, and which files each file sees.
use Rattle.std.specs.Prelude.{ℕ, List, [], slice_get, unwrap_or}
use Rattle.std.specs.BTreeSet.{BTreeSet, contains_by}
use Rattle.std.specs.Ordering.{nat_cmp}
use Rattle.pool_types.specs.declared.contents.definition.Definition.{Definition}
use Rattle.pool_types.specs.Contents.{ByText}
use Rattle.proto_types.specs.declared.file.FileDescriptorProto.{FileDescriptorProto}
use Rattle.name_resolution.specs.declared.filter.ResolveNameFilter.{ResolveNameFilter}
use Rattle.name_resolution.specs.Resolution.{Resolution, resolution}

-- what declarations are read against: files, what names and the names of files mean, and which
-- files each file sees
pub record Setting : Type 0 where
  pub files : List FileDescriptorProto
  pub names : ByText Definition
  pub file_names : ByText ℕ
  pub seen : List (BTreeSet ℕ)

-- the files that the file with an index sees
abbrev pub seen_by : Setting → ℕ → BTreeSet ℕ
seen_by s file = unwrap_or (slice_get s.seen file) (record { keys = [] })

-- what a reference means that is written in a scope of a file, by the files that this file sees
abbrev pub resolve : Setting → ℕ → List ℕ → ResolveNameFilter → List ℕ → Resolution
resolve s file scope filter written =
    resolution s.names (λ n. contains_by (nat_cmp n) (seen_by s file)) filter scope written
