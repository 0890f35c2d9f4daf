-- What the package of a file may not be (protobuf's `AddPackage` and `BuildFile`).
use Rattle.std.specs.Prelude.{ℕ, nat_lt, Bool, not, ◌==◌, List, [], ◌++◌, length, if◌then◌else◌}
use Rattle.std.specs.List.{list_any, slice_split}
use Rattle.plain_data.specs.Lists.{only_if}
use Rattle.proto_types.specs.declared.tag.file.TheConstants.{PACKAGE}
use Rattle.pool_types.specs.declared.contents.definition.Identity.{Identity}
use Rattle.protoc_rules.specs.declared.faults.StrictFault.{StrictFault}
use Rattle.protoc_rules.specs.declared.faults.StrictKind.TheVariants as kind
use Rattle.protoc_rules.specs.Faults.{at_part}
use Rattle.protoc_rules.specs.Names.{is_identifier}

-- the parts of a package, between its dots
abbrev pub package_parts : List ℕ → List (List ℕ)
package_parts name = slice_split (λ c. c == 46) name

-- whether a part is no identifier
abbrev pub is_wrong : List ℕ → Bool
is_wrong part = not (is_identifier part)

-- whether one of some parts is no identifier
abbrev pub has_wrong_part : List (List ℕ) → Bool
has_wrong_part parts = list_any is_wrong parts

-- what the parts of a package may not be: other than identifiers, nor more than 101
abbrev pub part_faults : Identity → List (List ℕ) → List StrictFault
part_faults id parts = only_if (has_wrong_part parts) (at_part kind.InvalidPackage id PACKAGE)
    ++ only_if (nat_lt 101 (length parts)) (at_part kind.DeepPackage id PACKAGE)

-- what the package of a file may not be; the empty one is none
abbrev pub package_faults : Identity → List ℕ → List StrictFault
package_faults id name = if length name == 0 then [] else part_faults id (package_parts name)
