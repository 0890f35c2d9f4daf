-- The fault of a reference that isn't found.
use Rattle.std.specs.Prelude.{ℕ, ℤ, List}
use Rattle.std.specs.declared.option.Option.{Option}
use Rattle.std.specs.declared.option.Option.TheVariants.{None, Some}
use Rattle.pool_faults.specs.declared.fault.DescriptorErrorKind.{DescriptorErrorKind}
use Rattle.pool_faults.specs.declared.fault.DescriptorErrorKind.TheVariants.{NameNotFound}
use Rattle.pool_faults.specs.declared.fault.DescriptorErrorKind.TheVariants.{NameShadowed}
use Rattle.pool_faults.specs.declared.fault.DescriptorErrorKind.TheVariants.{InvalidType}
use Rattle.proto_types.specs.declared.file.FileDescriptorProto.{FileDescriptorProto}
use Rattle.name_resolution.specs.Filter.{filter_text}
use Rattle.pool_faults.specs.Labels.{label_in}
use Rattle.name_resolution.specs.Resolution.{Resolution, found, invalid_type, not_imported}
use Rattle.name_resolution.specs.Resolution.{shadowed, not_found}

-- the fault of a reference at a path of a file: `NameNotFound` with the name as written where
-- nothing was found, and with the full name where it isn't seen; `NameShadowed` with both;
-- `InvalidType` with the full name and the words for what was wanted; none where it was found
abbrev pub reference_fault : List FileDescriptorProto → List ℕ → ℕ → List ℤ → Resolution
    → Option DescriptorErrorKind
reference_fault files written file path (found _ _) = None
reference_fault files written file path (invalid_type name def filter) =
    Some (InvalidType name (filter_text filter) (label_in files file path)
    (label_in files def.file def.path))
reference_fault files written file path (not_imported name _) =
    Some (NameNotFound name (label_in files file path))
reference_fault files written file path (shadowed _ full) =
    Some (NameShadowed written full (label_in files file path))
reference_fault files written file path not_found =
    Some (NameNotFound written (label_in files file path))
