-- What declarations are read with, and the faults that reading appends, where all else stays.
use Rattle.std.specs.Prelude.{◌≡◌, List, map}
use Rattle.pool_faults.specs.declared.fault.DescriptorErrorKind.{DescriptorErrorKind}
use Rattle.record_walk.specs.Faults.{Tells, named_files}
use Rattle.reference_pass.specs.Setting.{Setting}
use Rattle.reference_pass.specs.declared.reading.Reading.{Reading}

-- the setting that a reading of the code reads declarations against
abbrev pub setting_of : Reading → Setting
setting_of r = record {
  files = named_files r.faults;
  names = r.names;
  file_names = r.file_names.now;
  seen = map (λ f. f.transitive_dependencies) r.faults.labels;
}

-- a check has appended certain faults to those that were found before it, and all else of what it
-- reads with stays
pub record ReadingTells (old new : Reading) (faults : List DescriptorErrorKind) : Type 0 where
  pub told : Tells old.faults new.faults faults
  pub names : new.names ≡ old.names
  pub file_names : new.file_names ≡ old.file_names
