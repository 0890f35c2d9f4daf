-- What is given back of new files that were refused.
use Rattle.std.specs.Prelude.{◌≡◌, Bool, true, false, List}
use Rattle.std.specs.declared.result.Result.{Result}
use Rattle.std.specs.declared.result.Result.TheVariants.{Ok, Err}
use Rattle.proto_types.specs.declared.file.FileDescriptorProto.{FileDescriptorProto}
use Rattle.descriptor_pool.specs.declared.error.BuildError.{BuildError}
use Rattle.descriptor_pool.specs.declared.error.BuildError.TheVariants.{TooMany, Descriptor}
use Rattle.descriptor_pool.specs.declared.error.BuildError.TheVariants.{OutOfMemory}

-- whether new files were refused since they break rules
abbrev pub breaks_rules : {U : Type 0} → Result U BuildError → Bool
breaks_rules (Ok _) = false
breaks_rules (Err (TooMany kind)) = false
breaks_rules (Err (Descriptor error)) = true
breaks_rules (Err OutOfMemory) = false

-- new files that are too many or break rules are given back as they were; nothing is said of what
-- is left of files that are linked, or for which memory was refused
abbrev pub GivesBack : {U : Type 0} → Result U BuildError → List FileDescriptorProto
    → List FileDescriptorProto → Type 0
GivesBack (Ok _) new back = Unit {0}
GivesBack (Err (TooMany kind)) new back = back ≡ new
GivesBack (Err (Descriptor error)) new back = back ≡ new
GivesBack (Err OutOfMemory) new back = Unit {0}
