-- What the devices of a run tell of themselves.
use Rattle.std.specs.Prelude.{◌≡◌, ℕ, List, [], ◌∷◌, ◌++◌}
use Rattle.std.specs.Option.{option_map}
use Rattle.std.specs.declared.option.Option.{Option}
use Rattle.std.specs.declared.option.Option.TheVariants.{None, Some}
use Rattle.descriptor_check.specs.declared.answer.LinkedSet.{LinkedSet}
use Rattle.descriptor_check.specs.declared.devices.DeviceError.{DeviceError}
use Rattle.descriptor_check.specs.declared.devices.DeviceError.TheVariants.{Failed}

-- what devices tell: the words of the arguments, the bytes of the file with a name, what was
-- written to the standard output and to the standard error, and the sets that became files, in
-- order; nothing of each that they do not tell
pub record Devices : Type 0 where
  pub words : Option (List (List ℕ))
  pub bytes_of : List ℕ → Option (List ℕ)
  pub report : Option (List ℕ)
  pub complaint : Option (List ℕ)
  pub sets : Option (List LinkedSet)

-- devices that tell nothing of themselves
abbrev pub untold : Devices
untold = record { words = None; bytes_of = λ _. None; report = None; complaint = None; sets = None }

-- what was read is what is told, if it is told
abbrev pub IsTold : {A : Type 0} → Option A → A → Type 0
IsTold None read = Unit {0}
IsTold (Some told) read = read ≡ told

-- what is told can be read: where it fails otherwise than by want of memory, nothing is told
abbrev pub FailsUntold : {A : Type 0} → Option A → DeviceError → Type 0
FailsUntold told error = (why : List ℕ) → error ≡ Failed why → told ≡ None

-- a text behind what was written, if that is told
abbrev pub written_behind : List ℕ → Option (List ℕ) → Option (List ℕ)
written_behind text written = option_map (λ front. front ++ text) written

-- a text written to the standard output
abbrev pub with_report : List ℕ → Devices → Devices
with_report text d = record d { report = written_behind text d.report }

-- a text written to the standard error
abbrev pub with_complaint : List ℕ → Devices → Devices
with_complaint text d = record d { complaint = written_behind text d.complaint }

-- one set more that became a file
abbrev pub with_set : LinkedSet → Devices → Devices
with_set set d = record d { sets = option_map (λ sets. sets ++ set ∷ []) d.sets }
