-- What a reader and a writer of the library tell: none of their bytes, and the counts alone.
use Rattle.std.specs.Prelude.{ℕ}
use Rattle.std.specs.declared.option.Option.TheVariants.{None}
use Rattle.script_devices.specs.Device.{Source, Sink}

-- what a reader of the library tells: none of its bytes, and the counts alone
abbrev pub untold_source : ℕ → ℕ → Source
untold_source failures reads_left = record {
  bytes = None;
  failures = failures;
  reads_left = reads_left;
}

-- what a writer of the library tells: none of its bytes, and the counts alone
abbrev pub untold_sink : ℕ → ℕ → Sink
untold_sink failures idle = record { bytes = None; failures = failures; idle = idle }
