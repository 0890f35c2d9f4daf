-- What a reader and a writer over memory tell, and which of their calls fails.
use Rattle.std.specs.Prelude.{◌≡◌, ℕ, ◌-◌, ◌^◌, ◌<◌, ◌⊎◌, List, length}
use Rattle.std.specs.declared.option.Option.TheVariants.{Some}
use Rattle.script_devices.specs.Device.{Source, Sink}

-- what a reader tells that has bytes to be read, of which the reads that failed are counted
abbrev pub source_over : List ℕ → ℕ → Source
source_over bytes failures = record {
  bytes = Some bytes;
  failures = failures;
  reads_left = length bytes;
}

-- what a writer tells that has taken bytes, with the counts of the calls that failed and of those
-- that took no byte of some
abbrev pub sink_over : List ℕ → ℕ → ℕ → Sink
sink_over bytes failures idle = record { bytes = Some bytes; failures = failures; idle = idle }

-- a reader over memory: what it tells, and the number of the call, from here, that fails, or 0
pub record FusedSource : Type 0 where
  pub source : Source
  pub fuse : ℕ

-- a writer over memory: what it tells, how many bytes it still takes, and the number of the call,
-- from here, that fails, or 0
pub record FusedSink : Type 0 where
  pub sink : Sink
  pub room : ℕ
  pub fuse : ℕ

-- a write over memory fails: its fuse burns, or it would take no byte of some and cannot be counted
abbrev pub MustFail : FusedSink → List ℕ → Type 0
MustFail old bytes = (old.fuse ≡ 1)
    ⊎ ((old.room ≡ 0) × (0 < length bytes) × (old.sink.idle ≡ 2 ^ 64 - 1))
