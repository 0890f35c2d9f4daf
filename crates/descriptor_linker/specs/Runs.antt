-- How a run of a script ends, and what it has read and written then.
use Rattle.std.specs.Prelude.{◌≡◌, ◌≢◌, ℕ, ◌<◌, ◌⊎◌, List, [], ◌++◌}
use Rattle.std.specs.declared.option.Option.TheVariants.{None, Some}
use Rattle.descriptor_linker.specs.declared.ending.Ending.{Ending}
use Rattle.descriptor_linker.specs.declared.ending.Ending.TheVariants as ending
use Rattle.script_devices.specs.Device.{Source, Sink, Took}
use Rattle.link_script.specs.Script.Reading.{script}
use Rattle.descriptor_linker.specs.Report.Session.{report}

-- no read and no write failed, and each write of some bytes took one at least
pub record HasNotStopped (old new : Source) (before after : Sink) : Type 0 where
  pub reads : new.failures ≡ old.failures
  pub writes : after.failures ≡ before.failures
  pub idle : after.idle ≡ before.idle

-- the input was read to its end, and the whole report of all its bytes was written
pub record IsWhole (bytes : List ℕ) (source : Source) (old new : Sink) : Type 0 where
  pub ended : source.bytes ≡ Some []
  pub wrote : Took old.bytes (report (script bytes)) new.bytes

-- memory was refused: no read and no write failed, and nothing was written
pub record HasRefused (old new : Source) (before after : Sink) : Type 0 where
  pub unfailed : HasNotStopped old new before after
  pub nothing : after.bytes ≡ before.bytes

-- a read failed, and nothing was written
pub record HasBrokenIn (old new : Source) (before after : Sink) : Type 0 where
  pub failed : old.failures < new.failures
  pub nothing : after.bytes ≡ before.bytes

-- a write failed, or took no byte of some, and a beginning of the report was written
pub record HasBrokenOut (bytes : List ℕ) (before after : Sink) : Type 0 where
  pub stopped : (before.failures < after.failures) ⊎ (before.idle < after.idle)
  pub began : (front rest : List ℕ) × (report (script bytes) ≡ front ++ rest)
      × Took before.bytes front after.bytes

-- a read failed, or a write failed or took no byte of some
abbrev pub HasStopped : Source → Source → Sink → Sink → Type 0
HasStopped old new before after = (old.failures < new.failures)
    ⊎ ((before.failures < after.failures) ⊎ (before.idle < after.idle))

-- how a run over bytes may end, by its ending: the whole report of a script without a fault or of
-- one with a fault; refused memory; or a device that failed, in reading or in writing
abbrev pub RunsTo : List ℕ → Source → Source → Sink → Sink → Ending → Type 0
RunsTo bytes old new before after ending.Whole = IsWhole bytes new before after
    × ((script bytes).fault ≡ None)
RunsTo bytes old new before after ending.ScriptFault = IsWhole bytes new before after
    × ((script bytes).fault ≢ None)
RunsTo bytes old new before after ending.OutOfMemory = HasRefused old new before after
RunsTo bytes old new before after ending.Device = HasBrokenIn old new before after
    ⊎ HasBrokenOut bytes before after
