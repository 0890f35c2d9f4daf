-- What reading and writing do, as a reader and a writer tell it.
use Rattle.std.specs.Prelude.{◌≡◌, ℕ, ◌+◌, ◌^◌, ◌-◌, ◌<◌, ◌≤◌, List, [], ◌++◌, length, take}
use Rattle.std.specs.declared.option.Option.{Option}
use Rattle.std.specs.declared.option.Option.TheVariants.{None, Some}
use Rattle.std.specs.declared.result.Result.{Result}
use Rattle.std.specs.declared.result.Result.TheVariants.{Ok, Err}

-- the most calls of a device that can fail
abbrev pub failure_limit : ℕ
failure_limit = 2 ^ 64 - 1

-- what a reader tells: the bytes that are still to come, or nothing of them; how many of its calls
-- failed; and how many reads there are at most before its end or a failure
pub record Source : Type 0 where
  pub bytes : Option (List ℕ)
  pub failures : ℕ
  pub reads_left : ℕ

-- the bytes that came are the first of those that were to come
abbrev pub Gave : Option (List ℕ) → List ℕ → Option (List ℕ) → Type 0
Gave None came new = new ≡ None
Gave (Some old) came new = (rest : List ℕ) × (old ≡ came ++ rest) × (new ≡ Some rest)

-- a reader that gives no byte where there is room has none left
abbrev pub AtEnd : Option (List ℕ) → ℕ → List ℕ → Type 0
AtEnd None room came = Unit {0}
AtEnd (Some old) room came = came ≡ [] → 0 < room → old ≡ []

-- a read gave the first of the bytes that were to come, and none of some only at the end
pub record HasRead (old new : Source) (buffer : List ℕ) (n : ℕ) : Type 0 where
  pub within : n ≤ length buffer
  pub gave : Gave old.bytes (take n buffer) new.bytes
  pub ended : AtEnd old.bytes (length buffer) (take n buffer)
  pub failures : new.failures ≡ old.failures
  pub fewer : 0 < n → new.reads_left < old.reads_left

-- a read failed, and is counted
pub record HasFailedToRead (old new : Source) : Type 0 where
  pub counted : new.failures ≡ old.failures + 1

-- what a read does to a reader, by its answer
abbrev pub Reads : {E : Type 0} → Source → Source → List ℕ → Result ℕ E → Type 0
Reads old new buffer (Ok n) = HasRead old new buffer n
Reads old new buffer (Err _) = HasFailedToRead old new

-- what a writer tells: the bytes that it took, or nothing of them; how many of its calls failed;
-- and how many took no byte of some
pub record Sink : Type 0 where
  pub bytes : Option (List ℕ)
  pub failures : ℕ
  pub idle : ℕ

-- a writer has further bytes behind those that it had
abbrev pub Took : Option (List ℕ) → List ℕ → Option (List ℕ) → Type 0
Took None went new = new ≡ None
Took (Some old) went new = new ≡ Some (old ++ went)

-- a write took the first of the bytes that it was handed
pub record HasWritten (old new : Sink) (bytes : List ℕ) (n : ℕ) : Type 0 where
  pub within : n ≤ length bytes
  pub took : Took old.bytes (take n bytes) new.bytes
  pub failures : new.failures ≡ old.failures
  pub idle : n ≡ 0 → 0 < length bytes → new.idle ≡ old.idle + 1
  pub busy : 0 < n → new.idle ≡ old.idle
  pub nothing : length bytes ≡ 0 → new.idle ≡ old.idle

-- a write failed, took nothing, and is counted
pub record HasFailedToWrite (old new : Sink) : Type 0 where
  pub same : new.bytes ≡ old.bytes
  pub idle : new.idle ≡ old.idle
  pub counted : new.failures ≡ old.failures + 1

-- what a write does to a writer, by its answer
abbrev pub Writes : {E : Type 0} → Sink → Sink → List ℕ → Result ℕ E → Type 0
Writes old new bytes (Ok n) = HasWritten old new bytes n
Writes old new bytes (Err _) = HasFailedToWrite old new
