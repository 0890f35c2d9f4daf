-- What loading bytes as a pool ends in.
use Rattle.std.specs.Prelude.{◌≡◌, ℕ, List, MatchResult, Result, Ok, Err}
use Rattle.proto_types.specs.declared.file.FileDescriptorSet.{FileDescriptorSet}
use Rattle.descriptor_decoding.specs.Decoding.{file_set_of}
use Rattle.descriptor_decoding.specs.Merging.{Fails}
use Rattle.descriptor_decoding.specs.declared.error.DecodeError.TheVariants as decoding
use Rattle.pool_types.specs.Contents.{Contents, files_of, no_contents}
use Rattle.descriptor_pool.specs.declared.error.BuildError.{BuildError}
use Rattle.descriptor_pool.specs.declared.error.BuildError.TheVariants.{TooMany, Descriptor}
use Rattle.descriptor_pool.specs.declared.error.BuildError.TheVariants.{OutOfMemory}
use Rattle.descriptor_pool.specs.Invariant.{IsPool}
use Rattle.descriptor_pool.specs.Outcome.{IsLinked}
use Rattle.descriptor_pool.specs.Pool.{Batch, Fits, counts_after, faults}
use Rattle.stored_pools.specs.declared.storing.LoadError.{LoadError}
use Rattle.stored_pools.specs.declared.storing.LoadError.TheVariants.{Decode, Build}
use Rattle.stored_pools.specs.Stored.{AreWhole, MakesPool, stored}

-- what linking files at once from nothing ends in: a pool, too much of a kind, or all faults of the
-- first pass that finds any, unless memory was refused
abbrev pub AreLinked : Batch → Result Contents BuildError → Type 0
AreLinked files (Ok p) = IsLinked no_contents files p
AreLinked files (Err (TooMany kind)) = counts_after no_contents files ≡ Err kind
AreLinked files (Err (Descriptor error)) = Fits no_contents files
    × (error.errors ≡ faults no_contents files)
AreLinked files (Err OutOfMemory) = Unit {0}

-- bytes are a set whose files are not linked
pub record AreNotLinked (bytes : List ℕ) (error : BuildError) : Type 0 where
  pub set : FileDescriptorSet
  pub read : file_set_of bytes ≡ Ok set
  pub refused : AreLinked set.file (Err error)

-- what loading bytes ends in: the pool that they make, their fault, or why their files are not
-- linked
abbrev pub Loads : List ℕ → Result Contents LoadError → Type 0
Loads bytes (Ok p) = MakesPool bytes p
Loads bytes (Err (Decode error)) = Fails error (file_set_of bytes)
Loads bytes (Err (Build error)) = AreNotLinked bytes error

-- memory was refused, while bytes were decoded or while their files were linked
abbrev pub LacksMemory : LoadError → Type 0
LacksMemory (Decode error) = error ≡ decoding.OutOfMemory
LacksMemory (Build error) = error ≡ OutOfMemory

-- what loading ends in where the bytes are those that a pool was stored as, and its linked files
-- are whole: that pool, unless memory was refused
abbrev pub LoadsAgain : List ℕ → Result Contents LoadError → Type 0
LoadsAgain bytes result = (p : Contents) → IsPool p → AreWhole (files_of p) → bytes ≡ stored p
    → MatchResult result (λ q. q ≡ p) LacksMemory
