-- Pools that are stored as sets of files, and loaded again.
use Rattle.std.specs.Prelude.{◌≡◌, ◌<◌, ◌^◌, ℕ, List, length, Ok}
use Rattle.proto_types.specs.declared.file.FileDescriptorProto.{FileDescriptorProto}
use Rattle.proto_types.specs.declared.file.FileDescriptorSet.{FileDescriptorSet}
use Rattle.descriptor_decoding.specs.Decoding.{file_set_of}
use Rattle.descriptor_encoding.specs.Encoding.{set_encoding}
use Rattle.descriptor_encoding.specs.Whole.{IsSet}
use Rattle.pool_types.specs.Contents.{Contents, files_of, no_contents}
use Rattle.descriptor_pool.specs.Outcome.{IsLinked}
use Rattle.descriptor_pool.specs.Pool.{Batch, link}

-- the set of some files
abbrev pub set_of : List FileDescriptorProto → FileDescriptorSet
set_of fs = record { file = fs }

-- files are read as they were written: texts are UTF-8, numbers have 32 bits, what was read of
-- options is what their bytes say, and a set of the files has at most a hundred levels
abbrev pub AreWhole : List FileDescriptorProto → Type 0
AreWhole fs = IsSet 100 (set_of fs)

-- what a pool is stored as: the canonical encoding of the set of its linked files
abbrev pub stored : Contents → List ℕ
stored p = set_encoding (set_of (files_of p))

-- bytes are a set of files that, linked at once from nothing, fit, break nothing and make a pool
pub record MakesPool (bytes : List ℕ) (p : Contents) : Type 0 where
  pub set : FileDescriptorSet
  pub read : file_set_of bytes ≡ Ok set
  pub linked : IsLinked no_contents set.file p

-- law: what a pool is stored as makes an equal pool, where its linked files are whole and the bytes
-- are fewer than 2 ^ 64
abbrev pub StoredIsLoaded : Contents → Type 0
StoredIsLoaded p = AreWhole (files_of p) → length (stored p) < 2 ^ 64 → MakesPool (stored p) p

-- law: where the files of a pool and those of a batch are whole, so are the linked files of the
-- pool with the batch
abbrev pub LinkedAreWhole : Contents → Type 0
LinkedAreWhole p =
    AreWhole (files_of p) → (batch : Batch) → AreWhole batch → AreWhole (files_of (link p batch))

-- law: the pool that a batch of whole files makes, linked at once from nothing, is stored as bytes
-- that make an equal pool, where they are fewer than 2 ^ 64
abbrev pub LinkedIsLoaded : Type 0
LinkedIsLoaded = (batch : Batch) → AreWhole batch → (p : Contents) → IsLinked no_contents batch p
    → length (stored p) < 2 ^ 64 → MakesPool (stored p) p
