-- The two pools of two versions.
use Rattle.schema_changes.specs.Both.{Both}
use Rattle.schema_changes.specs.Parts.{parts_of}
use Rattle.pool_changes.specs.Sides.{Versions, reader, writer}

-- the version that writes as the older pool, and the one that reads as the newer one
abbrev pub pools_of : Versions → Both
pools_of v = record { older = parts_of (writer v); newer = parts_of (reader v) }
