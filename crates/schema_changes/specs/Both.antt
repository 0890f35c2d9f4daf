-- Two pools that are compared.
use Rattle.schema_changes.specs.Parts.{Parts}

-- an old and a new pool
pub record Both : Type 0 where
  pub older : Parts
  pub newer : Parts
