-- Faults, and where they are.
use Rattle.std.specs.Prelude.{ℕ, ◌-◌, List, length}
use Rattle.wire_format.specs.declared.fault.WireFault.{WireFault}
use Rattle.wire_format.specs.declared.fault.WireFaultKind.{WireFaultKind}

-- the offset at which bytes begin that end at offset ends
abbrev pub offset : ℕ → List ℕ → ℕ
offset ends bytes = ends - length bytes

-- a fault where these bytes begin
abbrev pub fault : WireFaultKind → ℕ → List ℕ → WireFault
fault kind ends bytes = record { kind = kind; at = offset ends bytes }
