use Rattle.std.proofs.Common.{◌≡◌, ℕ, List, ◌++◌, length}
use Rattle.script_devices.specs.Device.{Took}
use Rattle.descriptor_linker.proofs.runs.write_all.Given as goal

abbrev pub invariant-loop-rest : goal.invariant-loop-rest
invariant-loop-rest g l =
    let sink = g.W.ReportOutput.sink in
    ((sink l.output).failures ≡ (sink l.initial.output).failures)
    × ((sink l.output).idle ≡ (sink l.initial.output).idle)
    × ((front : List ℕ) × (l.bytes ≡ front ++ l.rest) × Took (sink l.initial.output).bytes front (sink l.output).bytes)

abbrev pub decreases-loop-rest : goal.decreases-loop-rest
decreases-loop-rest g l = length l.rest
