use Rattle.std.proofs.Common.{◌≡◌}
use Rattle.script_devices.specs.Device.{Gave}
use Rattle.descriptor_linker.proofs.runs.read_all.Given as goal

abbrev pub invariant-loop-bytes : goal.invariant-loop-bytes
invariant-loop-bytes g l =
    let source = g.R.ScriptInput.source in
    ((source l.input).failures ≡ (source l.initial.input).failures) × Gave (source l.initial.input).bytes l.bytes.items (source l.input).bytes

abbrev pub decreases-loop-bytes : goal.decreases-loop-bytes
decreases-loop-bytes g l = (g.R.ScriptInput.source l.input).reads_left
