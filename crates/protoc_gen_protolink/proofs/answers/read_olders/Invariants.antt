use Rattle.std.proofs.Common.{take}
use Rattle.descriptor_check.specs.Runs.{AreInputsOf}
use Rattle.protoc_gen_protolink.proofs.answers.read_olders.Given as goal

-- the files so far are read
abbrev pub invariant-loop-name : goal.invariant-loop-name
invariant-loop-name g l =
    AreInputsOf (g.D.PluginDevices.told l.devices).bytes_of (take l.name-index l.names) l.inputs
