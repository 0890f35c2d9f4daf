use Rattle.std.proofs.Common.{◌≡◌, [], drop}
use Rattle.descriptor_check.specs.Olders.{olders_behind}
use Rattle.descriptor_check.proofs.olders.read_olders.Given as goal

-- the older versions so far, and those of the inputs that are left
abbrev pub invariant-loop-input : goal.invariant-loop-input
invariant-loop-input l =
    olders_behind l.wanted l.olders (drop l.input-index l.inputs) ≡ olders_behind l.wanted [] l.inputs
