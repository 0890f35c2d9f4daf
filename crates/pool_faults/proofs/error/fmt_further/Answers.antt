use Rattle.std.proofs.Common.{◌≡◌, ◌++◌, ◌+◌, take, arith, rules}
use Rattle.std.proofs.Output.{has_written_append, has_written_of_eq}
use Rattle.std.proofs.lemmas.Grind.{common_steps}
use Rattle.std.specs.List.{flat_map}
use Rattle.pool_faults.specs.Fault.{further_line}
use Rattle.pool_faults.proofs.error.fmt_further.Goals as goal

pub loop-fault-preserved : goal.loop-fault-preserved
loop-fault-preserved g c = λ plain.
    let faults = c.args.faults.now in
    let told = flat_map further_line (take c.loop-fault.fault-index faults) in
    let line = further_line c.fault-item.result in
    let next : told ++ line ≡ flat_map further_line (take (c.loop-fault.fault-index + 1) faults) = grind (arith, common_steps) in
    has_written_of_eq _ _ _ _ _ next (has_written_append _ _ told _ line _ (c.loop-fault.invariant plain) (search rules))
