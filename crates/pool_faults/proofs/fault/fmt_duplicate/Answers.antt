use Rattle.std.proofs.Common.{rules, ◌≡◌, sym, FitsSigned, w32, to_z, of_z, to_z-of_z}
use Rattle.pool_faults.proofs.fault.fmt_duplicate.Goals as goal

-- the number is what is written and read back
pub returns : goal.returns
returns g c =
    let fits : FitsSigned w32 c.args.number = search rules in
    let same : c.args.number ≡ to_z w32 (of_z w32 c.args.number) = sym (to_z-of_z fits) in
    rw same c.write.ensures.writes
