use Rattle.std.proofs.Common.{rules, ◌≡◌, sym, FitsSigned, w32, w64, to_z, of_z, to_z-of_z}
use Rattle.pool_faults.proofs.fault.fmt_in_range.Goals as goal

-- each number is what is written and read back
pub returns : goal.returns
returns g c =
    let number_fits : FitsSigned w32 c.args.number = search rules in
    let first_fits : FitsSigned w32 c.args.around.first = search rules in
    let last_fits : FitsSigned w64 c.args.around.last = search rules in
    let number : c.args.number ≡ to_z w32 (of_z w32 c.args.number) = sym (to_z-of_z number_fits) in
    let first : c.args.around.first ≡ to_z w32 (of_z w32 c.args.around.first) = sym (to_z-of_z first_fits) in
    let last : c.args.around.last ≡ to_z w64 (of_z w64 c.args.around.last) = sym (to_z-of_z last_fits) in
    rw number (rw first (rw last c.write.ensures.writes))
