use Rattle.std.proofs.Common.{◌≡◌, suc, refl, ◌∙◌, arith}
use Rattle.record_walk.specs.Faults.{told_in}
use Rattle.record_walk.proofs.Telling.{told-counted}
use Rattle.record_walk.proofs.faults.Faults.leave_out.Goals as goal

-- one more is counted
pub returns-clause-told : goal.returns-clause-told
returns-clause-told c = λ fault.
    let told = told_in c.args.self.now in
    let one : c.in-Some.rest ≡ suc c.args.self.now.rest = omega (arith, c.in-Some.ensures) in
    record { told = (λ i. record told { rest = one i }) ∙ told-counted told fault c.requires; files = refl }
