use Rattle.std.proofs.lemmas.Grind.{common_steps}
use Rattle.std.proofs.Common.{refl, arith}
use Rattle.link_script.proofs.Innermost.{innermost_of}
use Rattle.link_script.proofs.records.RecordBuilder.amend.Goals as goal

pub returns-in_ok-state : goal.returns-in_ok-state
returns-in_ok-state c =
    let records = c.args.self.now.open_records in
    let innermost = innermost_of records.items records.len c.in-Some.innermost.now c.state.new.self records.ok.0 (c.in-Some.ensures.variant.0 refl) c.in-Some.ensures.value in
    rw (innermost.before, innermost.after, c.in_ok-state.ensures, c.extends_after-self.ensures) refl

pub returns-in_default : goal.returns-in_default
returns-in_default c = grind (arith, common_steps)
