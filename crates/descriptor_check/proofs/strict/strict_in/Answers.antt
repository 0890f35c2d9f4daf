use Rattle.std.proofs.Common.{◌≡◌, subst, sym}
use Rattle.std.specs.Prelude.{IfOk}
use Rattle.protoc_rules.specs.Strict.{strict_faults}
use Rattle.descriptor_check.specs.Strict.{strict_in}
use Rattle.descriptor_check.specs.declared.verdicts.Verdict.TheVariants.{Accepted}
use Rattle.descriptor_check.proofs.strict.strict_in.Goals as goal

-- the items that are lent are those of the pool
pub returns-in-Some-Accepted : goal.returns-in-Some-Accepted
returns-in-Some-Accepted c =
    let m = c.in-Some-Accepted in
    let told = subst (λ l. IfOk c.strict_faults.result (λ faults. faults ≡ strict_faults l m.types)) c.linked_in.ensures c.strict_faults.ensures in
    let known = subst (λ t. IfOk c.strict_faults.result (λ faults. faults ≡ strict_in t (Accepted m.pool))) (sym m.is-0) told in
    subst (λ v. IfOk c.strict_faults.result (λ faults. faults ≡ strict_in c.args.types.now v)) (sym m.is-1) known
